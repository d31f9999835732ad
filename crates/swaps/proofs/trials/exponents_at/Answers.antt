-- `swaps::trials::exponents_at` meets its contract: the rates passed have given way to their exponents. Assumes nothing.
use Rattle.std.proofs.Common.{arith}
use Rattle.std.proofs.lemmas.Grind.{common_steps}
use Rattle.std.proofs.lemmas.List.Edits.{map_over_more}
use lib.Ieee.{Float}
use Rattle.swaps.specs.inner.Runs.{exponent_of}
use Rattle.swaps.proofs.trials.exponents_at.Goals as goal

pub loop-exponent-preserved : goal.loop-exponent-preserved
loop-exponent-preserved c = grind (arith, common_steps, map_over_more (λ (x : Float). exponent_of x c.args.t))
