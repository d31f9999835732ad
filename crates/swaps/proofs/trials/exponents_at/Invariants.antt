-- `swaps::trials::exponents_at` meets its contract: the rates passed have given way to their exponents. Assumes nothing.
use Rattle.std.proofs.Common.{◌≡◌, map, take, drop, ◌++◌}
use Rattle.swaps.specs.inner.Runs.{exponent_of}
use Rattle.swaps.proofs.trials.exponents_at.Given as goal

abbrev pub invariant-loop-exponent : goal.invariant-loop-exponent
invariant-loop-exponent l = l.exponent-items ≡ map (λ x. exponent_of x l.t) (take l.exponent-index l.initial.exponent-items) ++ drop l.exponent-index l.initial.exponent-items
