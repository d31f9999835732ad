-- `senyolanda::dated_swaps::day_count_in` meets its contract. Assumes nothing.
use Rattle.std.proofs.Common.{rules}
use Rattle.swaps.specs.Codes.{day_count_of}
use Rattle.swaps.specs.DatedSwap.{span_of, too_many_dated}
use Rattle.senyolanda.proofs.Coded.{waits}
use Rattle.senyolanda.proofs.dated_swaps.day_count_in.Goals as goal

pub returns : goal.returns
unfolding day_count_of too_many_dated span_of
returns c = waits _ _ _ _ _ c.day_count_of.ensures c.or_else.ensures (λ x p. p) (λ r p. search rules)
