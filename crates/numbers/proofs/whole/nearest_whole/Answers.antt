-- `numbers::whole::nearest_whole` meets its contract: the tests leave the numbers of which x + x is exact and may be cut. Assumes nothing.
use Rattle.std.proofs.Common.{sym, ◌∙◌, arith}
use Rattle.numbers.specs.Whole.{largest, nearest_to}
use Rattle.numbers.proofs.Ratios.{nearest_of_ratio, nearest_is, not_above_zero}
use Rattle.numbers.proofs.WholeNumbers.{too_large, up_to_bound, twice_may_be_cut, cut_twice_small, nearest_by_twice}
use Rattle.numbers.proofs.whole.nearest_whole.Goals as goal

pub returns-then-x : goal.returns-then-x
returns-then-x c = sym (nearest_is _ ∙ too_large nearest_to nearest_of_ratio _ c.well_formed.0.1 c.if-x.true)

pub truncating_f64_to_u64-requires : goal.truncating_f64_to_u64-requires
truncating_f64_to_u64-requires c = let w = twice_may_be_cut (up_to_bound _ c.well_formed.0.1 c.if-x.false c.if-x-2.true) in record { lower_bound = w.0; upper_bound = w.1 }

pub overflow_add-result : goal.overflow_add-result
overflow_add-result c = omega (arith, cut_twice_small (up_to_bound _ c.well_formed.0.1 c.if-x.false c.if-x-2.true) c.truncating_f64_to_u64.ensures)

pub overflow_cast-result : goal.overflow_cast-result
overflow_cast-result c = omega (arith, cut_twice_small (up_to_bound _ c.well_formed.0.1 c.if-x.false c.if-x-2.true) c.truncating_f64_to_u64.ensures)

pub returns-then-x-2 : goal.returns-then-x-2
returns-then-x-2 c = nearest_by_twice (up_to_bound _ c.well_formed.0.1 c.if-x.false c.if-x-2.true) c.truncating_f64_to_u64.ensures

pub returns-else-x-2 : goal.returns-else-x-2
returns-else-x-2 c = sym (nearest_is _ ∙ not_above_zero nearest_to largest nearest_of_ratio _ c.if-x-2.false)
