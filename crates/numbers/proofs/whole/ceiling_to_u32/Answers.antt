-- `numbers::whole::ceiling_to_u32` meets its contract: the cut is a float without rounding, so the test says whether one more is due. Assumes nothing.
use Rattle.std.proofs.Common.{sym, ◌∙◌, arith}
use Rattle.numbers.specs.Whole.{largest, not_below}
use Rattle.numbers.proofs.Ratios.{not_below_of_ratio, ceiling_is, not_above_zero}
use Rattle.numbers.proofs.WholeNumbers.{too_large, up_to_bound, it_may_be_cut, cut_small, ceiling_above, ceiling_level}
use Rattle.numbers.proofs.whole.ceiling_to_u32.Goals as goal

pub returns-then-x : goal.returns-then-x
returns-then-x c = sym (ceiling_is _ ∙ too_large not_below not_below_of_ratio _ c.well_formed.0.1 c.if-x.true)

pub truncating_f64_to_u64-cut-requires : goal.truncating_f64_to_u64-cut-requires
truncating_f64_to_u64-cut-requires c = let w = it_may_be_cut (up_to_bound _ c.well_formed.0.1 c.if-x.false c.if-x-2.true) in record { lower_bound = w.0; upper_bound = w.1 }

pub overflow_cast-cut : goal.overflow_cast-cut
overflow_cast-cut c = omega (arith, cut_small (up_to_bound _ c.well_formed.0.1 c.if-x.false c.if-x-2.true) c.truncating_f64_to_u64-cut.ensures)

pub overflow_add-result : goal.overflow_add-result
overflow_add-result c = omega (arith, (ceiling_above (up_to_bound _ c.well_formed.0.1 c.if-x.false c.if-x-2.true) c.truncating_f64_to_u64-cut.ensures c.if-cut-x.true).0)

pub returns-then-cut-x : goal.returns-then-cut-x
returns-then-cut-x c = (ceiling_above (up_to_bound _ c.well_formed.0.1 c.if-x.false c.if-x-2.true) c.truncating_f64_to_u64-cut.ensures c.if-cut-x.true).1

pub returns-else-cut-x : goal.returns-else-cut-x
returns-else-cut-x c = ceiling_level (up_to_bound _ c.well_formed.0.1 c.if-x.false c.if-x-2.true) c.truncating_f64_to_u64-cut.ensures c.if-cut-x.false

pub returns-else-x-2 : goal.returns-else-x-2
returns-else-x-2 c = sym (ceiling_is _ ∙ not_above_zero not_below largest not_below_of_ratio _ c.if-x-2.false)
