-- `elementary::ln::ln` meets its contract: the tests leave the numbers above zero that are finite. Assumes nothing.
use Rattle.std.proofs.Common.{◌≡◌, sym, ◌∙◌, true}
use lib.Ieee.{lt, of_bits}
use Rattle.numbers.specs.Clamps.{plus_zero}
use Rattle.elementary.proofs.ExpSteps.{nan_alone}
use Rattle.elementary.proofs.LnCases.{at_nan, below_zero, at_zero, above_zero, at_infinity}
use Rattle.elementary.proofs.ln.ln.Goals as goal

pub returns-then-is_nan : goal.returns-then-is_nan
returns-then-is_nan c = at_nan _ (sym (c.is_nan.ensures.value ∙ nan_alone c.args.x) ∙ c.if-is_nan.true)

pub returns-then-x : goal.returns-then-x
unfolding of_bits
returns-then-x c = below_zero _ c.if-x.true

pub returns-then-x-2 : goal.returns-then-x-2
unfolding of_bits
returns-then-x-2 c = at_zero _ c.if-x-2.true

pub ln_above_zero-requires : goal.ln_above_zero-requires
ln_above_zero-requires c =
    let positive : lt plus_zero c.args.x ≡ true = above_zero _ (sym (c.is_nan.ensures.value ∙ nan_alone c.args.x) ∙ c.if-is_nan.false) c.if-x.false c.if-x-2.false in
    (positive, sym c.is_finite.ensures ∙ c.if-is_finite.true)

pub returns-else-is_finite : goal.returns-else-is_finite
returns-else-is_finite c =
    let positive : lt plus_zero c.args.x ≡ true = above_zero _ (sym (c.is_nan.ensures.value ∙ nan_alone c.args.x) ∙ c.if-is_nan.false) c.if-x.false c.if-x-2.false in
    at_infinity _ positive (sym c.is_finite.ensures ∙ c.if-is_finite.false)
