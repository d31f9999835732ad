-- `numbers::patterns::float_of` meets its contract: the test says which patterns are a NaN's, and 0 / 0 is the NaN. Assumes nothing.
use Rattle.std.proofs.Common.{◌≡◌, Bool, not, T, sym, refl, ◌∙◌, subst}
use lib.Ieee.{nan, binary64, div, of_bits}
use lib.Ieee.Bits.{nan_bits_is}
use Rattle.numbers.proofs.Nans.{is_nan_lem}
use Rattle.numbers.proofs.patterns.float_of.Goals as goal

zero_by_zero : div binary64 (of_bits binary64 0) (of_bits binary64 0) ≡ nan
unfolding div of_bits
zero_by_zero = refl

pub float_from_bits-result : goal.float_from_bits-result
float_from_bits-result c = subst (λ (b : Bool). T (not b)) (sym (sym c.is_nan.ensures ∙ c.if-is_nan.false)) tt

pub returns-then-is_nan : goal.returns-then-is_nan
returns-then-is_nan c =
    let n = c.args.pattern in
    zero_by_zero ∙ sym (is_nan_lem (of_bits binary64 n) (sym (nan_bits_is binary64 n) ∙ sym c.is_nan.ensures ∙ c.if-is_nan.true))
