-- exp by document 01's steps. Definitions only. Assumes nothing.
use Rattle.std.specs.Prelude.{ℕ, zero, suc, ◌*◌, ◌^◌, Bool, true, false, cond, pos, Float}
use Rattle.std.specs.Float.{nan, inf, fin, binary64}
use Rattle.std.specs.Float.Ieee.{round, neg, sub, mul, lt, of_int}
use Rattle.numbers.specs.Literals.{seven_hundred_nine, minus_seven_hundred_eight, inverse_ln2, ln2_high, ln2_low}
use Rattle.numbers.specs.Clamps.{plus_zero}
use Rattle.numbers.specs.Sizes.{absolute}
use Rattle.numbers.specs.Whole.{nearest_whole}
use Rattle.elementary.specs.Horner.{horner}

-- "the coefficients 1/k! for k from 0 to 13, each rounded once"
unfoldable pub factorial : ℕ → ℕ
factorial zero = 1
factorial (suc k) = suc k * factorial k

unfoldable pub inverse_factorial : ℕ → Float
inverse_factorial k = round binary64 false 1 (factorial k)

-- "k is x·1.4426950408889634 to the nearest whole number, halves away": whether it is below zero, and its size
unfoldable pub below : Float → Bool
below x = lt (mul binary64 x inverse_ln2) plus_zero

unfoldable pub halvings : Float → ℕ
halvings x = nearest_whole (absolute (mul binary64 x inverse_ln2))

-- a whole number with a sign as a float, and 2 to its power
abbrev pub signed : Bool → ℕ → Float
signed s k = cond s (neg (of_int binary64 (pos k))) (of_int binary64 (pos k))

unfoldable pub two_to : Bool → ℕ → Float
two_to true k = round binary64 false 1 (2 ^ k)
two_to false k = round binary64 false (2 ^ k) 1

-- "r = (x - k·h) - k·l"
unfoldable pub reduced : Float → Float → Float
reduced x k = sub binary64 (sub binary64 x (mul binary64 k ln2_high)) (mul binary64 k ln2_low)

-- "Horner from the top; times 2^k"
unfoldable pub exp_within : Float → Float
exp_within x = mul binary64 (horner inverse_factorial (reduced x (signed (below x) (halvings x))) 0 13) (two_to (below x) (halvings x))

-- "NaN stays; x > 709 gives +infinity, x < -708 gives +0." Only then the steps run: each test is matched on, so that nothing beyond it is worked out.
unfoldable pub exp_not_above : Bool → Float → Float
exp_not_above true x = plus_zero
exp_not_above false x = exp_within x

unfoldable pub exp_of : Bool → Float → Float
exp_of true x = inf false
exp_of false x = exp_not_above (lt x minus_seven_hundred_eight) x

unfoldable pub exp : Float → Float
exp nan = nan
exp (inf s) = exp_of (lt seven_hundred_nine (inf s)) (inf s)
exp (fin s m e) = exp_of (lt seven_hundred_nine (fin s m e)) (fin s m e)
