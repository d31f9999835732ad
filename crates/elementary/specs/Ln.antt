-- ln by document 01's steps. Definitions only. Assumes nothing.
use Rattle.std.specs.Prelude.{ℕ, zero, suc, ◌+◌, ◌-◌, ◌*◌, ◌^◌, Bool, true, false, ℤ, pos, ◌+ℤ◌, Float}
use Rattle.std.specs.Float.{nan, inf, fin, binary64}
use Rattle.std.specs.Float.Ieee.{size, round, add, sub, mul, div, lt, of_int}
use Rattle.numbers.specs.Literals.{one, two, half, ln2_high, ln2_low, root_two}
use Rattle.elementary.specs.Horner.{horner}

-- "1/(2j+1), j from 10 down to 0", each rounded once
unfoldable pub inverse_odd : ℕ → Float
inverse_odd j = round binary64 false 1 (2 * j + 1)

-- "x = m·2^e, m in [1,2)": the n · 2 ^ k that x is, with the leading digit of n before the point
unfoldable pub leading : ℕ → Float
leading n = round binary64 false n (2 ^ (size n - 1))

unfoldable pub exponent : ℕ → ℤ → ℤ
exponent n k = pos (size n - 1) +ℤ k

-- "s = (m-1)/(m+1), w = s·s; Horner in w, giving q; answer e·h + (2·s·q + e·l)"
unfoldable pub slope : Float → Float
slope m = div binary64 (sub binary64 m one) (add binary64 m one)

unfoldable pub ln_of : Float → Float → Float
ln_of s e =
    add binary64 (mul binary64 e ln2_high)
    (add binary64 (mul binary64 (mul binary64 two s) (horner inverse_odd (mul binary64 s s) 0 10)) (mul binary64 e ln2_low))

-- "if m > 1.4142135623730951 halve m and add 1 to e"
unfoldable pub ln_by : Bool → Float → ℤ → Float
ln_by true m e = ln_of (slope (mul binary64 m half)) (of_int binary64 (e +ℤ pos 1))
ln_by false m e = ln_of (slope m) (of_int binary64 e)

-- "NaN and below zero give NaN, zero gives -infinity, +infinity stays."
unfoldable pub ln : Float → Float
ln nan = nan
ln (inf true) = nan
ln (inf false) = inf false
ln (fin s zero k) = inf true
ln (fin true (suc n) k) = nan
ln (fin false (suc n) k) = ln_by (lt root_two (leading (suc n))) (leading (suc n)) (exponent (suc n) k)
