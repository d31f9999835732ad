-- The one NaN, and the pattern that is written for it. Assumes nothing.
use Rattle.std.proofs.Common.{◌≡◌, true, false, not, T, refl, subst}
use lib.Ieee.{Float, nan, inf, fin, binary64, is_nan, ne, eq, to_bits}

pub is_nan_lem : (x : Float) → is_nan x ≡ true → x ≡ nan
unfolding is_nan
is_nan_lem nan h = refl
is_nan_lem (inf s) h = cc
is_nan_lem (fin s m e) h = cc

-- only a NaN differs from itself
pub no_nan : (x : Float) → ne x x ≡ false → T (not (is_nan x))
unfolding is_nan ne eq
no_nan nan h = absurd (subst T h tt)
no_nan (inf s) h = tt
no_nan (fin s m e) h = tt

-- "A NaN is always written as 7ff8000000000000."
pub pattern_of_nan : to_bits binary64 nan ≡ 0x7ff8_0000_0000_0000
unfolding to_bits
pattern_of_nan = refl
