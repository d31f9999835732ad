-- `numbers::sizes::is_finite` meets its contract: an infinity less itself is a NaN, which equals nothing. Assumes nothing.
use Rattle.std.proofs.Common.{◌≡◌, true, false, refl}
use lib.Ieee.{Float, nan, inf, fin, binary64, sub, eq, of_bits}
use lib.Ieee.Scale.{finite}
use Rattle.numbers.specs.Clamps.{plus_zero}
use Rattle.numbers.proofs.Zeros.{plus_zero_lem, sub_itself}
use Rattle.numbers.proofs.sizes.is_finite.Goals as goal

zero_is_zero : eq plus_zero plus_zero ≡ true
unfolding eq of_bits
zero_is_zero = refl

by_the_test : (x : Float) → eq (sub binary64 x x) plus_zero ≡ finite x
unfolding sub eq
by_the_test nan = refl
by_the_test (inf true) = refl
by_the_test (inf false) = refl
by_the_test (fin s m e) = rw (sub_itself binary64 (fin s m e) tt, ← plus_zero_lem) zero_is_zero

pub returns : goal.returns
returns c = by_the_test _
