-- What the tests of an agreement say: a NaN alone differs from itself and equals nothing, and the library's size of a number is that of `Sizes`. Assumes nothing.
use Rattle.std.proofs.Common.{◌≡◌, Bool, true, false, not, T, inl, inr, refl, ap}
use Rattle.std.specs.Float.{Float, binary64, nan, inf, fin, float_with_sign}
use Rattle.std.specs.Float.Ieee.{is_nan, eq, ne, of_bits}
use Rattle.std.proofs.lemmas.Float.{le_refl, lt_irrefl, lt-or-eq, T_from_false}
use Rattle.numbers.specs.Sizes.{absolute}

pub nan_equals_none : (x y : Float) → is_nan x ≡ true → eq x y ≡ false
unfolding is_nan eq
nan_equals_none nan y h = refl
nan_equals_none (inf s) y h = cc
nan_equals_none (fin s m e) y h = cc

equal_to_itself : (x : Float) → is_nan x ≡ false → T (eq x x)
equal_to_itself x h = elim (lt-or-eq x x (le_refl x (T_from_false _ h))) [
  | inl below ↦ absurd (lt_irrefl x below)
  | inr same ↦ same
]

from_test : (b : Bool) → T b → not b ≡ false
from_test true t = refl
from_test false t = absurd t

pub number_differs_not : (x : Float) → is_nan x ≡ false → ne x x ≡ false
unfolding ne
number_differs_not x h = from_test (eq x x) (equal_to_itself x h)

pub nan_differs : (x : Float) → is_nan x ≡ true → ne x x ≡ true
unfolding ne
nan_differs x h = ap not (nan_equals_none x x h)

pub size_is_absolute : (x : Float) → float_with_sign false x ≡ absolute x
unfolding absolute float_with_sign
size_is_absolute nan = refl
size_is_absolute (inf s) = refl
size_is_absolute (fin s m e) = refl

pub infinity_is : of_bits binary64 0x7ff0_0000_0000_0000 ≡ inf false
unfolding of_bits
infinity_is = refl

pub ruleset float_tests = (nan_equals_none, nan_differs, number_differs_not, size_is_absolute, infinity_is)
