-- Which arm of a choice is taken. Assumes nothing.
use mathlib.Core.Path.{◌≡◌}
use mathlib.Core.Bool.{Bool, true, false, cond, ◌||◌}

module _ {Value : Type 0} (b : Bool) (x y : Value) where
  pub taken : b ≡ true → x ≡ cond b x y
  taken e = rw e

  pub left : b ≡ false → y ≡ cond b x y
  left e = rw e

-- either of two causes
pub by_first : (a b : Bool) → a ≡ true → true ≡ (a || b)
by_first a b e = rw e

pub by_second : (a b : Bool) → a ≡ false → b ≡ (a || b)
by_second a b e = rw e
