-- What is written in front of a room of +0. Assumes nothing.
use mathlib.Core.Path.{◌≡◌, refl, sym, ap, ◌∙◌}
use mathlib.Core.List.{List, ◌++◌}
use Prim.Native.Nat.{ℕ, zero, suc, ◌-◌}
use native.Mathlib.Omega.{arith}
use lib.ListN.{length, drop, replicate}
use lib.Ieee.{Float}
use Rattle.numbers.specs.Clamps.{plus_zero}
use Rattle.refusals.specs.Outcome.{accepted}
use Rattle.swaps.specs.declared.bootstrap.DiscountCurve.{DiscountCurve}
use Rattle.swaps.specs.Bootstrapped.{in_room, curve_of}

drop_replicate : {A : Type 0} (x : A) (n m : ℕ) → drop n (replicate m x) ≡ replicate (m - n) x
drop_replicate x zero m = let e : m ≡ m - 0 = omega arith in ap (λ (k : ℕ). replicate k x) e
drop_replicate x (suc n) zero = let e : 0 ≡ 0 - suc n = omega arith in ap (λ (k : ℕ). replicate k x) e
drop_replicate x (suc n) (suc m) = let e : m - n ≡ suc m - suc n = omega arith in drop_replicate x n m ∙ ap (λ (k : ℕ). replicate k x) e

in_room_lem : (xs : List Float) (n : ℕ) → length xs ≡ n → xs ++ drop n (replicate 120 plus_zero) ≡ in_room xs
unfolding in_room
in_room_lem xs n h = rw (sym h) (ap (λ (rest : List Float). xs ++ rest) (drop_replicate plus_zero (length xs) 120))

-- the curve of tenors and of as many zero rates, each in front of a room of +0
pub curve_made : (tenors times zeros solved : List Float) → times ≡ tenors → solved ≡ zeros → length solved ≡ length tenors
    → ◌≡◌ {A = DiscountCurve} (record { tenors = times ++ drop (length tenors) (replicate 120 plus_zero); zeros = solved ++ drop (length tenors) (replicate 120 plus_zero); knots = length tenors }) (curve_of tenors (accepted zeros))
unfolding curve_of
curve_made tenors times zeros solved t z n = rw (t, sym z, in_room_lem tenors (length tenors) refl, in_room_lem solved (length tenors) n)
