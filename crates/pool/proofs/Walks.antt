-- Laws of a walk over the months in a room: a turn of it, its end, and a month that is not changed; and of a loan's walk, in which the balance is carried. Assumes nothing.
use mathlib.Core.Path.{◌≡◌}
use mathlib.Core.List.{List}
use Prim.Native.Nat.{ℕ, suc, ◌+◌, ◌-◌, ◌*◌, ◌<◌, ◌≤◌}
use native.Mathlib.Numerals.{add-one, unary_clauses}
use native.Mathlib.Omega.{arith}
use lib.ListN.{length}
use lib.Seq.{sets, set-get_or}
use lib.Ieee.{Float}
use Rattle.records.specs.declared.Terms.{Terms}
use Rattle.mortgage.specs.Payment.{payment, loan_of}
use Rattle.mortgage.specs.Level.{after}
use Rattle.pool.specs.declared.months.Month.{Month}
use Rattle.pool.specs.Flows.{month_width, places}
use Rattle.pool.specs.inner.Walk.{month_from, changed, walked, loan_added}

-- a month put where it lies already
pub same_month : (room : List Float) (at : ℕ) → sets room at (places (month_from room at)) ≡ room
same_month room at = simp (unary_clauses, set-get_or)

module _ (change : ℕ → Month → Month) (n : ℕ) where
  pub turn : (k : ℕ) (room room' total : List Float) (m : Month) → k < n → room' ≡ sets room (k * month_width) (places m) → m ≡ change k (month_from room (k * month_width))
      → walked change k (n - k) room ≡ total → walked change (k + 1) (n - (k + 1)) room' ≡ total
  unfolding walked changed
  turn k room room' total m h er em e =
      let d : n - k ≡ suc (n - suc k) = omega arith in
      let s : walked change (suc k) (n - suc k) (changed change k room) ≡ total = rw d at e in
      rw (add-one k, er, em) s

  pub ends : (k : ℕ) (room total : List Float) → n ≤ k → walked change k (n - k) room ≡ total → room ≡ total
  unfolding walked
  ends k room total h e =
      let d : n - k ≡ 0 = omega arith in
      rw d at e

-- a loan is walked from the month k₀ up to the month k, and b is the balance before that one
pub record InHand (t : Terms) (speeds room₀ : List Float) (k₀ k : ℕ) (room : List Float) (b : Float) : Type 0 where
  pub left : walked (loan_added t speeds) k (t.term - k) room ≡ walked (loan_added t speeds) k₀ (t.term - k₀) room₀
  pub length_kept : length room ≡ length room₀
  pub balance : k < t.term → b ≡ (after k (loan_of t (payment t))).balance
