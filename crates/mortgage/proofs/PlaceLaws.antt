-- Rows from places of a room: where some are laid they are due and lie within the room, two loans' apart; and all that are asked for are laid where they are due and the room holds them.
-- Assumes nothing.
use mathlib.Core.Path.{◌≡◌, ap, ◌∙◌}
use mathlib.Core.List.{List}
use lib.Ieee.{Float}
use Prim.Native.Nat.{ℕ, ◌+◌, ◌-◌, ◌*◌, ◌<◌, ◌≤◌, min}
use native.Mathlib.Omega.{arith}
use Rattle.mortgage.specs.declared.Loan.{Loan}
use Rattle.mortgage.specs.Row.{width}
use Rattle.mortgage.specs.Kinds.{Way, level}
use Rattle.mortgage.specs.Month.{end_month, due}
use Rattle.mortgage.specs.Rows.{after}
use Rattle.mortgage.specs.Places.{count_at, count_at_both}
use Rattle.mortgage.specs.inner.Laying.{LaysPair}
use Rattle.mortgage.proofs.RowLaws.{end_after, done_after}

-- ---- what is laid
pub laid_within : (l : Loan) (asked at end n : ℕ) → n ≤ count_at l asked at end → (n ≡ 0 → ⊥) → (0 < n) × (at + n * width ≤ end) × (l.done + n ≤ end_month level l)
unfolding due
laid_within l asked at end n h some = (omega arith, omega arith, omega arith)

-- of both as many as the smaller of two counts
pub both_count : (x y : Loan) (asked a b end p q n : ℕ) → p ≡ count_at x asked a b → q ≡ count_at y asked b end → n ≡ min p q → n ≡ count_at_both x y asked a b end
both_count x y asked a b end p q n ep eq e = e ∙ rw (ep, eq)

at_most : (n p q : ℕ) → n ≡ min p q → (n ≤ p) × (n ≤ q)
at_most n p q e = (omega arith, omega arith)

pub both_within : (x y : Loan) (asked a b end p q n : ℕ) → p ≡ count_at x asked a b → q ≡ count_at y asked b end → n ≡ min p q → (n ≡ 0 → ⊥)
    → ((0 < n) × (a + n * width ≤ b) × (b + n * width ≤ end)) × ((x.done + n ≤ end_month level x) × (y.done + n ≤ end_month level y))
both_within x y asked a b end p q n ep eq e some =
    let m = at_most n p q e in
    let f = laid_within x asked a b n (rw (← ep) m.0) some in
    let g = laid_within y asked b end n (rw (← eq) m.1) some in
    ((f.0, f.1, g.1), (f.2, g.2))

-- the months done tell how many rows of each were laid
pub both_counted : {k most a b : ℕ} {x y x' y' : Loan} {room room' : List Float} → LaysPair k a b x y room x' y' room' → k < most
    → LaysPair (x'.done - x.done) a b x y room x' y' room' × ((x.done ≤ x'.done) × (x'.done < x.done + most))
both_counted {k} {most} {a} {b} {x} {y} {x'} on h =
    let done : x'.done ≡ x.done + k = ap (λ (l : Loan). l.done) on.x_state ∙ done_after level k x in
    let many : x'.done - x.done ≡ k = omega arith in
    (rw many on, (omega arith, omega arith))

-- after k of n months that are due, so are the rest
pub rest_within : (way : Way) (k n : ℕ) (l₀ l : Loan) → l ≡ after way k l₀ → k ≤ n → l₀.done + n ≤ end_month way l₀ → l.done + (n - k) ≤ end_month way l
rest_within way k n l₀ l e h b = rw e (omega (arith, done_after way k l₀, end_after way k l₀))

-- ---- all that are asked for
pub all_at : (l : Loan) (asked at end : ℕ) → asked ≤ due level l → at + asked * width ≤ end → count_at l asked at end ≡ asked
all_at l asked at end h b = omega arith

pub all_at_both : (x y : Loan) (asked a b end : ℕ) → asked ≤ due level x → asked ≤ due level y → a + asked * width ≤ b → b + asked * width ≤ end → count_at_both x y asked a b end ≡ asked
all_at_both x y asked a b end h g apart within = rw (all_at x asked a b h apart, all_at y asked b end g within) (same asked)
  where
    same : (n : ℕ) → min n n ≡ n
    same n = omega arith
