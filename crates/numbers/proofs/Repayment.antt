-- Repayment: whatever parts are taken off a balance, each a part of it, the last one the balance itself, every balance and part is an amount, no balance rises, the last is +0, and
-- the exact sum of the parts misses the opening balance by at most one part in 2 ^ 53 of it for each part but the last. Assumes nothing.
use Rattle.std.proofs.Common.{◌≡◌, ℕ, zero, suc, ◌+◌, ◌-◌, ◌*◌, ◌^◌, ◌<◌, ◌≤◌, T, sym, ◌∙◌, inl, inr, le_trans, le_refl, le_of_lt, add-sub_of_le, eq-or-lt_of_le, mul-le-mul_left, arith}
use lib.Ieee.{Float, binary64, sub}
use Rattle.numbers.specs.Clamps.{plus_zero}
use Rattle.numbers.specs.Sums.{exact_sum}
use Rattle.numbers.specs.Units.{units, miss}
use Rattle.numbers.proofs.Zeros.{plus_zero_lem, sub_itself}
use Rattle.numbers.proofs.Amounts.{amount, amount_finite}
use Rattle.numbers.proofs.Differences.{Difference, difference}
use Rattle.numbers.proofs.Clamping.{PartOf, whole_part}

-- ---- one part p taken off the balance b
record Taken (b p left : Float) : Type 0 where
  part_of : PartOf binary64 p b
  what_is_left : Difference binary64 b p left

taken : (b p left : Float) → T (amount binary64 b) → PartOf binary64 p b → left ≡ sub binary64 b p → Taken b p left
taken b p left u q is = record { part_of = q; what_is_left = rw is (difference binary64 b p u q.0 q.1) }

-- S has been taken, b is left of the opening balance B, and then p is taken: what it adds to the miss
triangle : (S p left b B : ℕ) → p ≤ b → miss (S + p + left) B ≤ miss (S + b) B + miss left (b - p)
triangle S p left b B h = go (b - p) (add-sub_of_le h)
  where
    go : (k : ℕ) → p + k ≡ b → miss (S + p + left) B ≤ miss (S + b) B + miss left k
    go k e = omega arith

one_more : (P S p left b B n : ℕ) → p ≤ b → b ≤ B → P * miss left (b - p) ≤ b - p → P * miss (S + b) B ≤ n * B → P * miss (S + p + left) B ≤ suc n * B
one_more P S p left b B n h l c ih = go (miss (S + p + left) B) (miss (S + b) B) (miss left (b - p)) (mul-le-mul_left P (triangle S p left b B h)) ih (le_trans c (omega arith))
  where
    go : (x y z : ℕ) → P * x ≤ P * (y + z) → P * y ≤ n * B → P * z ≤ B → P * x ≤ suc n * B
    go x y z t u v = omega arith

-- ---- m parts that are taken off a balance, and a last one that clears it
pub record Repaying (balance part : ℕ → Float) (m : ℕ) : Type 0 where
  pub start : T (amount binary64 (balance 0))
  pub parts : (k : ℕ) → k < m → T (amount binary64 (balance k)) → PartOf binary64 (part k) (balance k)
  pub falls : (k : ℕ) → k < m → balance (suc k) ≡ sub binary64 (balance k) (part k)
  pub clears : part m ≡ balance m

module _ {balance part : ℕ → Float} {m : ℕ} (repaying : Repaying balance part m) where
  taken_from : (k : ℕ) → k < m → T (amount binary64 (balance k)) → Taken (balance k) (part k) (balance (suc k))
  taken_from k h a = taken (balance k) (part k) (balance (suc k)) a (repaying.parts k h a) (repaying.falls k h)

  pub amount_at_lem : (k : ℕ) → k ≤ m → T (amount binary64 (balance k))
  amount_at_lem zero h = repaying.start
  amount_at_lem (suc k) h = (taken_from k h (amount_at_lem k (le_of_lt h))).what_is_left.is_amount

  taken_at : (k : ℕ) → k < m → Taken (balance k) (part k) (balance (suc k))
  taken_at k h = taken_from k h (amount_at_lem k (le_of_lt h))

  pub part_amount : (k : ℕ) → k ≤ m → T (amount binary64 (part k)) × (units (part k) ≤ units (balance k))
  part_amount k h = elim (eq-or-lt_of_le h) [
    | inl e ↦ rw (e, repaying.clears) (whole_part binary64 (balance m) (amount_at_lem m (le_refl m)))
    | inr l ↦ (taken_at k l).part_of
  ]

  pub never_rises : (k : ℕ) → k < m → units (balance (suc k)) ≤ units (balance k)
  never_rises k h = (taken_at k h).what_is_left.no_more_left

  pub last_is_zero : sub binary64 (balance m) (part m) ≡ plus_zero
  last_is_zero = rw repaying.clears (sub_itself binary64 (balance m) (amount_finite binary64 (balance m) (amount_at_lem m (le_refl m))) ∙ sym plus_zero_lem)

  at_most_start : (k : ℕ) → k ≤ m → units (balance k) ≤ units (balance 0)
  at_most_start zero h = le_refl (units (balance 0))
  at_most_start (suc k) h = le_trans (never_rises k h) (at_most_start k (le_of_lt h))

  so_far : (k : ℕ) → k ≤ m → 2 ^ 53 * miss (exact_sum part k + units (balance k)) (units (balance 0)) ≤ k * units (balance 0)
  unfolding exact_sum
  so_far zero h = nothing (units (balance 0))
    where
      nothing : (B : ℕ) → 2 ^ 53 * miss (0 + B) B ≤ 0 * B
      nothing B = omega arith
  so_far (suc k) h =
      let t = taken_at k h in
      one_more (2 ^ 53) (exact_sum part k) (units (part k)) (units (balance (suc k))) (units (balance k)) (units (balance 0)) k t.part_of.1 (at_most_start k (le_of_lt h)) t.what_is_left.close (so_far k (le_of_lt h))

  pub adds_up : 2 ^ 53 * miss (exact_sum part (suc m)) (units (balance 0)) ≤ m * units (balance 0)
  unfolding exact_sum
  adds_up = rw repaying.clears (so_far m (le_refl m))
