-- Rows that repay: a state whose steps take a part off its balance and write rows of any width, one place of which shows the part and one the balance after it. Where the opening balance is
-- an amount, each part before the last a part of its balance and the last one the balance, the rows written repay the opening balance: the inner theorem on repayment, read off the columns.
-- Assumes nothing.
use mathlib.Core.Path.{◌≡◌, refl, ap, ◌∙◌}
use mathlib.Core.Logic.{inl, inr}
use mathlib.Core.List.{List}
use Prim.Native.Nat.{ℕ, zero, suc, ◌+◌, ◌-◌, ◌*◌, ◌^◌, ◌<◌, ◌≤◌}
use native.Mathlib.Nat.{le_refl, le_of_lt, le_of_suc-le-suc, eq-or-lt_of_le}
use native.Mathlib.Omega.{arith}
use lib.Dec.{T}
use lib.ListN.{length, get_or}
use lib.Ieee.{Float, nan, binary64, sub, le}
use Rattle.numbers.specs.Clamps.{plus_zero, raised}
use Rattle.numbers.specs.Sums.{exact_sum}
use Rattle.numbers.specs.Units.{units, miss}
use Rattle.numbers.proofs.Amounts.{amount}
use Rattle.numbers.proofs.Order.{le_amount, zero_amount, zero_count}
use Rattle.numbers.proofs.Clamping.{PartOf, raised_zero, raised_amount}
use Rattle.numbers.proofs.Repayment as repayment
use Rattle.numbers.proofs.Repayment.{Repaying}
use Rattle.numbers.proofs.Sums.{same_sum}
use Rattle.steps.specs.Steps.{stepped, written}
use Rattle.steps.specs.Repaid.{Repaid}
use Rattle.steps.specs.Repaid as shown
use Rattle.steps.proofs.Portions.{length_written}
use Rattle.steps.proofs.Columns.{column}

-- ---- a row of w places for each step, with the part and the balance at the places i and j
pub record Shows {S : Type 0} (next : S → S) (writes : S → List Float) (w i j : ℕ) (balance part : S → Float) : Type 0 where
  pub wide : (s : S) → length (writes s) ≡ w
  pub part_within : i < w
  pub balance_within : j < w
  pub part_shown : (s : S) → get_or (writes s) i nan ≡ part s
  pub balance_shown : (s : S) → get_or (writes s) j nan ≡ raised (balance (next s))
  pub falls : (s : S) → balance (next s) ≡ sub binary64 (balance s) (part s)

module _ {S : Type 0} (next : S → S) (writes : S → List Float) (w i j : ℕ) (balance part : S → Float) (shows : Shows next writes w i j balance part) where
  -- ---- m steps from s, and then the last
  module _ (s : S) (m : ℕ) (start : T (amount binary64 (balance s)))
      (parts : (k : ℕ) → k < m → T (amount binary64 (balance (stepped next k s))) → PartOf binary64 (part (stepped next k s)) (balance (stepped next k s)))
      (clears : part (stepped next m s) ≡ balance (stepped next m s)) where
    abbrev at : ℕ → S
    at k = stepped next k s

    abbrev numbers : List Float
    numbers = written next writes (suc m) s

    falls_at : (k : ℕ) → balance (at (suc k)) ≡ sub binary64 (balance (at k)) (part (at k))
    unfolding stepped
    falls_at k = shows.falls (at k)

    repaying : Repaying (λ (k : ℕ). balance (at k)) (λ (k : ℕ). part (at k)) m
    unfolding stepped
    repaying = record { start = start; parts = parts; falls = λ k h. falls_at k; clears = clears }

    ends_at_zero : balance (at (suc m)) ≡ plus_zero
    ends_at_zero = falls_at m ∙ repayment.last_is_zero repaying

    balance_amount : (k : ℕ) → k ≤ suc m → T (amount binary64 (balance (at k)))
    balance_amount k h = elim (eq-or-lt_of_le h) [
      | inl e ↦ rw (e, ends_at_zero) (zero_amount binary64)
      | inr g ↦ repayment.amount_at_lem repaying k (le_of_suc-le-suc g)
    ]

    never_rises : (k : ℕ) → k < suc m → units (balance (at (suc k))) ≤ units (balance (at k))
    never_rises k h = elim (eq-or-lt_of_le (le_of_suc-le-suc h)) [
      | inl e ↦ rw (e, ends_at_zero, zero_count binary64) (omega arith)
      | inr g ↦ repayment.never_rises repaying k g
    ]

    adds_up : 2 ^ 53 * miss (exact_sum (λ (k : ℕ). part (at k)) (suc m)) (units (balance s)) ≤ m * units (balance s)
    unfolding stepped
    adds_up = repayment.adds_up repaying

    -- ---- the columns
    abbrev principal_at : ℕ → Float
    principal_at = shown.principal_at w i j numbers

    abbrev balance_at : ℕ → Float
    balance_at = shown.balance_at w i j numbers

    abbrev balance_before : ℕ → Float
    balance_before = shown.balance_before w i j (balance s) numbers

    place : (k a : ℕ) → k < suc m → a < w → get_or numbers (k * w + a) nan ≡ get_or (writes (at k)) a nan
    place k a h b = column next writes w shows.wide (suc m) s k a nan h b

    principal_column : (k : ℕ) → k < suc m → principal_at k ≡ part (at k)
    principal_column k h = place k i h shows.part_within ∙ shows.part_shown (at k)

    balance_column : (k : ℕ) → k < suc m → balance_at k ≡ raised (balance (at (suc k)))
    unfolding stepped
    balance_column k h = place k j h shows.balance_within ∙ shows.balance_shown (at k)

    column_amount : (k : ℕ) → k < suc m → T (amount binary64 (balance_at k)) × (units (balance_at k) ≡ units (balance (at (suc k))))
    column_amount k h = rw (balance_column k h) (raised_amount binary64 (balance (at (suc k))) (balance_amount (suc k) h))

    before_amount : (k : ℕ) → k < suc m → T (amount binary64 (balance_before k)) × (units (balance_before k) ≡ units (balance (at k)))
    unfolding stepped
    before_amount zero h = (start, refl)
    before_amount (suc k) h = column_amount k (le_of_lt h)

    principal_amount : (k : ℕ) → k < suc m → T (amount binary64 (principal_at k)) × (units (principal_at k) ≤ units (balance (at k)))
    principal_amount k h = rw (principal_column k h) (repayment.part_amount repaying k (le_of_suc-le-suc h))

    pub repaid : Repaid w i j (balance s) (suc m) numbers
    repaid =
        record {
          n_rows = length_written next writes w shows.wide (suc m) s;
          above_zero = λ k h. at_most plus_zero (principal_at k) (zero_amount binary64) (principal_amount k h).0 (rw (zero_count binary64) (omega arith));
          within_balance = λ k h. at_most (principal_at k) (balance_before k) (principal_amount k h).0 (before_amount k h).0 (rw (before_amount k h).1 (principal_amount k h).1);
          never_rise = λ k h. at_most (balance_at k) (balance_before k) (column_amount k h).0 (before_amount k h).0 (rw ((before_amount k h).1, (column_amount k h).1) (never_rises k h));
          last_zero = rw last_index (balance_column m (le_refl (suc m)) ∙ ap (λ (x : Float). raised x) ends_at_zero ∙ raised_zero);
          adds_up = rw (last_index, same_sum principal_at (λ (k : ℕ). part (at k)) (suc m) principal_column) adds_up;
        }
      where
        last_index : suc m - 1 ≡ m
        last_index = omega arith

        at_most : (x y : Float) → T (amount binary64 x) → T (amount binary64 y) → units x ≤ units y → T (le x y)
        at_most x y p q = (le_amount binary64 x y p q).1
