-- Demand 3 of filed numbers: rows of w places, one of which holds the principal that a row repays and one the balance after it. Definitions only. Assumes nothing.
use Rattle.std.specs.Prelude.{◌≡◌, List, ℕ, zero, suc, ◌+◌, ◌-◌, ◌*◌, ◌^◌, ◌≤◌, ◌<◌, T, length, get_or, Float}
use Rattle.std.specs.Float.{nan}
use Rattle.std.specs.Float.Ieee.{le}
use Rattle.numbers.specs.Clamps.{plus_zero}
use Rattle.numbers.specs.Units.{units, miss}
use Rattle.numbers.specs.Sums.{exact_sum}

-- place j of row i, from 0, of rows of w places
abbrev pub column_at : ℕ → ℕ → List Float → ℕ → Float
column_at w j numbers i = get_or numbers (i * w + j) nan

module _ (w principal_place balance_place : ℕ) where
  abbrev pub principal_at : List Float → ℕ → Float
  principal_at = column_at w principal_place

  abbrev pub balance_at : List Float → ℕ → Float
  balance_at = column_at w balance_place

  -- the balance before the row i: the principal lent, or the balance of the row before
  abbrev pub balance_before : Float → List Float → ℕ → Float
  balance_before P numbers zero = P
  balance_before P numbers (suc i) = balance_at numbers i

  -- n rows that repay P
  pub record Repaid (P : Float) (n : ℕ) (numbers : List Float) : Type 0 where
    pub n_rows : length numbers ≡ n * w
    -- "each row's principal lies between zero and the balance before it"
    pub above_zero : (i : ℕ) → i < n → T (le plus_zero (principal_at numbers i))
    pub within_balance : (i : ℕ) → i < n → T (le (principal_at numbers i) (balance_before P numbers i))
    -- "balances never rise, the last is zero"
    pub never_rise : (i : ℕ) → i < n → T (le (balance_at numbers i) (balance_before P numbers i))
    pub last_zero : balance_at numbers (n - 1) ≡ plus_zero
    -- "the principal column added exactly misses P by at most (n-1)·P/2^53", both counted in 2^-1074
    pub adds_up : 2 ^ 53 * miss (exact_sum (principal_at numbers) n) (units P) ≤ (n - 1) * units P
