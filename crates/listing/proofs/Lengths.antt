-- How long the lines of a listing are. Assumes nothing.
use mathlib.Core.Path.{◌≡◌}
use mathlib.Core.List.{List, [], ◌∷◌, ◌++◌}
use Prim.Native.Nat.{ℕ, ◌+◌, ◌-◌, ◌*◌, ◌≤◌}
use native.Mathlib.Omega.{arith}
use lib.ListN.{length, length-append}
use Rattle.records.specs.declared.Row.{Row}
use Rattle.mortgage.specs.declared.Loan.{Loan}
use Rattle.mortgage.specs.Row.{width}
use Rattle.mortgage.specs.Level.{row_of, after}
use Rattle.steps.proofs.Portions.{length_at_most}
use Rattle.listing.specs.Digits.{decimal}
use Rattle.listing.specs.Listing.{line_end, spaced, row_line, row_lines, footer, refused_line}
use Rattle.listing.specs.inner.Portions.{line_room}
use Rattle.listing.proofs.DigitLaws.{length_decimal, length_spaced}

-- ---- a row's line and its parts
pub record RowLengths (r : Row) : Type 0 where
  pub line : length (row_line r) ≡ length (decimal r.month) + (width - 1) * 17 + 1
  pub payment : length (spaced r.payment) ≡ 17
  pub principal : length (spaced r.principal) ≡ 17
  pub interest : length (spaced r.interest) ≡ 17
  pub balance : length (spaced r.balance) ≡ 17

pub row_lengths : (r : Row) → RowLengths r
unfolding row_line
row_lengths r = record {
  line = simp (length-append, length_spaced) (omega arith);
  payment = length_spaced r.payment;
  principal = length_spaced r.principal;
  interest = length_spaced r.interest;
  balance = length_spaced r.balance;
}

-- ---- a line of two numbers
pub length_numbers : (first : List ℕ) (a : ℕ) (second : List ℕ) (b : ℕ)
    → length (first ++ decimal a ++ second ++ decimal b ++ line_end) ≡ length first + length (decimal a) + length second + length (decimal b) + 1
length_numbers first a second b = simp length-append (omega arith)

pub length_footer : (rows left : ℕ) → length (footer rows left) ≤ 32
unfolding footer
length_footer rows left = omega (arith, length_numbers (114 ∷ 111 ∷ 119 ∷ 115 ∷ 32 ∷ []) rows (32 ∷ 108 ∷ 101 ∷ 102 ∷ 116 ∷ 32 ∷ []) left, length_decimal rows, length_decimal left)

pub length_refused : (number place : ℕ) → length (refused_line number place) ≤ 33
unfolding refused_line
length_refused number place = omega (arith, length_numbers (114 ∷ 101 ∷ 102 ∷ 117 ∷ 115 ∷ 101 ∷ 100 ∷ 32 ∷ []) number (32 ∷ 97 ∷ 116 ∷ 32 ∷ []) place, length_decimal number, length_decimal place)

pub length_row : (r : Row) → length (row_line r) ≤ line_room
length_row r = omega (arith, row_lengths r, length_decimal r.month)

-- the lines of k rows, whatever they are
pub length_lines : (k : ℕ) (l : Loan) → length (row_lines k l) ≤ k * line_room
length_lines k l = length_at_most (λ (i : ℕ). row_line (row_of (after i l))) line_room (λ i. length_row (row_of (after i l))) k
