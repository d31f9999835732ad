-- Rows that a draw laid into its room, entered from there into their years' lines: row by row into one line, a year at a time into the lines, and that they are the loan's rows entered one by one.
-- Assumes nothing.
use mathlib.Core.Path.{◌≡◌, refl, sym, ap, ◌∙◌}
use mathlib.Core.List.{List}
use Prim.Native.Nat.{ℕ, zero, suc, ◌+◌, ◌-◌, ◌*◌, ◌%◌, ◌<◌, ◌≤◌, min}
use native.Mathlib.Numerals.{add-one}
use native.Mathlib.Nat.{zero-add}
use native.Mathlib.Omega.{arith}
use lib.ListN.{length, get_or, drop}
use lib.Ieee.{Float, nan, binary64, add}
use Rattle.numbers.specs.Literals.{one}
use Rattle.steps.specs.Steps.{laid}
use Rattle.steps.proofs.Columns.{column_in_room}
use Rattle.mortgage.specs.declared.Loan.{Loan}
use Rattle.mortgage.specs.declared.years.Year.{Year}
use lib.Seq.{sets}
use Rattle.mortgage.specs.Row.{width, principal_place, interest_place, balance_place}
use Rattle.mortgage.specs.Kinds.{Way}
use Rattle.mortgage.specs.Rates.{in_force}
use Rattle.mortgage.specs.Month.{row_on, row_of}
use Rattle.mortgage.specs.Rows.{after, rows}
use Rattle.mortgage.specs.Years.{started_years, year_width, year_places, unbegun, with_row, line_behind, goes_on_from, entered_up_to}
use Rattle.mortgage.specs.YearDraws.{years_after}
use Rattle.mortgage.specs.inner.RoomRows.{rows_from, with_rows}
use Rattle.mortgage.proofs.RowLaws.{in_force_done, done_after}
use Rattle.mortgage.proofs.DrawCases.{row_places, wide}
use Rattle.mortgage.proofs.YearLaws.{begins, entered_sum, entered_same, year_at_once}

-- ---- a line and the rows that stand in a room
-- a line does not ask which months its rows are of
pub whatever_months : (numbers : List Float) (at d k : ℕ) (y : Year) → with_rows (rows_from numbers at 0) k y ≡ with_rows (rows_from numbers at d) k y
unfolding with_rows with_row
whatever_months numbers at d zero y = refl
whatever_months numbers at d (suc k) y = rw (whatever_months numbers at d k y)

-- one row more, read from the place where it stands
pub row_added : (room : List Float) (at k place : ℕ) (y₀ y : Year) → y ≡ with_rows (rows_from room at 0) k y₀ → place ≡ at + k * width
    → record {
      months = add binary64 y.months one;
      interest = add binary64 y.interest (get_or room (place + interest_place) nan);
      principal = add binary64 y.principal (get_or room (place + principal_place) nan);
      balance = get_or room (place + balance_place) nan;
    } ≡ with_rows (rows_from room at 0) (k + 1) y₀
unfolding with_rows with_row
row_added room at k place y₀ y e p = rw (add-one k, e, p)

-- rows of one year, added to the line that they go on from and stored at once
pub year_entered : (room : List Float) (at d c : ℕ) (years years' : List Float) (y : Year) → 0 < c → d % 12 + c ≤ 12 → line_behind d * year_width + year_width ≤ length years
    → y ≡ with_rows (rows_from room at 0) c (goes_on_from d years) → years' ≡ sets years (line_behind d * year_width) (year_places y) → years' ≡ entered_up_to (rows_from room at d) c years
year_entered room at d zero years years' y some h f ey e = absurd (omega arith)
year_entered room at d (suc c) years years' y some h f ey e =
    e
    ∙ ap (λ (z : Year). sets years (line_behind d * year_width) (year_places z)) (ey ∙ whatever_months room at d (suc c) (goes_on_from d years))
    ∙ sym (year_at_once (rows_from room at d) d (λ (i : ℕ). refl) years f c h)

-- a whole year goes on from nothing
pub whole_year_begins : (d c : ℕ) (years : List Float) → c ≡ 12 → d % 12 + c ≤ 12 → goes_on_from d years ≡ unbegun
whole_year_begins d c years e h = begins d years (omega arith)

-- rows from a place on are those of the whole room from there
pub rows_from_there : (numbers : List Float) (d k i : ℕ) → rows_from numbers (k * width) (d + k) i ≡ rows_from numbers 0 d (i + k)
rows_from_there numbers d k i =
    let m : d + k + i + 1 ≡ d + (i + k) + 1 = omega arith in
    let a : (j : ℕ) → k * width + i * width + j ≡ 0 + (i + k) * width + j = λ (j : ℕ). omega arith in
    rw (m, a 1, a 2, a 3, a 4)

-- the rows that stand at the start of a room are the loan's
pub rows_of_the_loan : (way : Way) (l : Loan) (n : ℕ) (room : List Float) (i : ℕ) → i < n → rows_from (laid width n (rows way n l) room) 0 l.done i ≡ row_of way (after way i l)
unfolding row_of row_on
rows_of_the_loan way l n room i h =
    let m : l.done + i + 1 ≡ (in_force way (after way i l)).done + 1 = omega (arith, done_after way i l, in_force_done way (after way i l)) in
    rw (m, at 1 (omega arith), at 2 (omega arith), at 3 (omega arith), at 4 (omega arith))
  where
    numbers : List Float
    numbers = laid width n (rows way n l) room

    at : (j : ℕ) → j < width → get_or numbers (0 + i * width + j) nan ≡ get_or (row_places way (after way i l)) j nan
    at j k =
        ap (λ (p : ℕ). get_or numbers (p + j) nan) (zero-add (i * width))
        ∙ column_in_room (λ (a : ℕ). row_places way (after way a l)) width (λ (a : ℕ). wide way (after way a l)) n i j nan (drop (n * width) room) h k

pub entered_from_room : (way : Way) (l : Loan) (n : ℕ) (room years : List Float) → entered_up_to (rows_from (laid width n (rows way n l) room) 0 l.done) n years ≡ years_after way n l years
entered_from_room way l n room years = entered_same (rows_from (laid width n (rows way n l) room) 0 l.done) (λ (i : ℕ). row_of way (after way i l)) n years (λ i h. rows_of_the_loan way l n room i h)

-- ---- n rows more behind k that are entered
pub rows_more : (room : List Float) (d k n : ℕ) (years₀ years years' : List Float) → years ≡ entered_up_to (rows_from room 0 d) k years₀
    → years' ≡ entered_up_to (rows_from room (k * width) (d + k)) n years → years' ≡ entered_up_to (rows_from room 0 d) (k + n) years₀
rows_more room d k n years₀ years years' e e' =
    let s : n + k ≡ k + n = omega arith in
    e'
    ∙ entered_same (rows_from room (k * width) (d + k)) (λ (i : ℕ). rows_from room 0 d (i + k)) n years (λ i h. rows_from_there room d k i)
    ∙ ap (entered_up_to (λ (i : ℕ). rows_from room 0 d (i + k)) n) e
    ∙ sym (entered_sum (rows_from room 0 d) k n years₀)
    ∙ ap (λ (j : ℕ). entered_up_to (rows_from room 0 d) j years₀) s

-- the rows up to the year's end, or as many as are left, are of one year, and its line is lent
pub of_one_year : (d k count n : ℕ) → n ≡ min (12 - (d + k) % 12) (count - k) → k < count → (0 < n) × ((d + k) % 12 + n ≤ 12) × (k + n ≤ count)
of_one_year d k count n e h = (omega arith, omega arith, omega arith)

pub line_lent : (d k count years : ℕ) → k < count → started_years (d + count) * year_width ≤ years → line_behind (d + k) * year_width + year_width ≤ years
line_lent d k count years h f = omega arith
