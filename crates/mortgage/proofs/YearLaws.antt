-- Year-end lines over any rows of consecutive months: rows in two portions are rows in one, the rows of one year are entered at once by one store, what entered rows leave as it was, and from month 1
-- on the line of each year with a row is that of its rows alone. Assumes nothing.
use mathlib.Core.Path.{◌≡◌, refl, sym, ap, ◌∙◌}
use mathlib.Core.Logic.{◌⊎◌, inl, inr}
use mathlib.Core.Bool.{Bool, true, false}
use mathlib.Core.List.{List, [], append-nil}
use Prim.Native.Nat.{ℕ, zero, suc, ◌+◌, ◌-◌, ◌*◌, ◌%◌, ◌<◌, ◌≤◌, min}
use native.Mathlib.Nat.{suc-add, zero-add, add-zero}
use native.Mathlib.Omega.{arith}
use lib.Dec.{eqb}
use lib.ListN.{length, get_or}
use lib.Seq.{sets, length-sets}
use lib.IntN.{pos}
use lib.Ieee.{Float, nan, binary64, add, of_int, of_bits}
use borrow.Author.Tests.{eqb-true, eqb-false, eq-eqb, ne_eqb}
use Rattle.numbers.specs.Literals.{one}
use Rattle.numbers.specs.Sums.{added_up}
use Rattle.records.specs.declared.Row.{Row}
use Rattle.steps.specs.Steps.{pieces, singles}
use Rattle.steps.proofs.Rooms.{get_d_sets, get_or_sets_other, sets_over}
use Rattle.steps.proofs.Places.{single_at}
use Rattle.mortgage.specs.declared.years.Year.{Year}
use Rattle.mortgage.specs.Years.{started_years, year_width, year_places, year_from, year_at, unbegun, with_row, line_behind, goes_on_from, entered, entered_up_to}
use Rattle.mortgage.specs.inner.RoomRows.{with_rows}

-- ---- a line by its numbers
pub year_by : (y : Year) (m i p b : Float) → y.months ≡ m → y.interest ≡ i → y.principal ≡ p → y.balance ≡ b
    → y ≡ record { months = m; interest = i; principal = p; balance = b }
year_by y m i p b em ei ep eb = rw (← em, ← ei, ← ep, ← eb) refl

-- ---- a line that was stored, and one elsewhere
pub stored_line : (years : List Float) (p : ℕ) (y : Year) → p + year_width ≤ length years → year_from (sets years p (year_places y)) p ≡ y
stored_line years p y h =
    year_by (year_from (sets years p (year_places y)) p) y.months y.interest y.principal y.balance
    (ap (λ (k : ℕ). get_or (sets years p (year_places y)) k nan) (sym (add-zero p)) ∙ at 0 (omega arith)) (at 1 (omega arith)) (at 2 (omega arith)) (at 3 (omega arith))
  where
    at : (j : ℕ) → j < 4 → get_or (sets years p (year_places y)) (p + j) nan ≡ get_or (year_places y) j nan
    at j k = get_d_sets (year_places y) years p j nan h k

pub line_elsewhere : (years : List Float) (p q : ℕ) (y : Year) → (q + year_width ≤ p) ⊎ (p + year_width ≤ q) → year_from (sets years p (year_places y)) q ≡ year_from years q
line_elsewhere years p q y apart =
    year_by (year_from (sets years p (year_places y)) q) _ _ _ _ (at q (omega arith) (omega arith)) (at (q + 1) (omega arith) (omega arith)) (at (q + 2) (omega arith) (omega arith)) (at (q + 3) (omega arith) (omega arith))
  where
    either : (k : ℕ) → q ≤ k → k < q + 4 → (q + 4 ≤ p) ⊎ (p + 4 ≤ q) → (k < p) ⊎ (p + 4 ≤ k)
    either k a b (inl h) = inl (omega arith)
    either k a b (inr h) = inr (omega arith)

    at : (k : ℕ) → q ≤ k → k < q + 4 → get_or (sets years p (year_places y)) k nan ≡ get_or years k nan
    at k a b = get_or_sets_other (year_places y) years p k nan (either k a b apart)

-- ---- one row
-- the row behind d months
pub entered_behind : (r : Row) (d : ℕ) (years : List Float) → r.month ≡ d + 1 → entered r years ≡ sets years (line_behind d * year_width) (year_places (with_row (goes_on_from d years) r))
unfolding entered
entered_behind r d years e = let s : r.month - 1 ≡ d = omega arith in rw s

pub begins : (d : ℕ) (years : List Float) → d % 12 ≡ 0 → goes_on_from d years ≡ unbegun
unfolding goes_on_from
begins d years e = rw (eq-eqb (d % 12) 0 e)

pub goes_on : (d : ℕ) (years : List Float) → (d % 12 ≡ 0 → ⊥) → goes_on_from d years ≡ year_at years (line_behind d)
unfolding goes_on_from
goes_on d years e = rw (ne_eqb (d % 12) 0 e)

-- ---- rows one after the other
one_entered : (r : Row) (years : List Float) → length (entered r years) ≡ length years
unfolding entered
one_entered r years = length-sets years (line_behind (r.month - 1) * year_width) (year_places (with_row (goes_on_from (r.month - 1) years) r))

pub length_entered : (row : ℕ → Row) (k : ℕ) (years : List Float) → length (entered_up_to row k years) ≡ length years
unfolding entered_up_to
length_entered row zero years = refl
length_entered row (suc k) years = one_entered (row k) (entered_up_to row k years) ∙ length_entered row k years

-- a of them and then b more
pub entered_sum : (row : ℕ → Row) (a b : ℕ) (years : List Float) → entered_up_to row (b + a) years ≡ entered_up_to (λ (i : ℕ). row (i + a)) b (entered_up_to row a years)
unfolding entered_up_to
entered_sum row a zero years = ap (λ (k : ℕ). entered_up_to row k years) (zero-add a)
entered_sum row a (suc b) years = ap (λ (k : ℕ). entered_up_to row k years) (suc-add b a) ∙ ap (entered (row (b + a))) (entered_sum row a b years)

-- rows that agree
pub entered_same : (f g : ℕ → Row) (n : ℕ) (years : List Float) → ((i : ℕ) → i < n → f i ≡ g i) → entered_up_to f n years ≡ entered_up_to g n years
unfolding entered_up_to
entered_same f g zero years same = refl
entered_same f g (suc n) years same = rw (same n (omega arith), entered_same f g n years (λ i h. same i (omega arith)))

-- ---- rows of one year, at once: the line that they go on from with all of them added, in one store
module _ (row : ℕ → Row) (d : ℕ) (months : (i : ℕ) → (row i).month ≡ d + i + 1) (years : List Float) (fits : line_behind d * year_width + year_width ≤ length years) where
  pub year_at_once : (c : ℕ) → d % 12 + suc c ≤ 12
      → entered_up_to row (suc c) years ≡ sets years (line_behind d * year_width) (year_places (with_rows row (suc c) (goes_on_from d years)))
  unfolding entered_up_to with_rows
  year_at_once zero h = entered_behind (row zero) d years (months 0 ∙ omega arith)
  year_at_once (suc c) h =
      let p : ℕ = line_behind d * year_width in
      let y : Year = with_rows row (suc c) (goes_on_from d years) in
      let z : Year = with_row y (row (suc c)) in
      let before = year_at_once c (omega arith) in
      let same : line_behind (d + suc c) ≡ line_behind d = omega arith in
      let later : (d + suc c) % 12 ≡ 0 → ⊥ = λ e. omega arith in
      let on : goes_on_from (d + suc c) (sets years p (year_places y)) ≡ y = goes_on (d + suc c) (sets years p (year_places y)) later ∙ rw same (stored_line years p y fits) in
      ap (entered (row (suc c))) before ∙ entered_behind (row (suc c)) (d + suc c) (sets years p (year_places y)) (months (suc c)) ∙ rw (same, on) (sets_over (year_places y) (year_places z) years p refl fits)

-- ---- what they leave as it was: lines of years before and after theirs
module _ (row : ℕ → Row) (d : ℕ) (months : (i : ℕ) → (row i).month ≡ d + i + 1) (years : List Float) where
  pub places_before_stay : (k j : ℕ) → j < line_behind d * year_width → get_or (entered_up_to row k years) j nan ≡ get_or years j nan
  unfolding entered_up_to
  places_before_stay zero j h = refl
  places_before_stay (suc k) j h =
      ap (λ (o : List Float). get_or o j nan) (entered_behind (row k) (d + k) (entered_up_to row k years) (months k))
      ∙ get_or_sets_other (year_places _) (entered_up_to row k years) (line_behind (d + k) * year_width) j nan (inl (omega arith))
      ∙ places_before_stay k j h

  pub places_behind_stay : (k j : ℕ) → started_years (d + k) * year_width ≤ j → get_or (entered_up_to row k years) j nan ≡ get_or years j nan
  unfolding entered_up_to
  places_behind_stay zero j h = refl
  places_behind_stay (suc k) j h =
      ap (λ (o : List Float). get_or o j nan) (entered_behind (row k) (d + k) (entered_up_to row k years) (months k))
      ∙ get_or_sets_other (year_places _) (entered_up_to row k years) (line_behind (d + k) * year_width) j nan (inr (omega arith))
      ∙ places_behind_stay k j (omega arith)

-- ---- from month 1 on, the line q, from 0, of lent lines after k rows is that of the year's own rows
module _ (row : ℕ → Row) (months : (i : ℕ) → (row i).month ≡ i + 1) (years : List Float) where
  abbrev rows_of : ℕ → ℕ → Row
  rows_of q i = row (q * 12 + i)

  abbrev after : ℕ → List Float
  after k = entered_up_to row k years

  -- one row more, in another year
  in_another : (k q : ℕ) → suc q * 12 ≤ k → year_at (after (suc k)) q ≡ year_at (after k) q
  unfolding entered_up_to
  in_another k q h =
      ap (λ (o : List Float). year_at o q) (entered_behind (row k) k (after k) (months k))
      ∙ line_elsewhere (after k) (line_behind k * year_width) (q * year_width) _ (inl (omega arith))

  -- and in this one
  in_this : (k q : ℕ) → line_behind k ≡ q → started_years (suc k) * year_width ≤ length years → year_at (after (suc k)) q ≡ with_row (goes_on_from k (after k)) (row k)
  unfolding entered_up_to
  in_this k q e h =
      ap (λ (o : List Float). year_at o q) (entered_behind (row k) k (after k) (months k))
      ∙ rw e (stored_line (after k) (q * year_width) (with_row (goes_on_from k (after k)) (row k)) (rw (length_entered row k years) (omega arith)))

  -- m rows of a year and then the row k behind them
  next_of_year : (k q m : ℕ) → k ≡ q * 12 + m → with_row (with_rows (rows_of q) m unbegun) (row k) ≡ with_rows (rows_of q) (suc m) unbegun
  unfolding with_rows
  next_of_year k q m e = rw e

  abbrev FromItsRows : ℕ → ℕ → Type 0
  FromItsRows k q = year_at (after k) q ≡ with_rows (rows_of q) (min 12 (k - q * 12)) unbegun

  as_many : (q m n : ℕ) → m ≡ n → with_rows (rows_of q) m unbegun ≡ with_rows (rows_of q) n unbegun
  as_many q m n e = ap (λ (i : ℕ). with_rows (rows_of q) i unbegun) e

  -- one row more: the first of the year, a later one, one of a later year
  module _ (k q : ℕ) (f : started_years (suc k) * year_width ≤ length years) where
    first_row : line_behind k ≡ q → k % 12 ≡ 0 → FromItsRows (suc k) q
    unfolding with_rows
    first_row e z =
        in_this k q e f ∙ ap (λ (y : Year). with_row y (row k)) (begins k (after k) z) ∙ next_of_year k q 0 (omega arith) ∙ as_many q 1 (min 12 (suc k - q * 12)) (omega arith)

    later_row : line_behind k ≡ q → (k % 12 ≡ 0 → ⊥) → (q * 12 < k → FromItsRows k q) → FromItsRows (suc k) q
    later_row e z before =
        let held = before (omega (arith, z)) ∙ as_many q (min 12 (k - q * 12)) (k - q * 12) (omega arith) in
        in_this k q e f
        ∙ ap (λ (y : Year). with_row y (row k)) (goes_on k (after k) z ∙ ap (year_at (after k)) e ∙ held)
        ∙ next_of_year k q (k - q * 12) (omega arith)
        ∙ as_many q (suc (k - q * 12)) (min 12 (suc k - q * 12)) (omega arith)

    of_a_later_year : suc q * 12 ≤ k → (q * 12 < k → FromItsRows k q) → FromItsRows (suc k) q
    of_a_later_year h before = in_another k q h ∙ before (omega arith) ∙ as_many q (min 12 (k - q * 12)) (min 12 (suc k - q * 12)) (omega arith)

    one_more : q * 12 < suc k → (q * 12 < k → FromItsRows k q) → FromItsRows (suc k) q
    one_more h before = go (eqb (line_behind k) q) (eqb-true (line_behind k) q) (eqb-false (line_behind k) q) (eqb (k % 12) 0) (eqb-true (k % 12) 0) (eqb-false (k % 12) 0)
      where
        go : (this : Bool) → (this ≡ true → line_behind k ≡ q) → (this ≡ false → line_behind k ≡ q → ⊥)
            → (starts : Bool) → (starts ≡ true → k % 12 ≡ 0) → (starts ≡ false → k % 12 ≡ 0 → ⊥) → FromItsRows (suc k) q
        go false y n b z w = of_a_later_year (omega (arith, n refl)) before
        go true y n true z w = first_row (y refl) (z refl)
        go true y n false z w = later_row (y refl) (w refl) before

  pub line_of_its_rows : (k q : ℕ) → q * 12 < k → started_years k * year_width ≤ length years → FromItsRows k q
  line_of_its_rows zero q h f = absurd (omega arith)
  line_of_its_rows (suc k) q h f = one_more k q f h (λ (b : q * 12 < k). line_of_its_rows k q b (omega arith))

-- ---- a line from its start, number by number
module _ (row : ℕ → Row) where
  pub interest_added : (c : ℕ) → (with_rows row c unbegun).interest ≡ added_up (λ (i : ℕ). (row i).interest) c
  unfolding with_rows with_row added_up
  interest_added zero = refl
  interest_added (suc c) = rw (interest_added c)

  pub principal_added : (c : ℕ) → (with_rows row c unbegun).principal ≡ added_up (λ (i : ℕ). (row i).principal) c
  unfolding with_rows with_row added_up
  principal_added zero = refl
  principal_added (suc c) = rw (principal_added c)

  ones_added : (c : ℕ) → (with_rows row c unbegun).months ≡ added_up (λ (i : ℕ). one) c
  unfolding with_rows with_row added_up
  ones_added zero = refl
  ones_added (suc c) = rw (ones_added c)

  pub last_balance : (c : ℕ) → 0 < c → (with_rows row c unbegun).balance ≡ (row (c - 1)).balance
  unfolding with_rows with_row
  last_balance zero h = absurd (omega arith)
  last_balance (suc c) h = let e : c ≡ suc c - 1 = omega arith in ap (λ (i : ℕ). (row i).balance) e

  -- so many ones from 0 are their number: a test of all that a year can have
  tabled : singles (added_up (λ (i : ℕ). one)) 13 ≡ singles (λ (c : ℕ). of_int binary64 (pos c)) 13
  unfolding pieces added_up add of_int of_bits
  tabled = refl

  pub months_counted : (c : ℕ) → c ≤ 12 → (with_rows row c unbegun).months ≡ of_int binary64 (pos c)
  months_counted c h =
      let b : c < 13 = omega arith in
      ones_added c ∙ sym (alone (added_up (λ (i : ℕ). one)) b) ∙ ap (λ (l : List Float). get_or l c nan) tabled ∙ alone (λ (k : ℕ). of_int binary64 (pos k)) b
    where
      alone : (f : ℕ → Float) → c < 13 → get_or (singles f 13) c nan ≡ f c
      alone f b = ap (λ (l : List Float). get_or l c nan) (sym (append-nil (singles f 13))) ∙ single_at f 13 c nan [] b
