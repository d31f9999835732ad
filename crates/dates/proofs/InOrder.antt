-- Day numbers and dates in one order: a later date has a higher number and a higher number a later date; so a number has one date, the date of a date's number is that date, and every number
-- from that of 1 January 1900 to that of 31 December 2199 has one. Assumes nothing.
use mathlib.Core.Path.{◌≡◌, refl, sym, ap, ◌∙◌}
use mathlib.Core.Logic.{◌⊎◌, inl, inr, ⊎_elim, ◌↔◌}
use mathlib.Core.Bool.{true, false, not}
use mathlib.Core.List.{[]}
use Prim.Native.Nat.{ℕ, zero, suc, ◌+◌, ◌-◌, ◌≤◌, ◌<◌}
use native.Mathlib.Omega.{arith}
use lib.Dec.{ltb, leb}
use borrow.Author.Tests.{ltb-true, ltb-false, leb-true, le-leb}
use Rattle.refusals.specs.Outcome.{Outcome, refused, accepted}
use Rattle.refusals.specs.Table.{no_such_date}
use Rattle.dates.specs.declared.Date.{Date}
use Rattle.dates.specs.Calendar.{leap, days_in, days_in_year, is_date, is_after, days_later}
use Rattle.dates.specs.DayNumbers.{total, days_before_year, days_before_month, day_number}
use Rattle.dates.specs.Answers.{first_of_all, last_of_all, day_number_of, has_date, date_numbered}
use Rattle.dates.specs.inner.Ranks.{rank}
use Rattle.dates.proofs.Tests.{both, joined, decided, clash}
use Rattle.dates.proofs.Parts.{Parts, parts}
use Rattle.refusals.proofs.OneCause.{caused, all_clear}
use Rattle.dates.proofs.YearDays.{year_more, years_no_less, in_2200}
use Rattle.dates.proofs.MonthDays.{month_more, months_no_less, before_thirteenth}
use Rattle.dates.proofs.Ranks.{Shaped, shaped, after_rank, rank_after, same_rank}
use Rattle.dates.proofs.NextDay.{last_is_date, next_number, next_is_date}

-- ---- the two ends
pub first_number : day_number first_of_all ≡ 2
unfolding day_number days_before_year days_before_month total
first_number = refl

pub last_number : day_number last_of_all ≡ 109574
unfolding day_number days_before_year days_before_month total days_in_year days_in leap
last_number = refl

pub first_is_date : is_date first_of_all ≡ true
unfolding is_date days_in
first_is_date = refl

-- ---- a later date has a higher number
module _ (a : Date) (p : Parts a) where
  by_month_end : days_before_month a.year a.month + a.day ≤ days_before_month a.year (suc a.month)
  by_month_end = let e = month_more a.year a.month p.month_low in let h = p.day_high in omega arith

  by_year_end : days_before_year a.year + days_before_month a.year a.month + a.day ≤ days_before_year (suc a.year)
  by_year_end =
      let m = by_month_end in
      let h = months_no_less a.year (suc a.month) 13 (let k = p.month_high in omega arith) in
      let e = before_thirteenth a.year in
      let y = year_more a.year p.not_early in
      omega arith

module _ (a b : Date) (p : Parts a) (q : Parts b) where
  in_later_year : a.year < b.year → day_number a < day_number b
  unfolding day_number
  in_later_year h =
      let e = by_year_end a p in
      let y = years_no_less (suc a.year) b.year h in
      let k = q.day_low in
      omega arith

  in_later_month : a.year ≡ b.year → a.month < b.month → day_number a < day_number b
  unfolding day_number
  in_later_month s h =
      let e = by_month_end a p in
      let m = months_no_less a.year (suc a.month) b.month h in
      let k = q.day_low in
      let y : days_before_year b.year ≡ days_before_year a.year = ap days_before_year (sym s) in
      let n : days_before_month b.year b.month ≡ days_before_month a.year b.month = ap (λ (u : ℕ). days_before_month u b.month) (sym s) in
      omega arith

  on_later_day : a.year ≡ b.year → a.month ≡ b.month → a.day < b.day → day_number a < day_number b
  unfolding day_number
  on_later_day s t h =
      let y : days_before_year b.year ≡ days_before_year a.year = ap days_before_year (sym s) in
      let n : days_before_month b.year b.month ≡ days_before_month a.year a.month
      = ap (λ (u : ℕ). days_before_month u b.month) (sym s) ∙ ap (days_before_month a.year) (sym t) in
      omega arith

  higher : Shaped a → Shaped b → rank a < rank b → day_number a < day_number b
  higher s t h =
      ⊎_elim (λ e. in_later_year (ltb-true a.year b.year e))
      (λ e. let y : a.year ≡ b.year = (let n = ltb-false a.year b.year e in omega arith) in
      ⊎_elim (λ f. in_later_month y (ltb-true a.month b.month f))
      (λ f. let n = ltb-false a.month b.month f in let m : a.month ≡ b.month = omega arith in on_later_day y m (omega arith))
      (decided (ltb a.month b.month)))
      (decided (ltb a.year b.year))

-- of two ranks the first is lower, the second is, or they are the same
three_ways : (m n : ℕ) → (m < n) ⊎ ((n < m) ⊎ (m ≡ n))
three_ways m n = ⊎_elim (λ e. inl (ltb-true m n e)) (λ e. inr (⊎_elim (λ f. inl (ltb-true n m f)) (λ f. inr (level m n (ltb-false m n e) (ltb-false n m f))) (decided (ltb n m)))) (decided (ltb m n))
  where
    level : (m n : ℕ) → n ≤ m → m ≤ n → m ≡ n
    level m n h k = omega arith

module _ (a b : Date) (e : is_date a ≡ true) (f : is_date b ≡ true) where
  pub later_number : is_after a b ≡ true → day_number a < day_number b
  later_number h = higher a b (parts a e) (parts b f) (shaped a e) (shaped b f) (after_rank a b (shaped a e) (shaped b f) h)

  -- a number has one date
  pub one_date : day_number a ≡ day_number b → a ≡ b
  one_date h =
      same_rank a b (shaped a e) (shaped b f)
      (⊎_elim (λ r. absurd (let k = higher a b (parts a e) (parts b f) (shaped a e) (shaped b f) r in omega arith))
      (λ r. ⊎_elim (λ s. absurd (let k = higher b a (parts b f) (parts a e) (shaped b f) (shaped a e) s in omega arith)) (λ s. s) r)
      (three_ways (rank a) (rank b)))

  pub number_later : day_number a < day_number b → is_after a b ≡ true
  number_later h =
      rank_after a b (shaped a e) (shaped b f)
      (⊎_elim (λ r. r)
      (λ r. absurd (⊎_elim (λ s. let k = higher b a (parts b f) (parts a e) (shaped b f) (shaped a e) s in omega arith)
      (λ s. let k : day_number a ≡ day_number b = ap day_number (same_rank a b (shaped a e) (shaped b f) s) in omega arith) r))
      (three_ways (rank a) (rank b)))

  pub later_exactly : (is_after a b ≡ true) ↔ (day_number a < day_number b)
  later_exactly = (later_number, number_later)

  -- and where it is not later, the number is no higher
  pub no_later_number : is_after a b ≡ false → day_number b ≤ day_number a
  no_later_number h = ⊎_elim (λ r. absurd (clash (number_later (ltb-true (day_number a) (day_number b) r)) h)) (λ r. ltb-false (day_number a) (day_number b) r) (decided (ltb (day_number a) (day_number b)))

-- ---- the numbers that have a date
pub from_first : (d : Date) → is_date d ≡ true → 2 ≤ day_number d
unfolding day_number
from_first d e = let p = parts d e in let k = p.day_low in omega arith

pub to_last : (d : Date) → is_date d ≡ true → day_number d ≤ 109574
unfolding day_number
to_last d e =
    let p = parts d e in
    let y = by_year_end d p in
    let z = years_no_less (suc d.year) 2200 (let h = p.not_late in omega arith) in
    let w = in_2200 in
    omega arith

-- each day from the first of all has the next number
pub reached : (k : ℕ) → k ≤ 109572 → (is_date (days_later k first_of_all) ≡ true) × (day_number (days_later k first_of_all) ≡ 2 + k)
unfolding days_later
reached zero h = (first_is_date, first_number)
reached (suc k) h =
    let i = reached k (omega arith) in
    let d = days_later k first_of_all in
    let n : day_number d < day_number last_of_all = (let l = last_number in let j = i.1 in omega arith) in
    (next_is_date d i.0 (number_later d last_of_all i.0 last_is_date n), (let s = next_number d i.0 in let j = i.1 in omega arith))

has_date_lem : (n : ℕ) → 2 ≤ n → n ≤ 109574 → has_date n ≡ true
unfolding has_date
has_date_lem n low high = joined (leb (day_number first_of_all) n) (leb n (day_number last_of_all)) (rw first_number (le-leb 2 n low)) (rw last_number (le-leb n 109574 high))

pub has_bounds : (n : ℕ) → has_date n ≡ true → (2 ≤ n) × (n ≤ 109574)
unfolding has_date
has_bounds n e =
    let b = both (leb (day_number first_of_all) n) (leb n (day_number last_of_all)) e in
    let l = leb-true (day_number first_of_all) n b.0 in
    let h = leb-true n (day_number last_of_all) b.1 in
    (rw first_number at l, rw last_number at h)

pub numbered : (n : ℕ) → 2 ≤ n → n ≤ 109574 → date_numbered n ≡ accepted (days_later (n - 2) first_of_all)
unfolding date_numbered no_such_date
numbered n low high = sym (all_clear _ 15 (not (has_date n)) (ap not (has_date_lem n low high))) ∙ ap (λ (k : ℕ). accepted (days_later (n - k) first_of_all)) first_number

pub none_numbered : (n : ℕ) → has_date n ≡ false → date_numbered n ≡ refused 15 0
unfolding date_numbered no_such_date
none_numbered n e = sym (caused _ 15 (not (has_date n)) [] (ap not e))

-- a date's number is given
pub known : (d : Date) → is_date d ≡ true → day_number_of d ≡ accepted (day_number d)
unfolding day_number_of no_such_date
known d e = sym (all_clear _ 15 (not (is_date d)) (ap not e))

-- every number from the first date's to the last's has a date
pub has_a_date : (n : ℕ) → 2 ≤ n → n ≤ 109574 → (d : Date) × (is_date d ≡ true) × (date_numbered n ≡ accepted d)
has_a_date n low high = (days_later (n - 2) first_of_all, (reached (n - 2) (omega arith)).0, numbered n low high)

-- the date of a date's number is that date
pub read_back : (d : Date) → is_date d ≡ true → date_numbered (day_number d) ≡ accepted d
read_back d e =
    let n = day_number d in
    let low = from_first d e in
    let high = to_last d e in
    let r = reached (n - 2) (omega arith) in
    let same : day_number (days_later (n - 2) first_of_all) ≡ n = (let j = r.1 in omega arith) in
    numbered n low high ∙ ap accepted (one_date (days_later (n - 2) first_of_all) d r.0 e same)

-- the number of a number's date is that number
pub number_again : (n : ℕ) (d : Date) → date_numbered n ≡ accepted d → day_number_of d ≡ accepted n
number_again n d h = ⊎_elim there not_there (decided (has_date n))
  where
    there : has_date n ≡ true → day_number_of d ≡ accepted n
    there e =
        let b = has_bounds n e in
        let low = b.0 in
        let high = b.1 in
        let r = reached (n - 2) (omega arith) in
        let v : ◌≡◌ {A = Outcome Date} (accepted (days_later (n - 2) first_of_all)) (accepted d) = sym (numbered n low high) ∙ h in
        let same : days_later (n - 2) first_of_all ≡ d = cc in
        let k : day_number d ≡ n = ap day_number (sym same) ∙ (let j = r.1 in omega arith) in
        known d (ap is_date (sym same) ∙ r.0) ∙ ap accepted k

    not_there : has_date n ≡ false → day_number_of d ≡ accepted n
    not_there e =
        let v : ◌≡◌ {A = Outcome Date} (refused 15 0) (accepted d) = sym (none_numbered n e) ∙ h in
        let z : ◌≡◌ {A = ℕ} 0 1 = cc in
        absurd (omega arith)
