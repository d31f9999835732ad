-- A date's year, month and day, each within its bounds; and how many days a month may have. Assumes nothing.
use mathlib.Core.Path.{◌≡◌}
use mathlib.Core.Bool.{Bool, true, false, cond, ◌&&◌, ◌||◌}
use Prim.Native.Nat.{ℕ, ◌≤◌}
use native.Mathlib.Omega.{arith}
use lib.Dec.{eqb, leb}
use borrow.Author.Tests.{leb-true, le-leb}
use Rattle.dates.specs.declared.Date.{Date}
use Rattle.dates.specs.Calendar.{leap, days_in, is_date}
use Rattle.dates.proofs.Tests.{both, joined}

month_length : (t u v : Bool) → let n : ℕ = cond t (cond u 29 28) (cond v 30 31) in (28 ≤ n) × (n ≤ 31)
month_length true true v = (omega arith, omega arith)
month_length true false v = (omega arith, omega arith)
month_length false u true = (omega arith, omega arith)
month_length false u false = (omega arith, omega arith)

pub days_in_bounds : (year month : ℕ) → (28 ≤ days_in year month) × (days_in year month ≤ 31)
unfolding days_in
days_in_bounds year month = month_length (eqb month 2) (leap year) (eqb month 4 || eqb month 6 || eqb month 9 || eqb month 11)

pub record Parts (d : Date) : Type 0 where
  pub not_early : 1900 ≤ d.year
  pub not_late : d.year ≤ 2199
  pub month_low : 1 ≤ d.month
  pub month_high : d.month ≤ 12
  pub day_low : 1 ≤ d.day
  pub day_high : d.day ≤ days_in d.year d.month

pub parts : (d : Date) → is_date d ≡ true → Parts d
unfolding is_date
parts d e =
    let p = both (leb 1900 d.year && leb d.year 2199 && (leb 1 d.month && leb d.month 12)) (leb 1 d.day && leb d.day (days_in d.year d.month)) e in
    let q = both (leb 1900 d.year && leb d.year 2199) (leb 1 d.month && leb d.month 12) p.0 in
    let y = both (leb 1900 d.year) (leb d.year 2199) q.0 in
    let m = both (leb 1 d.month) (leb d.month 12) q.1 in
    let k = both (leb 1 d.day) (leb d.day (days_in d.year d.month)) p.1 in
    record {
      not_early = leb-true 1900 d.year y.0;
      not_late = leb-true d.year 2199 y.1;
      month_low = leb-true 1 d.month m.0;
      month_high = leb-true d.month 12 m.1;
      day_low = leb-true 1 d.day k.0;
      day_high = leb-true d.day (days_in d.year d.month) k.1;
    }

pub of_parts : (d : Date) → Parts d → is_date d ≡ true
unfolding is_date
of_parts d p =
    joined _ _
    (joined _ _ (joined _ _ (le-leb _ _ p.not_early) (le-leb _ _ p.not_late)) (joined _ _ (le-leb _ _ p.month_low) (le-leb _ _ p.month_high)))
    (joined _ _ (le-leb _ _ p.day_low) (le-leb _ _ p.day_high))
