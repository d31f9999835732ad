-- Three numbers as a date: where one of them is too large for any date another that is none stands in, which is refused alike. And dates that a record can hold. Assumes nothing.
use mathlib.Core.Path.{◌≡◌, refl, sym, ap, ◌∙◌}
use mathlib.Core.Logic.{◌⊎◌, inl, inr}
use mathlib.Core.Bool.{Bool, true, false, not, ◌&&◌}
use mathlib.Core.List.{[], ◌∷◌}
use Prim.Native.Nat.{ℕ, ◌<◌}
use native.Mathlib.Omega.{arith}
use lib.Dec.{ltb}
use borrow.Author.Tests.{lt-ltb}
use Rattle.std.specs.Prelude.{Option, Some, None, IfSome, is_some, unwrap_or}
use Rattle.refusals.specs.Outcome.{Outcome, refused, judged}
use Rattle.refusals.specs.Table.{no_such_date, bad_dates}
use Rattle.dates.specs.declared.Date.{Date}
use Rattle.dates.specs.Calendar.{is_date, is_after}
use Rattle.dates.specs.Answers.{dates_line, day_number_of, months_later_of}
use Rattle.dates.proofs.Tests.{both}
use Rattle.dates.proofs.Parts.{Parts, days_in_bounds}
use Rattle.dates.proofs.Following.{no_date}
use Rattle.dates.proofs.Asked.{no_number, bad_start}
use Rattle.refusals.proofs.OneCause.{caused}
use Rattle.senyolanda.specs.Dates.{held_by_record}

-- the same date, or two that are none
abbrev pub Alike : Date → Date → Type 0
Alike d e = (d ≡ e) ⊎ ((is_date d ≡ false) × (is_date e ≡ false))

-- ---- numbers that are too large for a date's fields are too large for any date
not_held : (d : Date) → held_by_record d ≡ false → is_date d ≡ false
not_held d e =
    sym (no_date d (λ (p : Parts d). (
    let year : ltb d.year 0x1_0000 ≡ true = lt-ltb d.year 0x1_0000 (omega (arith, p.not_late)) in
    let month : ltb d.month 0x100 ≡ true = lt-ltb d.month 0x100 (omega (arith, p.month_high)) in
    let day : ltb d.day 0x100 ≡ true = lt-ltb d.day 0x100 (omega (arith, p.day_high, days_in_bounds d.year d.month)) in
    let z : true ≡ false = rw (year, month, day) at e in
    cc
    )))

pub held_or : (held : Option Date) (d other : Date) → IfSome held (λ (x : Date). x ≡ d) → is_some held ≡ held_by_record d → is_date other ≡ false → Alike (unwrap_or held other) d
held_or (Some x) d other e h is = inl e
held_or None d other e h is = inr (is, not_held d (sym h))

-- ---- what is asked of dates that are alike
pub same_number : (d e : Date) → Alike d e → day_number_of d ≡ day_number_of e
same_number d e (inl h) = ap day_number_of h
same_number d e (inr h) = sym (no_number d h.0) ∙ no_number e h.1

pub same_months : (d e : Date) (months : ℕ) → Alike d e → months_later_of d months ≡ months_later_of e months
same_months d e months (inl h) = ap (λ (x : Date). months_later_of x months) h
same_months d e months (inr h) = sym (bad_start d months h.0) ∙ bad_start e months h.1

no_first : (b c : Bool) → bad_dates false b c ≡ true
unfolding bad_dates no_such_date
no_first b c = refl

no_second : (a c : Bool) → bad_dates a false c ≡ true
unfolding bad_dates no_such_date
no_second true c = refl
no_second false c = refl

module _ {Value : Type 0} (counted : Date → Date → Value) where
  abbrev between : Date → Date → Outcome Value
  between first second = judged (dates_line first second ∷ []) (counted first second)

  bad_first : (a b : Date) → is_date a ≡ false → refused 15 0 ≡ between a b
  bad_first a b e = caused (counted a b) 15 _ [] (ap (λ (t : Bool). bad_dates t (is_date b) (is_after a b)) e ∙ no_first (is_date b) (is_after a b))

  bad_second : (a b : Date) → is_date b ≡ false → refused 15 0 ≡ between a b
  bad_second a b e = caused (counted a b) 15 _ [] (ap (λ (t : Bool). bad_dates (is_date a) t (is_after a b)) e ∙ no_second (is_date a) (is_after a b))

  pub same_between : (a b c d : Date) → Alike a c → Alike b d → between a b ≡ between c d
  same_between a b c d (inr h) k = sym (bad_first a b h.0) ∙ bad_first c d h.1
  same_between a b c d (inl h) (inl k) = rw (h, k)
  same_between a b c d (inl h) (inr k) = sym (bad_second a b k.0) ∙ bad_second c d k.1
