-- How tight the promises are: whatever a public function is given, any two results that its contract allows are equal; those over a span are on one that is. Assumes nothing.
use mathlib.Core.Path.{◌≡◌, sym, ap, subst, ◌∙◌}
use mathlib.Core.Bool.{Bool, true}
use mathlib.Core.List.{List}
use Prim.Native.Nat.{ℕ, ◌+◌, ◌≤◌}
use lib.ListN.{length}
use borrow.Fn.Kinds.{Out, ParamKind, ResultKind, Dens, res_t, ended_of}
use contract.Lifetimes.{Lfts}
use denote.Triple.Clauses.{AtExit, Lasts, at_exit}
use Rattle.numbers.proofs.Determined.{Determined}
use Rattle.refusals.proofs.OneToOne.{one_to_one}
use Rattle.dates.specs.declared.periods.Span.{Span}
use Rattle.dates.specs.Calendar.{is_date}
use Rattle.dates.specs.Periods.{is_span, period_count}
use Rattle.dates.specs.DayLists.{Follows, elapsed_at, counted_at, DaysListed}
use Rattle.dates.proofs.DayLists.{same_list}
use Rattle.dates.proofs.calendar.is_date.Kinds as is_date_kinds
use Rattle.dates.proofs.calendar.is_date.Reads as is_date_reads
use Rattle.dates.proofs.calendar.is_after.Kinds as is_after_kinds
use Rattle.dates.proofs.calendar.is_after.Reads as is_after
use Rattle.dates.proofs.counts.bad_dates.Kinds as bad_dates_kinds
use Rattle.dates.proofs.counts.bad_dates.Reads as bad_dates
use Rattle.dates.proofs.counts.thirty_days.Kinds as thirty_days_kinds
use Rattle.dates.proofs.counts.thirty_days.Reads as thirty_days
use Rattle.dates.proofs.counts.actual_days.Kinds as actual_days_kinds
use Rattle.dates.proofs.counts.actual_days.Reads as actual_days
use Rattle.dates.proofs.counts.actual_days_between.Kinds as actual_days_between_kinds
use Rattle.dates.proofs.counts.actual_days_between.Reads as actual_days_between
use Rattle.dates.proofs.counts.thirty_days_between.Kinds as thirty_days_between_kinds
use Rattle.dates.proofs.counts.thirty_days_between.Reads as thirty_days_between
use Rattle.dates.proofs.day_numbers.day_number.Kinds as day_number_kinds
use Rattle.dates.proofs.day_numbers.day_number.Reads as day_number
use Rattle.dates.proofs.day_numbers.date_of.Kinds as date_of_kinds
use Rattle.dates.proofs.day_numbers.date_of.Reads as date_of
use Rattle.dates.proofs.months.months_later.Kinds as months_later_kinds
use Rattle.dates.proofs.months.months_later.Reads as months_later
use Rattle.dates.proofs.periods.period_count.Kinds as period_count_kinds
use Rattle.dates.proofs.periods.period_count.Reads as period_count_reads
use Rattle.dates.proofs.runs.put_days.Kinds as put_days_kinds
use Rattle.dates.proofs.runs.put_days.Reads as put_days

-- the like of Determined, where something holds of the arguments
abbrev DeterminedOn : (n : ℕ) (ps : List (ParamKind n)) (r : ResultKind n) → ((κs : Lfts n) → Dens κs ps → Type 0) → Out n ps r → Type 0
DeterminedOn n ps r holds promise =
    (κs : Lfts n) (a : Dens κs ps) → holds κs a → (x y : (res_t r κs).Denot) (e e' : AtExit (ended_of n ps r) κs) → promise κs a x e → promise κs a y e' → x ≡ y

pub is_date_determined : Determined 0 is_date_kinds.ps is_date_kinds.r is_date_reads.Post
is_date_determined κs a x y e e' p q = p ∙ sym q

pub is_after_determined : Determined 0 is_after_kinds.ps is_after_kinds.r is_after.Post
is_after_determined κs a x y e e' p q = p ∙ sym q

pub bad_dates_determined : Determined 0 bad_dates_kinds.ps bad_dates_kinds.r bad_dates.Post
bad_dates_determined κs a x y e e' p q = p ∙ sym q

pub thirty_days_determined : Determined 0 thirty_days_kinds.ps thirty_days_kinds.r thirty_days.Post
thirty_days_determined κs a x y e e' p q = p ∙ sym q

pub actual_days_between_determined : Determined 0 actual_days_between_kinds.ps actual_days_between_kinds.r actual_days_between.Post
actual_days_between_determined κs a x y e e' p q = one_to_one x y (p ∙ sym q)

pub thirty_days_between_determined : Determined 0 thirty_days_between_kinds.ps thirty_days_between_kinds.r thirty_days_between.Post
thirty_days_between_determined κs a x y e e' p q = one_to_one x y (p ∙ sym q)

pub day_number_determined : Determined 0 day_number_kinds.ps day_number_kinds.r day_number.Post
day_number_determined κs a x y e e' p q = one_to_one x y (p ∙ sym q)

pub date_of_determined : Determined 0 date_of_kinds.ps date_of_kinds.r date_of.Post
date_of_determined κs a x y e e' p q = one_to_one x y (p ∙ sym q)

pub months_later_determined : Determined 0 months_later_kinds.ps months_later_kinds.r months_later.Post
months_later_determined κs a x y e e' p q = one_to_one x y (p ∙ sym q)

pub actual_days_determined : DeterminedOn 0 actual_days_kinds.ps actual_days_kinds.r (λ κs a. (is_date a.0 ≡ true) × (is_date a.1.0 ≡ true)) actual_days.Post
actual_days_determined κs a dates x y e e' p q = p dates.0 dates.1 ∙ sym (q dates.0 dates.1)

-- ---- the periods of a span
pub period_count_determined : DeterminedOn 0 period_count_kinds.ps period_count_kinds.r (λ κs a. is_span a.0 ≡ true) period_count_reads.Post
period_count_determined κs a span x y e e' p q = p span ∙ sym (q span)

same_days : (s : Span) (thirties : Bool) (first n : ℕ) (xs ys xs' ys' : List ℕ) → length xs ≡ n → length ys ≡ n → length xs' ≡ n → length ys' ≡ n
    → DaysListed s thirties first (length xs) xs ys → DaysListed s thirties first (length xs') xs' ys' → (xs ≡ xs') × (ys ≡ ys')
same_days s thirties first n xs ys xs' ys' a b c d l l' = (
  same_list (λ (j : ℕ). elapsed_at s (first + j)) xs xs' (a ∙ sym c) l.of_elapsed l'.of_elapsed,
  same_list (λ (j : ℕ). counted_at s thirties (first + j)) ys ys' (b ∙ sym d) (subst (λ (m : ℕ). Follows (λ (j : ℕ). counted_at s thirties (first + j)) m ys) (a ∙ sym b) l.of_counted)
      (subst (λ (m : ℕ). Follows (λ (j : ℕ). counted_at s thirties (first + j)) m ys') (c ∙ sym d) l'.of_counted),
)

-- of a run that a span has, both lists are settled
pub put_days_settled : (κs : Lfts 2) (a : Dens κs put_days_kinds.ps) (x y : (res_t put_days_kinds.r κs).Denot) (w w' : Lasts (ended_of 2 put_days_kinds.ps put_days_kinds.r) κs a) (n : ℕ)
    → is_span a.0 ≡ true → a.1.0 + n ≤ period_count a.0 → n ≤ 64 → length w.1.1.1.0 ≡ n → length w.1.1.1.1.0 ≡ n → length w'.1.1.1.0 ≡ n → length w'.1.1.1.1.0 ≡ n
    → put_days.Post κs a x (at_exit (ended_of 2 put_days_kinds.ps put_days_kinds.r) κs a w) → put_days.Post κs a y (at_exit (ended_of 2 put_days_kinds.ps put_days_kinds.r) κs a w') → w ≡ w'
put_days_settled κs a x y w w' n span within few e f g h p q =
    let same = same_days a.0 a.1.1.0 a.1.0 n w.1.1.1.0 w.1.1.1.1.0 w'.1.1.1.0 w'.1.1.1.1.0 e f g h
    (p span (subst (λ (m : ℕ). a.1.0 + m ≤ period_count a.0) (sym e) within) (subst (λ (m : ℕ). m ≤ 64) (sym e) few) (e ∙ sym f))
    (q span (subst (λ (m : ℕ). a.1.0 + m ≤ period_count a.0) (sym g) within) (subst (λ (m : ℕ). m ≤ 64) (sym g) few) (g ∙ sym h)) in
    ap (λ (l : List ℕ). (tt, (tt, (tt, (l, (w.1.1.1.1.0, tt)))))) same.0 ∙ ap (λ (l : List ℕ). (tt, (tt, (tt, (w'.1.1.1.0, (l, tt)))))) same.1
