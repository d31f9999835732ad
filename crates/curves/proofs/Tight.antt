-- How tight the promises are: whatever a public function is given, any two results that its contract allows are equal; a finder's are on times that rise. Assumes nothing.
use mathlib.Core.Path.{◌≡◌, refl, sym, ap, ◌∙◌}
use mathlib.Core.Bool.{Bool, true, false}
use mathlib.Core.List.{List}
use Prim.Native.Nat.{ℕ, ◌+◌, ◌<◌, ◌≤◌}
use lib.ListN.{get_or}
use lib.Ieee.{Float, nan}
use borrow.Fn.Kinds.{Out, ParamKind, ResultKind, Dens, res_t, ended_of}
use contract.Lifetimes.{Lfts}
use denote.Triple.Clauses.{AtExit, Lasts, at_exit}
use Rattle.numbers.proofs.Determined.{Determined, Settled}
use Rattle.refusals.proofs.OneToOne.{one_to_one}
use Rattle.curves.specs.declared.segments.Ends.{Ends}
use Rattle.curves.specs.Segments.{Rising}
use Rattle.curves.proofs.curve.bad_knot_count.Kinds as bad_knot_count_kinds
use Rattle.curves.proofs.curve.bad_knot_count.Reads as bad_knot_count
use Rattle.curves.proofs.curve.bad_knot.Kinds as bad_knot_kinds
use Rattle.curves.proofs.curve.bad_knot.Reads as bad_knot
use Rattle.curves.proofs.curve.bad_knot_after.Kinds as bad_knot_after_kinds
use Rattle.curves.proofs.curve.bad_knot_after.Reads as bad_knot_after
use Rattle.curves.proofs.curve.bad_time.Kinds as bad_time_kinds
use Rattle.curves.proofs.curve.bad_time.Reads as bad_time
use Rattle.curves.proofs.curve.judge_curve.Kinds as judge_curve_kinds
use Rattle.curves.proofs.curve.judge_curve.Reads as judge_curve
use Rattle.curves.proofs.curve.judge_asked.Kinds as judge_asked_kinds
use Rattle.curves.proofs.curve.judge_asked.Reads as judge_asked
use Rattle.curves.proofs.segments.knot_at.Kinds as knot_at_kinds
use Rattle.curves.proofs.segments.knot_at.Reads as knot_at
use Rattle.curves.proofs.segments.knot_after.Kinds as knot_after_kinds
use Rattle.curves.proofs.segments.knot_after.Reads as knot_after
use Rattle.curves.proofs.segments.last_knot.Kinds as last_knot_kinds
use Rattle.curves.proofs.segments.last_knot.Reads as last_knot
use Rattle.curves.proofs.segments.ends_of.Kinds as ends_of_kinds
use Rattle.curves.proofs.segments.ends_of.Reads as ends_of
use Rattle.curves.proofs.each.all_finite.Kinds as all_finite_kinds
use Rattle.curves.proofs.each.all_finite.Reads as all_finite
use Rattle.curves.proofs.each.judge_each.Kinds as judge_each_kinds
use Rattle.curves.proofs.each.judge_each.Reads as judge_each
use Rattle.curves.proofs.segments.no_knot.Kinds as no_knot_kinds
use Rattle.curves.proofs.segments.no_knot.Reads as no_knot
use Rattle.curves.proofs.formulas.along.Kinds as along_kinds
use Rattle.curves.proofs.formulas.along.Reads as along
use Rattle.curves.proofs.ending.segment.Kinds as segment_ending_kinds
use Rattle.curves.proofs.ending.segment.Reads as segment_ending
use Rattle.curves.proofs.starting.segment.Kinds as segment_starting_kinds
use Rattle.curves.proofs.starting.segment.Reads as segment_starting
use Rattle.curves.proofs.lookups.rate_of.Kinds as rate_of_kinds
use Rattle.curves.proofs.lookups.rate_of.Reads as rate_of_lem
use Rattle.curves.proofs.lookups.exponent_at.Kinds as exponent_at_kinds
use Rattle.curves.proofs.lookups.exponent_at.Reads as exponent_at
use Rattle.curves.proofs.lookups.discount_of.Kinds as discount_of_kinds
use Rattle.curves.proofs.lookups.discount_of.Reads as discount_of
use Rattle.curves.proofs.each.rates_onward.Kinds as rates_onward_kinds
use Rattle.curves.proofs.each.rates_onward.Reads as rates_onward
use Rattle.curves.proofs.each.discounts_onward.Kinds as discounts_onward_kinds
use Rattle.curves.proofs.each.discounts_onward.Reads as discounts_onward
use Rattle.curves.proofs.each.rate_at_each.Kinds as rate_at_each_kinds
use Rattle.curves.proofs.each.rate_at_each.Reads as rate_at_each
use Rattle.curves.proofs.each.discount_factor_at_each.Kinds as discount_factor_at_each_kinds
use Rattle.curves.proofs.each.discount_factor_at_each.Reads as discount_factor_at_each
use Rattle.curves.proofs.runs.factors_after.Kinds as factors_after_kinds
use Rattle.curves.proofs.runs.factors_after.Reads as factors_after

-- the like of Determined and Settled, where something holds of the arguments
abbrev DeterminedOn : (n : ℕ) (ps : List (ParamKind n)) (r : ResultKind n) → ((κs : Lfts n) → Dens κs ps → Type 0) → Out n ps r → Type 0
DeterminedOn n ps r holds promise =
    (κs : Lfts n) (a : Dens κs ps) → holds κs a → (x y : (res_t r κs).Denot) (e e' : AtExit (ended_of n ps r) κs) → promise κs a x e → promise κs a y e' → x ≡ y

abbrev SettledOn : (n : ℕ) (ps : List (ParamKind n)) (r : ResultKind n) → ((κs : Lfts n) → Dens κs ps → Type 0) → Out n ps r → Type 0
SettledOn n ps r holds promise =
    (κs : Lfts n) (a : Dens κs ps) → holds κs a → (x y : (res_t r κs).Denot) (w w' : Lasts (ended_of n ps r) κs a)
    → promise κs a x (at_exit (ended_of n ps r) κs a w) → promise κs a y (at_exit (ended_of n ps r) κs a w') → w ≡ w'

same_ends : (x y : Ends) → x.t0 ≡ y.t0 → x.t1 ≡ y.t1 → x.r0 ≡ y.r0 → x.r1 ≡ y.r1 → x ≡ y
same_ends x y a b c d =
    ap (λ (u : Float). record { t0 = u; t1 = x.t1; r0 = x.r0; r1 = x.r1 }) a ∙ ap (λ (u : Float). record { t0 = y.t0; t1 = u; r0 = x.r0; r1 = x.r1 }) b
    ∙ ap (λ (u : Float). record { t0 = y.t0; t1 = y.t1; r0 = u; r1 = x.r1 }) c ∙ ap (λ (u : Float). record { t0 = y.t0; t1 = y.t1; r0 = y.r0; r1 = u }) d

pub bad_knot_count_determined : Determined 0 bad_knot_count_kinds.ps bad_knot_count_kinds.r bad_knot_count.Post
bad_knot_count_determined κs a x y e e' p q = p ∙ sym q

pub bad_knot_determined : Determined 0 bad_knot_kinds.ps bad_knot_kinds.r bad_knot.Post
bad_knot_determined κs a x y e e' p q = p ∙ sym q

pub bad_knot_after_determined : Determined 0 bad_knot_after_kinds.ps bad_knot_after_kinds.r bad_knot_after.Post
bad_knot_after_determined κs a x y e e' p q = p ∙ sym q

pub bad_time_determined : Determined 0 bad_time_kinds.ps bad_time_kinds.r bad_time.Post
bad_time_determined κs a x y e e' p q = p ∙ sym q

pub judge_curve_determined : Determined 2 judge_curve_kinds.ps judge_curve_kinds.r judge_curve.Post
judge_curve_determined κs a x y e e' p q = one_to_one x y (p ∙ sym q)

pub judge_asked_determined : Determined 2 judge_asked_kinds.ps judge_asked_kinds.r judge_asked.Post
judge_asked_determined κs a x y e e' p q = one_to_one x y (p ∙ sym q)

pub knot_at_determined : Determined 1 knot_at_kinds.ps knot_at_kinds.r knot_at.Post
knot_at_determined κs a x y e e' p q = p ∙ sym q

pub knot_after_determined : Determined 1 knot_after_kinds.ps knot_after_kinds.r knot_after.Post
knot_after_determined κs a x y e e' p q = p ∙ sym q

pub last_knot_determined : Determined 1 last_knot_kinds.ps last_knot_kinds.r last_knot.Post
last_knot_determined κs a x y e e' p q = p ∙ sym q

pub ends_of_determined : Determined 2 ends_of_kinds.ps ends_of_kinds.r ends_of.Post
ends_of_determined κs a x y e e' p q = same_ends x y (p.0 ∙ sym q.0) (p.1 ∙ sym q.1) (p.2 ∙ sym q.2) (p.3 ∙ sym q.3)

-- two answers to one question, by what either says where it is true
same_answer : (x y : Bool) → (x ≡ true → y ≡ true) → (y ≡ true → x ≡ true) → x ≡ y
same_answer true y p q = sym (p refl)
same_answer false true p q = q refl
same_answer false false p q = refl

pub all_finite_determined : Determined 1 all_finite_kinds.ps all_finite_kinds.r all_finite.Post
all_finite_determined κs a x y e e' p q = same_answer x y (λ t. q.1 (p.0 t)) (λ t. p.1 (q.0 t))

pub judge_each_determined : Determined 3 judge_each_kinds.ps judge_each_kinds.r judge_each.Post
judge_each_determined κs a x y e e' p q = one_to_one x y (p ∙ sym q)

pub no_knot_determined : Determined 0 no_knot_kinds.ps no_knot_kinds.r no_knot.Post
no_knot_determined κs a x y e e' p q = p ∙ sym q

pub along_determined : Determined 0 along_kinds.ps along_kinds.r along.Post
along_determined κs a x y e e' p q = p ∙ sym q

pub exponent_at_determined : Determined 0 exponent_at_kinds.ps exponent_at_kinds.r exponent_at.Post
exponent_at_determined κs a x y e e' p q = p ∙ sym q

-- ---- lists of lookups: one verdict, and one list after the call
pub rate_at_each_determined : Determined 3 rate_at_each_kinds.ps rate_at_each_kinds.r rate_at_each.Post
rate_at_each_determined κs a x y e e' p q = one_to_one x y (p.0 ∙ sym q.0)

pub rate_at_each_settled : Settled 3 rate_at_each_kinds.ps rate_at_each_kinds.r rate_at_each.Post
rate_at_each_settled κs a x y w w' p q = ap (λ (l : List Float). (tt, (tt, (tt, (l, tt))))) (p.1 ∙ sym q.1)

pub discount_factor_at_each_determined : Determined 3 discount_factor_at_each_kinds.ps discount_factor_at_each_kinds.r discount_factor_at_each.Post
discount_factor_at_each_determined κs a x y e e' p q = one_to_one x y (p.0 ∙ sym q.0)

pub discount_factor_at_each_settled : Settled 3 discount_factor_at_each_kinds.ps discount_factor_at_each_kinds.r discount_factor_at_each.Post
discount_factor_at_each_settled κs a x y w w' p q = ap (λ (l : List Float). (tt, (tt, (tt, (l, tt))))) (p.1 ∙ sym q.1)

-- ---- the finders, on times that rise
pub segment_ending_determined : DeterminedOn 1 segment_ending_kinds.ps segment_ending_kinds.r (λ κs a. Rising a.0.now) segment_ending.Post
segment_ending_determined κs a rises x y e e' p q = p rises ∙ sym (q rises)

pub segment_starting_determined : DeterminedOn 1 segment_starting_kinds.ps segment_starting_kinds.r (λ κs a. Rising a.0.now) segment_starting.Post
segment_starting_determined κs a rises x y e e' p q = p rises ∙ sym (q rises)

pub rate_of_determined : DeterminedOn 2 rate_of_kinds.ps rate_of_kinds.r (λ κs a. Rising a.1.0.now) rate_of_lem.Post
rate_of_determined κs a rises x y e e' p q = p rises ∙ sym (q rises)

pub discount_of_determined : DeterminedOn 2 discount_of_kinds.ps discount_of_kinds.r (λ κs a. Rising a.1.0.now) discount_of.Post
discount_of_determined κs a rises x y e e' p q = p rises ∙ sym (q rises)

pub rates_onward_settled : SettledOn 3 rates_onward_kinds.ps rates_onward_kinds.r (λ κs a. Rising a.1.0.now) rates_onward.Post
rates_onward_settled κs a rises x y w w' p q = ap (λ (l : List Float). (tt, (tt, (tt, (l, tt))))) (p rises ∙ sym (q rises))

pub discounts_onward_settled : SettledOn 3 discounts_onward_kinds.ps discounts_onward_kinds.r (λ κs a. Rising a.1.0.now) discounts_onward.Post
discounts_onward_settled κs a rises x y w w' p q = ap (λ (l : List Float). (tt, (tt, (tt, (l, tt))))) (p rises ∙ sym (q rises))

-- a run's factors are settled up to their count, for at most 64 dates that a u32 counts
pub factors_after_determined : (κs : Lfts 2) (a : Dens κs factors_after_kinds.ps) → Rising a.1.1.0.now → a.1.1.1.1.1.0 ≤ 64 → a.1.1.1.1.0 + a.1.1.1.1.1.0 < 4294967296
    → (x y : List Float) (e e' : AtExit (ended_of 2 factors_after_kinds.ps factors_after_kinds.r) κs) → factors_after.Post κs a x e → factors_after.Post κs a y e'
    → (j : ℕ) → j < a.1.1.1.1.1.0 → get_or x j nan ≡ get_or y j nan
factors_after_determined κs a rises few counted x y e e' p q j h = p.1 rises few counted j h ∙ sym (q.1 rises few counted j h)
