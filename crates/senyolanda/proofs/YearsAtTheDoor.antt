-- Year-end lines at the door that C uses, for a loan of any kind: whatever bytes are handed to an opening, where its result is 0, and whatever draws with lines follow, into any rooms, refused ones among them: a lookup
-- gives the definition's line of every year that the rows filed have begun, and 14 for any other; and to the end they are the loan's rows, and repay it. Assumes nothing.
use mathlib.Core.Path.{◌≡◌, refl, sym, ap, ◌∙◌}
use mathlib.Core.List.{List, map}
use Prim.Native.Nat.{ℕ, ◌*◌, ◌<◌, ◌≤◌}
use lib.Dec.{T}
use lib.ListN.{length, take}
use lib.Ieee.{Float, binary64, fits}
use borrow.Fn.Kinds.{Dens, res_t, ended_of}
use contract.Lifetimes.{Lfts}
use denote.Triple.Clauses.{Lasts, at_exit}
use Rattle.refusals.specs.Outcome.{Outcome, refused, accepted}
use Rattle.refusals.proofs.NumbersWithin.{between, within}
use Rattle.records.specs.declared.Terms.{Terms}
use Rattle.records.specs.Kinds.{terms_in}
use Rattle.steps.proofs.Calls.{left_alike, filed_alike}
use Rattle.mortgage.specs.declared.Loan.{Loan}
use Rattle.mortgage.specs.declared.draws.Portion.{Portion}
use Rattle.mortgage.specs.declared.years.Year.{Year}
use Rattle.mortgage.specs.Payment.{payment, opened, opened_with}
use Rattle.mortgage.specs.Kinds.{Way, level}
use Rattle.mortgage.specs.Openings.{paying_terms, kind_opened_with, kind_opened}
use Rattle.mortgage.specs.Row.{width}
use Rattle.mortgage.specs.Month.{due}
use Rattle.mortgage.specs.Demand3.{rows_in, handed_back}
use Rattle.mortgage.specs.Years.{started_years, year_width, year_places}
use Rattle.mortgage.specs.YearDraws.{year_draw_lines, drawn_with_years, filled_with_years, summed, looked_up}
use Rattle.mortgage.specs.Summary as desk
use Rattle.mortgage.specs.Summary.{wrote_with_years, filed_with_years, SumsUp}
use Rattle.mortgage.proofs.Exactly.{draw_with_years_of_any_kind_refused_exactly}
use Rattle.mortgage.proofs.Summing.{summed_up_of_any_kind, repaid_beside_lines_of_any_kind}
use Rattle.senyolanda.specs.Told.{told}
use Rattle.senyolanda.specs.Loans.{loan_numbers, portion_numbers}
use Rattle.senyolanda.specs.Calls.{Kept, in_hand, open_answer, open_with_answer, kind_open_answer, kind_open_with_answer, rows_said}
use Rattle.senyolanda.specs.YearCalls.{KeptWithYears, YearCall, year_draw_answer, lookup_answer, files_beside, keeps_beside, filed_beside, kept_beside, SumsUpAtTheDoor, SumsUpOnceOpen}
use Rattle.senyolanda.proofs.ResultSays.{never_0}
use Rattle.senyolanda.proofs.AtTheDoor.{none_said, kind_numbers, opening_number, opening_terms, principal_held_in}
use Rattle.senyolanda.proofs.years.senyolanda_draw_with_years.Kinds as draw_kinds
use Rattle.senyolanda.proofs.years.senyolanda_draw_with_years.Reads as draw_reads
use Rattle.senyolanda.proofs.years.senyolanda_look_up_year.Kinds as lookup_kinds
use Rattle.senyolanda.proofs.years.senyolanda_look_up_year.Reads as lookup_reads

-- ---- what the host keeps, as the loan in hand with its lines
abbrev hand : KeptWithYears → desk.Kept
hand k = (in_hand k.0, k.1)

abbrev rooms : List YearCall → List (List Float)
rooms draws = map (λ (c : YearCall). c.0) draws

module _ (way : Way) where
  refused_number : (l : Loan) (room years : List Float) (j p : ℕ) → drawn_with_years way l room years ≡ refused j p → 0 < j
  unfolding between
  refused_number l room years j p e =
      (within 0 0x1_0000_0000 (year_draw_lines way l (length room) (length years)) j p (kind_numbers way l.term) ((draw_with_years_of_any_kind_refused_exactly way l room years j p).0 e).applies).0

  -- ---- one draw
  module _ (k : KeptWithYears) (c : YearCall) where
    abbrev l : Loan
    l = in_hand k.0

    abbrev Told : Outcome Portion → ℕ × (List ℕ × List Float × ℕ × ℕ)
    Told o = told portion_numbers o (k.0.0, k.0.1, c.1, c.2)

    same_filed : files_beside way k c ≡ wrote_with_years way (hand k) c.0
    unfolding files_beside wrote_with_years told
    same_filed = go (drawn_with_years way l c.0 k.1) refl
      where
        go : (o : Outcome Portion) → drawn_with_years way l c.0 k.1 ≡ o
            → take (rows_said (Told o).0 (Told o).1.2 * width) (filled_with_years way l c.0 k.1) ≡ take (rows_in o * width) (filled_with_years way l c.0 k.1)
        go (refused j p) e = rw (none_said j p c.1 (refused_number l c.0 k.1 j p e))
        go (accepted d) e = refl

    same_kept : hand (keeps_beside way k c) ≡ desk.kept_after way (hand k) c.0
    unfolding keeps_beside told
    same_kept = go (drawn_with_years way l c.0 k.1)
      where
        go : (o : Outcome Portion) → ◌≡◌ {A = desk.Kept} (in_hand ((Told o).1.0, (Told o).1.1), summed way l c.0 k.1) (handed_back o l, summed way l c.0 k.1)
        go (refused j p) = refl
        go (accepted d) = refl

  -- ---- draws one after the other
  all_filed : (draws : List YearCall) (k : KeptWithYears) → filed_beside way k draws ≡ filed_with_years way (hand k) (rooms draws)
  all_filed = filed_alike (files_beside way) (keeps_beside way) (wrote_with_years way) (desk.kept_after way) hand (λ (c : YearCall). c.0) same_filed same_kept

  all_kept : (draws : List YearCall) (k : KeptWithYears) → hand (kept_beside way k draws) ≡ desk.kept way (hand k) (rooms draws)
  all_kept = left_alike (files_beside way) (keeps_beside way) (wrote_with_years way) (desk.kept_after way) hand (λ (c : YearCall). c.0) same_filed same_kept

  -- ---- a lookup, by what is in hand
  module _ (k : KeptWithYears) (h : desk.Kept) (is : hand k ≡ h) (year : ℕ) (before : List Float) where
    looked : (o : Outcome Year) → looked_up way h.0 h.1 year ≡ o → lookup_answer way k year before ≡ told year_places o before
    looked o e = ap (λ (x : Outcome Year). told year_places x before) (ap (λ (m : desk.Kept). looked_up way m.0 m.1 year) is ∙ e)

    gives : (y : Year) → looked_up way h.0 h.1 year ≡ accepted y → lookup_answer way k year before ≡ (0, year_places y)
    unfolding told
    gives y e = looked (accepted y) e

    refuses : looked_up way h.0 h.1 year ≡ refused 14 0 → lookup_answer way k year before ≡ (14, before)
    unfolding told
    refuses e = looked (refused 14 0) e

  -- ---- from a loan as it was opened
  module _ (t : Terms) (pay : Float) (l : Loan) (fit : T (fits binary64 t.principal)) (opens : kind_opened_with way t pay ≡ accepted l) (years : List Float)
      (enough : started_years t.term * year_width ≤ length years) (draws : List YearCall) where
    abbrev k₀ : KeptWithYears
    k₀ = (loan_numbers l, years)

    abbrev ended : desk.Kept
    ended = desk.kept way (l, years) (rooms draws)

    filed_is : filed_beside way k₀ draws ≡ filed_with_years way (l, years) (rooms draws)
    filed_is = all_filed draws k₀

    sums : SumsUp way ended (filed_beside way k₀ draws)
    sums = rw filed_is (summed_up_of_any_kind way t pay l opens years enough (rooms draws))

    sums_up : SumsUpAtTheDoor way t k₀ draws
    sums_up = record {
      looks_up = λ year before some begun. gives (kept_beside way k₀ draws) ended (all_kept draws k₀) year before _ (sums.year_found year some begun);
      fourteen = λ year before other. refuses (kept_beside way k₀ draws) ended (all_kept draws k₀) year before (sums.year_refused year other);
      repays = λ z. rw filed_is (repaid_beside_lines_of_any_kind way t pay l opens years fit (rooms draws) (sym (ap (λ (m : desk.Kept). due way m.0) (all_kept draws k₀)) ∙ z));
    }

  -- ---- an opening, and the draws after it
  once_open : (t : Terms) (pay : Float) (before : Kept) (o : Outcome Loan) → T (fits binary64 t.principal)
      → ((j p : ℕ) → o ≡ refused j p → 0 < j) → ((l : Loan) → o ≡ accepted l → kind_opened_with way t pay ≡ accepted l) → SumsUpOnceOpen way t (told loan_numbers o before)
  unfolding told
  once_open t pay before (refused j p) fit number opens z years enough draws = absurd (never_0 j p (number j p refl) z)
  once_open t pay before (accepted l) fit number opens z years enough draws = sums_up t pay l fit (opens l refl) years enough draws

-- ---- of any kind, with the worked-out payment, and with any given one
pub sums_up_at_the_door_of_any_kind : (way : Way) (bytes : List ℕ) (before : Kept) → SumsUpOnceOpen way (terms_in bytes) (kind_open_answer way bytes before)
unfolding kind_opened
sums_up_at_the_door_of_any_kind way bytes before =
    let pay : Terms → Float = λ t. payment (paying_terms way t) in
    once_open way (terms_in bytes) (pay (terms_in bytes)) before _ (principal_held_in bytes) (opening_number way bytes pay) (opening_terms way bytes pay)

pub sums_up_at_the_door_of_any_kind_given : (way : Way) (bytes : List ℕ) (pay : Float) (before : Kept) → SumsUpOnceOpen way (terms_in bytes) (kind_open_with_answer way bytes pay before)
sums_up_at_the_door_of_any_kind_given way bytes pay before =
    once_open way (terms_in bytes) pay before _ (principal_held_in bytes) (opening_number way bytes (λ (t : Terms). pay)) (opening_terms way bytes (λ (t : Terms). pay))

-- of document 01's loan
pub sums_up_at_the_door : (bytes : List ℕ) (before : Kept) → SumsUpOnceOpen level (terms_in bytes) (open_answer bytes before)
unfolding kind_opened kind_opened_with opened opened_with
sums_up_at_the_door bytes before = sums_up_at_the_door_of_any_kind level bytes before

pub sums_up_at_the_door_given : (bytes : List ℕ) (pay : Float) (before : Kept) → SumsUpOnceOpen level (terms_in bytes) (open_with_answer bytes pay before)
unfolding kind_opened_with opened_with
sums_up_at_the_door_given bytes pay before = sums_up_at_the_door_of_any_kind_given level bytes pay before

-- ---- the answers are those that the contracts promise, as the kit reads them; of a draw also the room and the lines
pub draw_with_years_answers : (κs : Lfts 6) (a : Dens κs draw_kinds.ps) (x : (res_t draw_kinds.r κs).Denot) (w : Lasts (ended_of 6 draw_kinds.ps draw_kinds.r) κs a)
    → draw_reads.Post κs a x (at_exit (ended_of 6 draw_kinds.ps draw_kinds.r) κs a w)
    → (◌≡◌ {A = ℕ × (List ℕ × List Float × ℕ × ℕ)} (x, (w.0, w.1.0, w.1.1.1.1.0, w.1.1.1.1.1.0))
    (year_draw_answer level ((a.0.now, a.1.0.now), a.1.1.1.0.now) (a.1.1.0.now, a.1.1.1.1.0.now, a.1.1.1.1.1.0.now)))
    × ((w.1.1.0 ≡ filled_with_years level (in_hand (a.0.now, a.1.0.now)) a.1.1.0.now a.1.1.1.0.now)
    × (w.1.1.1.0 ≡ summed level (in_hand (a.0.now, a.1.0.now)) a.1.1.0.now a.1.1.1.0.now))
draw_with_years_answers κs a x w p = p

pub look_up_year_answers : (κs : Lfts 4) (a : Dens κs lookup_kinds.ps) (x : (res_t lookup_kinds.r κs).Denot) (w : Lasts (ended_of 4 lookup_kinds.ps lookup_kinds.r) κs a)
    → lookup_reads.Post κs a x (at_exit (ended_of 4 lookup_kinds.ps lookup_kinds.r) κs a w)
    → ◌≡◌ {A = ℕ × List Float} (x, w.1.1.1.1.0) (lookup_answer level ((a.0.now, a.1.0.now), a.1.1.0.now) a.1.1.1.0 a.1.1.1.1.0.now)
look_up_year_answers κs a x w p = p
