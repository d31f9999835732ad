-- The cases of a draw of a book, in the order in which the code tests: what is answered, and what the lent lists hold then. Assumes nothing.
use mathlib.Core.Path.{◌≡◌, refl, ap, ◌∙◌}
use mathlib.Core.Logic.{◌⊎◌, inl, inr}
use mathlib.Core.Bool.{Bool, true, false, ◌&&◌}
use mathlib.Core.List.{List, ◌++◌}
use Prim.Native.Nat.{ℕ, ◌+◌, ◌-◌, ◌*◌, ◌%◌, ◌<◌, ◌≤◌, min}
use native.Mathlib.Nat.{eq-zero-or-pos}
use native.Mathlib.Omega.{arith}
use lib.Dec.{ltb}
use lib.ListN.{length, drop}
use lib.Seq.{sets}
use lib.Ieee.{Float}
use borrow.Author.Tests.{lt-ltb, le-ltb, ltb-true, ltb-false, eq-eqb, ne_eqb}
use Rattle.refusals.specs.declared.Refusal.{Refusal}
use Rattle.refusals.specs.Outcome.{Outcome, refused, accepted, first_or, judged}
use Rattle.refusals.specs.Table.{no_room, no_room_for_all, bad_length, bad_total}
use Rattle.refusals.proofs.Causes.{neither}
use Rattle.refusals.proofs.Verdicts.{refused_as}
use Rattle.records.specs.Kinds.{terms_size}
use Rattle.mortgage.specs.Row.{width}
use Rattle.book.specs.Book.{most_loans, loan_count, loan_at, asked, first_rows, asked_by, finished, cut_short, answered, Progress, progress, rows_up_to, answers_up_to, room_after, answers_after, bad_book, too_little, book_drawn, unless_refused, book_room, book_answers}
use Rattle.book.proofs.Planning.{Planned, all_held, not_all_held}
use Rattle.book.proofs.Taking.{Laid, behind_them}
use Rattle.refusals.specs.Answers.{number}

-- ---- line 11
pub odd_length : (bytes : List ℕ) → (length bytes % terms_size ≡ 0 → ⊥) → true ≡ bad_book bytes
unfolding bad_total bad_length
odd_length bytes h = rw (ne_eqb _ _ h)

pub by_count : (bytes : List ℕ) (n : ℕ) → length bytes % terms_size ≡ 0 → n ≡ loan_count bytes → ltb most_loans n ≡ bad_book bytes
unfolding bad_total bad_length
by_count bytes n h e = rw (eq-eqb _ _ h, e)

few_loans : (bytes : List ℕ) → bad_book bytes ≡ false → loan_count bytes ≤ most_loans
unfolding bad_total
few_loans bytes e = ltb-false most_loans (loan_count bytes) (neither (bad_length terms_size (length bytes)) (ltb most_loans (loan_count bytes)) e).1

-- ---- what a plan asks for, and what it draws
pub answered_within : (n f k d : ℕ) → d ≡ f + min k 1 → f ≤ n → (0 < k → f < n) → d ≤ n
answered_within n f k d e h g = elim (eq-zero-or-pos k) [
  | inl z ↦ omega arith
  | inr w ↦ omega (arith, g w)
]

pub may_draw : (bytes : List ℕ) (answers room done rows cut : ℕ) → bad_book bytes ≡ false → loan_count bytes ≤ answers → Planned bytes room done rows cut
    → ((loan_count bytes ≤ most_loans) × (loan_count bytes ≤ answers))
    × (((done ≡ finished bytes room) × (rows ≡ asked_by bytes done) × (cut ≡ cut_short bytes room))
    × (((done ≤ loan_count bytes) × ((rows + cut) * width ≤ room) × (cut ≤ asked (loan_at bytes done))) × (0 < cut → done < loan_count bytes)))
may_draw bytes answers room done rows cut good h p =
    ((few_loans bytes good, h), (p.0, ((p.1.0.0, omega (arith, p.1.0.1), p.1.0.2), p.1.1)))

module _ (bytes : List ℕ) (room : List Float) (done rows cut d : ℕ) (ed : done ≡ finished bytes (length room)) (er : rows ≡ asked_by bytes done) (ec : cut ≡ cut_short bytes (length room)) where
  pub answered_is : d ≡ done + min cut 1 → d ≡ answered bytes (length room)
  unfolding answered
  answered_is e = e ∙ rw (ed, ec)

  pub waiting_is : (n : ℕ) → n ≡ loan_count bytes → d ≡ done + min cut 1 → n - d ≡ loan_count bytes - answered bytes (length room)
  waiting_is n c e = rw (c, answered_is e)

  pub answers_are : (answers answers' : List ℕ) → d ≡ done + min cut 1 → answers' ≡ answers_up_to bytes d ++ drop d answers → answers' ≡ answers_after bytes (length room) answers
  unfolding answers_after
  answers_are answers answers' e f = f ∙ rw (answered_is e)

  pub room_is : (room₁ room₂ : List Float) → cut ≤ asked (loan_at bytes done) → (rows + cut) * width ≤ length room
      → room₁ ≡ Laid bytes room done → room₂ ≡ sets room₁ (rows * width) (first_rows cut (loan_at bytes done)) → room₂ ≡ room_after bytes room
  unfolding room_after
  room_is room₁ room₂ h w e₁ e₂ =
      let p : room₂ ≡ sets (Laid bytes room done) (asked_by bytes done * width) (first_rows cut (loan_at bytes done)) = e₂ ∙ rw (e₁, er) in
      let q : (rows_up_to bytes done ++ first_rows cut (loan_at bytes done)) ++ drop ((asked_by bytes done + cut) * width) room ≡ room_after bytes room = rw (ed, ec) in
      p ∙ behind_them bytes room done cut h (rw er at w) ∙ q

pub progress_is : (bytes : List ℕ) (room f c w : ℕ) → f ≡ finished bytes room → c ≡ cut_short bytes room → w ≡ loan_count bytes - answered bytes room
    → record { finished = f; cut = c; waiting = w } ≡ progress bytes room
unfolding progress
progress_is bytes room f c w ef ec ew = rw (ef, ec, ew)

-- ---- the lines
and_false : (b : Bool) → (b && false) ≡ false
and_false true = refl
and_false false = refl

module _ (bytes : List ℕ) (answers room : ℕ) where
  eleven : bad_book bytes ≡ true → refused 11 0 ≡ book_drawn bytes answers room
  unfolding book_drawn judged first_or
  eleven t = rw t

  three : bad_book bytes ≡ false → too_little bytes answers room ≡ true → refused 3 0 ≡ book_drawn bytes answers room
  unfolding book_drawn judged first_or
  three t s = rw (t, s)

  none : bad_book bytes ≡ false → too_little bytes answers room ≡ false → accepted (progress bytes room) ≡ book_drawn bytes answers room
  unfolding book_drawn judged first_or
  none t s = rw (t, s)

  short_answers : answers < loan_count bytes → too_little bytes answers room ≡ true
  unfolding too_little no_room_for_all
  short_answers w = rw (lt-ltb answers (loan_count bytes * 1) (omega arith))

  module _ (h : loan_count bytes ≤ answers) where
    all_answered : no_room_for_all (loan_count bytes) answers 1 ≡ false
    unfolding no_room_for_all
    all_answered = le-ltb answers (loan_count bytes * 1) (omega arith)

    short_room : room < width → finished bytes room < loan_count bytes → too_little bytes answers room ≡ true
    unfolding too_little no_room
    short_room w f = rw (all_answered, lt-ltb 0 (asked_by bytes (loan_count bytes)) (omega (arith, not_all_held bytes room f)), lt-ltb room width w)

    enough : (width ≤ room) ⊎ (loan_count bytes ≤ finished bytes room) → too_little bytes answers room ≡ false
    unfolding too_little no_room
    enough (inl w) = rw (all_answered, le-ltb room width w) (and_false (ltb 0 (asked_by bytes (loan_count bytes))))
    enough (inr f) = rw all_answered (go (ltb room width) (ltb-true room width))
      where
        go : (small : Bool) → (small ≡ true → room < width) → (ltb 0 (asked_by bytes (loan_count bytes)) && small) ≡ false
        go true s = let w = s refl in rw (le-ltb 0 (asked_by bytes (loan_count bytes)) (omega (arith, all_held bytes room f)))
        go false s = and_false (ltb 0 (asked_by bytes (loan_count bytes)))

-- ---- the answers
module _ (bytes answers : List ℕ) (room : List Float) where
  abbrev Drawn : Outcome Progress
  Drawn = book_drawn bytes (length answers) (length room)

  -- an answer, and what the lists hold then
  abbrev pub Given : Outcome Progress → List Float → List ℕ → Type 0
  Given o room' answers' = (o ≡ Drawn) × ((room' ≡ book_room bytes answers room) × (answers' ≡ book_answers bytes answers room))

  refused_book : (k : ℕ) (r : Refusal) → ((number r.cause) ≡ k) × (r.place ≡ 0) → refused k 0 ≡ Drawn → Given (refused (number r.cause) r.place) room answers
  unfolding book_room book_answers
  refused_book k r h e = (
    refused_as k r Drawn h e,
    (ap (λ (o : Outcome Progress). unless_refused o room (room_after bytes room)) e, ap (λ (o : Outcome Progress). unless_refused o answers (answers_after bytes (length room) answers)) e),
  )

  pub bad_total_lem : (r : Refusal) → ((number r.cause) ≡ 11) × (r.place ≡ 0) → bad_book bytes ≡ true → Given (refused (number r.cause) r.place) room answers
  bad_total_lem r h t = refused_book 11 r h (eleven bytes (length answers) (length room) t)

  module _ (good : bad_book bytes ≡ false) (r : Refusal) (h : ((number r.cause) ≡ 3) × (r.place ≡ 0)) where
    pub few_answers : length answers < loan_count bytes → Given (refused (number r.cause) r.place) room answers
    few_answers w = refused_book 3 r h (three bytes (length answers) (length room) good (short_answers bytes (length answers) (length room) w))

    pub no_row : loan_count bytes ≤ length answers → length room < width → finished bytes (length room) < loan_count bytes → Given (refused (number r.cause) r.place) room answers
    no_row a w f = refused_book 3 r h (three bytes (length answers) (length room) good (short_room bytes (length answers) (length room) a w f))

  pub drawn_book : bad_book bytes ≡ false → loan_count bytes ≤ length answers → (width ≤ length room) ⊎ (loan_count bytes ≤ finished bytes (length room))
      → (p : Progress) (room' : List Float) (answers' : List ℕ) → p ≡ progress bytes (length room) → room' ≡ room_after bytes room → answers' ≡ answers_after bytes (length room) answers
      → Given (accepted p) room' answers'
  unfolding book_room book_answers
  drawn_book good a w p room' answers' ep er ea =
      let e : accepted (progress bytes (length room)) ≡ Drawn = none bytes (length answers) (length room) good (enough bytes (length answers) (length room) a w) in (
        ap accepted ep ∙ e,
        (er ∙ ap (λ (o : Outcome Progress). unless_refused o room (room_after bytes room)) e, ea ∙ ap (λ (o : Outcome Progress). unless_refused o answers (answers_after bytes (length room) answers)) e),
      )
