-- Loans taken in hand one after the other: whichever of two keeps rows, the room once it is drawn to its end is the room with both drawn whole; and a loan's rows behind those of
-- the loans before it. Assumes nothing.
use mathlib.Core.Path.{◌≡◌, refl, sym, ap, ◌∙◌}
use mathlib.Core.List.{List, ◌++◌}
use Prim.Native.Nat.{ℕ, zero, suc, ◌+◌, ◌-◌, ◌*◌, ◌≤◌, ◌<◌, zero-le, min}
use native.Mathlib.Numerals.{add-one}
use native.Mathlib.Omega.{arith}
use lib.ListN.{length, drop, length-append}
use lib.Seq.{sets}
use lib.Ieee.{Float}
use mir.Syntax.{w64}
use mir.Val.{Fits}
use Rattle.refusals.specs.Outcome.{Outcome, refused, accepted}
use Rattle.mortgage.specs.declared.Loan.{Loan}
use Rattle.mortgage.specs.Row.{width}
use Rattle.mortgage.specs.Level.{due, next_of, after, rows}
use Rattle.steps.specs.Steps.{pieces, laid}
use Rattle.mortgage.specs.Places.{count_at, count_at_both}
use Rattle.mortgage.proofs.LevelLaws.{due_after}
use Rattle.mortgage.proofs.LevelLaws.{row_places}
use Rattle.mortgage.proofs.PlaceLaws.{all_at, all_at_both}
use Rattle.mortgage.proofs.LevelLaws.{length_rows}
use Rattle.steps.proofs.Rooms.{behind, sets_append, sets_apart}
use Rattle.steps.proofs.Portions.{written_rest}
use Rattle.book.specs.Book.{loan_count, loan_at, asked, first_rows, all_rows, asked_by, rows_up_to}
use Rattle.book.specs.inner.Hands.{drawn_out}
use Rattle.book.proofs.Asking.{length_first, none_first}
use Rattle.book.proofs.Planning.{next_within}

-- ---- n rows of a loan, and then the rest
module _ (n : ℕ) (l l' : Loan) (e : l' ≡ after n l) (h : n ≤ due l) where
  rest : due l' ≡ due l - n
  rest = ap due e ∙ due_after n l

  drawn_on : (room : List Float) (at : ℕ) → drawn_out (sets room at (rows n l)) (at + n * width) l' ≡ drawn_out room at l
  drawn_on room at =
      ap (λ (k : ℕ). sets (sets room at (rows n l)) (at + n * width) (rows k l')) rest
      ∙ ap (λ (k : ℕ). sets (sets room at (rows n l)) (at + k) (rows (due l - n) l')) (sym (length_rows n l))
      ∙ sets_append (rows n l) (rows (due l - n) l') room at
      ∙ ap (sets room at) (written_rest next_of row_places n (due l) l l' h e)

-- ---- a loan in hand at a, and one that is taken in at b: n rows of each
module _ (room room' : List Float) (a b n : ℕ) (l m : Loan) (apart : a + due l * width ≤ b) (laid_both : room' ≡ sets (sets room a (rows n l)) b (rows n m)) where
  -- the one in hand keeps rows
  keeps_first : (l' : Loan) → l' ≡ after n l → n ≤ due l → n ≡ due m → drawn_out room' (a + n * width) l' ≡ drawn_out (drawn_out room a l) b m
  keeps_first l' e h d =
      let w : a + n * width + length (rows (due l') l') ≤ b = omega (arith, length_rows (due l') l', rest n l l' e h, h, apart) in
      ap (λ (z : List Float). drawn_out z (a + n * width) l') laid_both
      ∙ sym (sets_apart (rows n m) (rows (due l') l') (sets room a (rows n l)) (a + n * width) b w)
      ∙ ap (λ (z : List Float). sets z b (rows n m)) (drawn_on n l l' e h room a)
      ∙ ap (λ (k : ℕ). sets (drawn_out room a l) b (rows k m)) d

  -- or the one taken in does, or neither
  keeps_second : (m' : Loan) → m' ≡ after n m → n ≤ due m → n ≡ due l → drawn_out room' (b + n * width) m' ≡ drawn_out (drawn_out room a l) b m
  keeps_second m' e h d =
      ap (λ (z : List Float). drawn_out z (b + n * width) m') laid_both
      ∙ drawn_on n m m' e h (sets room a (rows n l)) b
      ∙ ap (λ (k : ℕ). drawn_out (sets room a (rows k l)) b m) d

  -- the loan that stays in hand, where its next row lies and where the next loan's begin
  abbrev pub Taken : Loan → ℕ → ℕ → Type 0
  Taken k at end = ((end ≡ b + due m * width) × (at + due k * width ≤ end)) × (drawn_out room' at k ≡ drawn_out (drawn_out room a l) b m)

  module _ (r s : ℕ) (er : r ≡ due l) (es : s ≡ due m) (en : n ≡ min r s) where
    pub stays : (l' : Loan) → l' ≡ after n l → n < r → Taken l' (a + n * width) (b + s * width)
    stays l' e h =
        let k : n ≤ due l = omega arith in
        ((omega arith, omega (arith, rest n l l' e k, apart)), keeps_first l' e k (omega arith))

    pub follows : (m' : Loan) → m' ≡ after n m → r ≤ n → Taken m' (b + n * width) (b + s * width)
    follows m' e h =
        let k : n ≤ due m = omega arith in
        ((omega arith, omega (arith, rest n m m' e k)), keeps_second m' e k (omega arith))

-- a place before the end of the second's rows is a number of its type
pub fewer_fit : (b n r s : ℕ) → n ≡ min r s → Fits w64 (b + s * width) → Fits w64 (b + n * width)
fewer_fit b n r s e h = omega arith

-- as many rows of each as both have are laid: they are due, and there is room for them
pub all_of_both : (a b n r s size : ℕ) (l m : Loan) → r ≡ due l → s ≡ due m → n ≡ min r s → a + due l * width ≤ b → b + due m * width ≤ size → count_at_both l m n a b size ≡ n
all_of_both a b n r s size l m er es en h g = all_at_both l m n a b size (omega arith) (omega arith) (omega arith) (omega arith)

-- ---- the next loan of a book: a refused one leaves the loan in hand, and any other is taken in
module _ (room room' : List Float) (hand : Loan) (at end : ℕ) (o : Outcome Loan) where
  abbrev pub TakenNext : Loan → ℕ → ℕ → Type 0
  TakenNext k at' end' = ((end' ≡ end + asked o * width) × (at' + due k * width ≤ end')) × (drawn_out room' at' k ≡ sets (drawn_out room at hand) end (all_rows o))

  pub passed_over : (n p : ℕ) → refused n p ≡ o → room' ≡ room → at + due hand * width ≤ end → TakenNext hand at end
  passed_over n p e f h = rw (sym e, f) ((omega arith, h), refl)

  pub taken_next : (l k : Loan) (at' end' : ℕ) → accepted l ≡ o
      → ((end' ≡ end + due l * width) × (at' + due k * width ≤ end')) × (drawn_out room' at' k ≡ drawn_out (drawn_out room at hand) end l)
      → TakenNext k at' end'
  taken_next l k at' end' e t = rw (sym e) t

-- what taking a loan in asks for
pub may_take : (size : ℕ) (hand : Loan) (at end : ℕ) (l : Loan) (o : Outcome Loan) → accepted l ≡ o → (at + due hand * width ≤ end) × (end + asked o * width ≤ size)
    → (at + due hand * width ≤ end) × (end + due l * width ≤ size)
may_take size hand at end l o e h = rw (sym e) at h

-- ---- no rows in hand
pub nothing_drawn : (room : List Float) (at : ℕ) (l : Loan) → due l ≡ 0 → drawn_out room at l ≡ room
unfolding pieces
nothing_drawn room at l e = rw e

-- ---- rows behind those of the loans before
pub length_up_to : (bytes : List ℕ) (k : ℕ) → length (rows_up_to bytes k) ≡ asked_by bytes k * width
unfolding pieces asked_by
length_up_to bytes zero = omega arith
length_up_to bytes (suc k) =
    length-append (rows_up_to bytes k) (all_rows (loan_at bytes k))
    ∙ omega (arith, length_up_to bytes k, length_first (asked (loan_at bytes k)) (loan_at bytes k) (omega arith))

module _ (bytes : List ℕ) (room : List Float) (i : ℕ) where
  -- the room with the first i loans drawn whole
  abbrev pub Laid : List Float
  Laid = laid width (asked_by bytes i) (rows_up_to bytes i) room

  pub behind_them : (k : ℕ) → k ≤ asked (loan_at bytes i) → (asked_by bytes i + k) * width ≤ length room
      → sets Laid (asked_by bytes i * width) (first_rows k (loan_at bytes i))
      ≡ (rows_up_to bytes i ++ first_rows k (loan_at bytes i)) ++ drop ((asked_by bytes i + k) * width) room
  behind_them k h w =
      let p = rows_up_to bytes i in
      let vs = first_rows k (loan_at bytes i) in
      let e : length p ≡ asked_by bytes i * width = length_up_to bytes i in
      let f : length vs ≡ k * width = length_first k (loan_at bytes i) h in
      let g : length p + length vs ≡ (asked_by bytes i + k) * width = omega (arith, e, f) in
      rw (sym e, sym g) (behind p vs room (rw g w))

pub one_more_laid : (bytes : List ℕ) (room : List Float) (i : ℕ) → (asked_by bytes i + asked (loan_at bytes i)) * width ≤ length room
    → sets (Laid bytes room i) (asked_by bytes i * width) (all_rows (loan_at bytes i)) ≡ Laid bytes room (i + 1)
unfolding asked_by pieces
one_more_laid bytes room i w = behind_them bytes room i (asked (loan_at bytes i)) (omega arith) w ∙ rw (add-one i)

-- ---- a loop that takes the loans in, at most n of them: once the loan in hand is drawn to its end, the room holds the first i whole
module _ (bytes : List ℕ) (room₀ : List Float) (n : ℕ) where
  abbrev pub Underway : List Float → Loan → ℕ → ℕ → ℕ → Type 0
  Underway room hand at end i =
      (drawn_out room at hand ≡ Laid bytes room₀ i) × (at + due hand * width ≤ end) × (end ≡ asked_by bytes i * width) × (i ≤ n) × (length room ≡ length room₀)

  pub begun : (hand : Loan) → due hand ≡ 0 → Underway room₀ hand 0 0 0
  unfolding asked_by pieces
  begun hand e = (nothing_drawn room₀ 0 hand e, omega arith, refl, zero-le, refl)

  module _ (room : List Float) (hand : Loan) (at end i : ℕ) (u : Underway room hand at end i) where
    pub may_take_next : n ≤ loan_count bytes → asked_by bytes n * width ≤ length room₀ → i < n
        → (i < loan_count bytes) × ((at + due hand * width ≤ end) × (end + asked (loan_at bytes i) * width ≤ length room))
    may_take_next c w h = (omega arith, (u.1, omega (arith, u.2, u.4, next_within bytes i n h)))

    pub a_turn : asked_by bytes n * width ≤ length room₀ → i < n → (room' : List Float) (k : Loan) (at' end' : ℕ) → TakenNext room room' hand at end (loan_at bytes i) k at' end'
        → length room' ≡ length room → Underway room' k at' end' (i + 1)
    unfolding asked_by
    a_turn w h room' k at' end' t m =
        let g : (asked_by bytes i + asked (loan_at bytes i)) * width ≤ length room₀ = omega (arith, next_within bytes i n h) in
        let p : drawn_out room' at' k ≡ sets (Laid bytes room₀ i) (asked_by bytes i * width) (all_rows (loan_at bytes i)) = t.1 ∙ rw (u.0, u.2) in
        (p ∙ one_more_laid bytes room₀ i g, t.0.1, t.0.0 ∙ rw (add-one i) (omega (arith, u.2)), omega arith, m ∙ u.4)

    -- the rows still due of the loan in hand are laid last
    pub finishes : n ≤ i → asked_by bytes n * width ≤ length room₀ → (room' : List Float) (k : ℕ) → k ≡ due hand
        → room' ≡ sets room at (rows (count_at hand k at (length room)) hand) → room' ≡ Laid bytes room₀ n
    finishes h w room' k e f =
        let j : i ≡ n = omega (arith, u.3) in
        let x : asked_by bytes i ≡ asked_by bytes n = ap (asked_by bytes) j in
        let all : count_at hand k at (length room) ≡ due hand = all_at hand k at (length room) (omega arith) (omega (arith, u.1, u.2, u.4)) ∙ e in
        f ∙ ap (λ (m : ℕ). sets room at (rows m hand)) all ∙ u.0 ∙ ap (Laid bytes room₀) j

-- ---- the first rows of one loan
module _ (room : List Float) (at n : ℕ) (o : Outcome Loan) where
  pub no_first : n ≡ 0 → room ≡ sets room at (first_rows n o)
  no_first e = ap (sets room at) (sym (none_first o n e))

  pub refused_first : (k p : ℕ) → refused k p ≡ o → room ≡ sets room at (first_rows n o)
  refused_first k p e = rw (sym e)

  pub first_laid : (room' : List Float) (l : Loan) → accepted l ≡ o → at + n * width ≤ length room → n ≤ asked o
      → room' ≡ sets room at (rows (count_at l n at (length room)) l) → room' ≡ sets room at (first_rows n o)
  first_laid room' l e w h f =
      let d : n ≤ due l = rw (sym e) at h in
      f ∙ rw (all_at l n at (length room) d w, sym e)
