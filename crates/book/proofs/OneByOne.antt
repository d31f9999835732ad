-- One call draws what single calls draw, one at a time in order: the room they leave and the loans they finish are the same, on every book and every room. Assumes nothing.
use mathlib.Core.Path.{◌≡◌, refl, sym, ap, ◌∙◌}
use mathlib.Core.Bool.{Bool, true, false, cond}
use mathlib.Core.List.{List, ◌++◌, append_assoc, append-nil}
use Prim.Native.Nat.{ℕ, zero, suc, ◌+◌, ◌-◌, ◌*◌, ◌/◌, ◌<◌, ◌≤◌}
use native.Mathlib.Omega.{arith}
use lib.Dec.{ltb}
use lib.ListN.{length, take, drop, length-drop}
use lib.Seq.{take_at, drop_at, drop-drop}
use lib.Ieee.{Float}
use borrow.Author.Tests.{lt-ltb, le-ltb, ltb-true, ltb-false}
use Rattle.refusals.specs.Outcome.{Outcome, refused, accepted}
use Rattle.mortgage.specs.declared.Loan.{Loan}
use Rattle.mortgage.specs.declared.draws.Portion.{Portion}
use Rattle.mortgage.specs.Row.{width}
use Rattle.mortgage.specs.Month as any_month
use Rattle.mortgage.specs.Draws as any_draws
use Rattle.mortgage.specs.Level.{due, rows, count, drawn, filled_by, filled}
use Rattle.steps.specs.Steps.{pieces, laid}
use Rattle.mortgage.specs.Demand3.{rows_in}
use Rattle.mortgage.proofs.LevelLaws.{drawn_short, drawn_rows}
use Rattle.mortgage.proofs.LevelLaws.{length_rows, rows_drawn}
use Rattle.book.specs.Book.{loan_count, loan_at, asked, first_rows, all_rows, asked_by, finishing, held, finished, cut_short, rows_up_to, room_after}
use Rattle.book.specs.OneByOne.{stops, behind, singly, counted, finished_singly}
use Rattle.book.proofs.Asking.{Fresh, fresh, some_due, none_first}
use Rattle.book.proofs.Planning.{asked_within}

-- ---- one draw of a loan of a book
same_test : (a b c d : ℕ) → (c < d → a < b) → (d ≤ c → b ≤ a) → ltb a b ≡ ltb c d
same_test a b c d f g = go (ltb c d) (ltb-true c d) (ltb-false c d)
  where
    go : (t : Bool) → (t ≡ true → c < d) → (t ≡ false → d ≤ c) → ltb a b ≡ t
    go true h k = lt-ltb a b (f (h refl))
    go false h k = le-ltb a b (g (k refl))

module _ (l : Loan) (new : Fresh l) (room : List Float) where
  stops_when : stops (drawn l room) ≡ ltb (held (length room)) (due l)
  unfolding any_draws.portion any_month.due
  stops_when = go (ltb (length room) width) (ltb-true (length room) width) (ltb-false (length room) width)
    where
      go : (small : Bool) → (small ≡ true → length room < width) → (small ≡ false → width ≤ length room) → stops (drawn l room) ≡ ltb (held (length room)) (due l)
      go true s r =
          let n : length room < width = s refl in
          let z : held (length room) < due l = omega (arith, some_due l new) in
          sym (ap stops (drawn_short l room new.good (some_due l new) n)) ∙ sym (lt-ltb (held (length room)) (due l) z)
      go false s r =
          sym (ap stops (drawn_rows l room new.good (some_due l new) (r refl)))
          ∙ same_test 0 (due l - count l (length room)) (held (length room)) (due l) (λ h. omega arith) (λ h. omega arith)

  filled_rows : filled l room ≡ laid width (count l (length room)) (rows (count l (length room)) l) room
  unfolding any_draws.filled pieces
  filled_rows = go (drawn l room) ∙ ap (λ (k : ℕ). laid width k (rows k l) room) (rows_drawn l room new.good)
    where
      go : (o : Outcome Portion) → filled_by o l room ≡ laid width (rows_in o) (rows (rows_in o) l) room
      go (refused k p) = refl
      go (accepted d) = refl

  -- it is cut short
  cut_room : held (length room) < due l → filled l room ≡ rows (held (length room)) l ++ drop (held (length room) * width) room
  cut_room h =
      let e : count l (length room) ≡ held (length room) = omega arith in
      filled_rows ∙ ap (λ (k : ℕ). laid width k (rows k l) room) e

  -- or finished
  module _ (h : due l ≤ held (length room)) where
    whole_room : filled l room ≡ rows (due l) l ++ drop (due l * width) room
    whole_room =
        let e : count l (length room) ≡ due l = omega arith in
        filled_rows ∙ ap (λ (k : ℕ). laid width k (rows k l) room) e

    its_rows : take (due l * width) (filled l room) ≡ rows (due l) l
    its_rows = ap (take (due l * width)) whole_room ∙ take_at (rows (due l) l) (drop (due l * width) room) (due l * width) (length_rows (due l) l)

    room_behind : drop (due l * width) (filled l room) ≡ drop (due l * width) room
    room_behind = ap (drop (due l * width)) whole_room ∙ drop_at (rows (due l) l) (drop (due l * width) room) (due l * width) (length_rows (due l) l)

-- ---- one call, for a loan that may be refused
module _ (bytes : List ℕ) (i : ℕ) (room : List Float) where
  abbrev Wanted : ℕ
  Wanted = asked (loan_at bytes i)

  cut_call : (others : List Float → List Float) → held (length room) < Wanted
      → behind (loan_at bytes i) others room ≡ first_rows (held (length room)) (loan_at bytes i) ++ drop (held (length room) * width) room
  unfolding behind
  cut_call others h = go (loan_at bytes i) refl h
    where
      go : (o : Outcome Loan) → loan_at bytes i ≡ o → held (length room) < asked o → behind o others room ≡ first_rows (held (length room)) o ++ drop (held (length room) * width) room
      go (refused k p) e g = absurd (omega arith)
      go (accepted l) e g =
          let new = fresh bytes i l e in
          rw (stops_when l new room, lt-ltb (held (length room)) (due l) g) (cut_room l new room g)

  whole_call : (others : List Float → List Float) → Wanted ≤ held (length room)
      → behind (loan_at bytes i) others room ≡ all_rows (loan_at bytes i) ++ others (drop (Wanted * width) room)
  unfolding behind
  whole_call others h = go (loan_at bytes i) refl h
    where
      go : (o : Outcome Loan) → loan_at bytes i ≡ o → asked o ≤ held (length room) → behind o others room ≡ all_rows o ++ others (drop (asked o * width) room)
      go (refused k p) e g = refl
      go (accepted l) e g =
          let new = fresh bytes i l e in
          rw (stops_when l new room, le-ltb (held (length room)) (due l) g, its_rows l new room g, room_behind l new room g)

  count_call : (others : List Float → ℕ)
      → counted (loan_at bytes i) others room ≡ cond (ltb (held (length room)) Wanted) 0 (suc (others (drop (Wanted * width) room)))
  unfolding counted
  count_call others = go (loan_at bytes i) refl
    where
      go : (o : Outcome Loan) → loan_at bytes i ≡ o → counted o others room ≡ cond (ltb (held (length room)) (asked o)) 0 (suc (others (drop (asked o * width) room)))
      go (refused k p) e = rw (le-ltb (held (length room)) 0 (omega arith))
      go (accepted l) e = by (ltb (held (length room)) (due l)) (ltb-false (held (length room)) (due l)) (stops_when l new room)
        where
          new : Fresh l
          new = fresh bytes i l e

          by : (t : Bool) → (t ≡ false → due l ≤ held (length room)) → stops (drawn l room) ≡ t
              → cond (stops (drawn l room)) 0 (suc (others (drop (due l * width) (filled l room)))) ≡ cond t 0 (suc (others (drop (due l * width) room)))
          by true f s = rw s
          by false f s = rw (s, room_behind l new room (f refl))

-- ---- the calls for k loans from the loan i on, behind the rows of those before
held_behind : (room : List Float) (n : ℕ) → held (length (drop (n * width) room)) ≡ held (length room) - n
held_behind room n = ap held (length-drop (n * width) room) ∙ fewer (length room) n
  where
    fewer : (x n : ℕ) → (x - n * width) / width ≡ x / width - n
    fewer x n = omega arith

module _ (bytes : List ℕ) where
  -- the rows of the loan cut short, where f of m loans are finished and the room holds so many rows in all
  abbrev Cut : ℕ → ℕ → ℕ → ℕ
  Cut f m total = cond (ltb f m) (total - asked_by bytes f) 0

  -- all rows, and what is left of a room that lies behind so many of them
  abbrev Ends : ℕ → ℕ → ℕ → ℕ → List Float → List Float
  Ends f m total used room =
      (rows_up_to bytes f ++ first_rows (Cut f m total) (loan_at bytes f)) ++ drop ((asked_by bytes f + Cut f m total - used) * width) room

  no_calls : (i f m total : ℕ) (room : List Float) → f ≡ i → m ≡ i → rows_up_to bytes i ++ room ≡ Ends f m total (asked_by bytes i) room
  no_calls i f m total room ef em =
      let z : asked_by bytes i + 0 - asked_by bytes i ≡ 0 = omega arith in
      rw (ef, em, le-ltb i i (omega arith), none_first (loan_at bytes i) 0 refl, z) (ap (λ (xs : List Float). xs ++ room) (sym (append-nil (rows_up_to bytes i))))

  last_call : (i f m total : ℕ) (room : List Float) → f ≡ i → i < m → held (length room) + asked_by bytes i ≡ total
      → rows_up_to bytes i ++ (first_rows (held (length room)) (loan_at bytes i) ++ drop (held (length room) * width) room) ≡ Ends f m total (asked_by bytes i) room
  last_call i f m total room ef h et =
      let c : total - asked_by bytes i ≡ held (length room) = omega arith in
      let z : asked_by bytes i + held (length room) - asked_by bytes i ≡ held (length room) = omega arith in
      rw (ef, lt-ltb i m h, c, z) (sym (append_assoc (rows_up_to bytes i) (first_rows (held (length room)) (loan_at bytes i)) (drop (held (length room) * width) room)))

  -- the calls after a loan that is finished
  further_calls : (i f m total n : ℕ) (room : List Float) → f ≡ n + suc i
      → Ends f m total (asked_by bytes (suc i)) (drop (asked (loan_at bytes i) * width) room) ≡ Ends f m total (asked_by bytes i) room
  unfolding asked_by
  further_calls i f m total n room ef =
      let g : asked_by bytes (suc i) ≤ asked_by bytes f = rw ef (asked_within bytes (suc i) n) in
      let c : ℕ = Cut f m total in
      let e : asked (loan_at bytes i) * width + (asked_by bytes f + c - asked_by bytes (suc i)) * width ≡ (asked_by bytes f + c - asked_by bytes i) * width = apart (asked_by bytes i) (asked (loan_at bytes i)) (asked_by bytes f) c g in
      ap (λ (xs : List Float). (rows_up_to bytes f ++ first_rows c (loan_at bytes f)) ++ xs)
      (drop-drop ((asked_by bytes f + c - asked_by bytes (suc i)) * width) (asked (loan_at bytes i) * width) room ∙ ap (λ (k : ℕ). drop k room) e)
    where
      apart : (a b d c : ℕ) → a + b ≤ d → b * width + (d + c - (a + b)) * width ≡ (d + c - a) * width
      apart a b d c h = omega arith

  -- a loan's rows are the next of all
  next_rows : (i : ℕ) (others : List Float) → rows_up_to bytes i ++ (all_rows (loan_at bytes i) ++ others) ≡ rows_up_to bytes (suc i) ++ others
  unfolding pieces
  next_rows i others = sym (append_assoc (rows_up_to bytes i) (all_rows (loan_at bytes i)) others)

  still_held : (i total : ℕ) (room : List Float) → asked (loan_at bytes i) ≤ held (length room) → held (length room) + asked_by bytes i ≡ total
      → held (length (drop (asked (loan_at bytes i) * width) room)) + asked_by bytes (suc i) ≡ total
  unfolding asked_by
  still_held i total room h e = omega (arith, held_behind room (asked (loan_at bytes i)), h, e)

  -- what the calls for k loans leave, behind the rows of the first i
  abbrev Leaves : ℕ → ℕ → ℕ → ℕ → ℕ → List Float → Type 0
  Leaves k i f m total room =
      f ≡ i + finishing bytes (held (length room)) i k → m ≡ i + k → held (length room) + asked_by bytes i ≡ total
      → rows_up_to bytes i ++ singly bytes i k room ≡ Ends f m total (asked_by bytes i) room

  calls : (k i f m total : ℕ) (room : List Float) → Leaves k i f m total room
  unfolding singly finishing
  calls zero i f m total room ef em et = no_calls i f m total room (omega arith) (omega arith)
  calls (suc k) i f m total room ef em et =
      go (ltb (held (length room)) (asked (loan_at bytes i))) (ltb-true _ _) (ltb-false _ _) ef (calls k (suc i) f m total (drop (asked (loan_at bytes i) * width) room))
    where
      go : (t : Bool) → (t ≡ true → held (length room) < asked (loan_at bytes i)) → (t ≡ false → asked (loan_at bytes i) ≤ held (length room))
          → f ≡ i + cond t 0 (suc (finishing bytes (held (length room) - asked (loan_at bytes i)) (suc i) k))
          → Leaves k (suc i) f m total (drop (asked (loan_at bytes i) * width) room)
          → rows_up_to bytes i ++ singly bytes i (suc k) room ≡ Ends f m total (asked_by bytes i) room
      go true s r e others =
          ap (λ (xs : List Float). rows_up_to bytes i ++ xs) (cut_call bytes i room (singly bytes (suc i) k) (s refl))
          ∙ last_call i f m total room (omega arith) (omega arith) et
      go false s r e others =
          let a : ℕ = asked (loan_at bytes i) in
          let n : ℕ = finishing bytes (held (length room) - a) (suc i) k in
          let d : finishing bytes (held (length (drop (a * width) room))) (suc i) k ≡ n = ap (λ (left : ℕ). finishing bytes left (suc i) k) (held_behind room a) in
          let x = others (omega (arith, d, e)) (omega arith) (still_held i total room (r refl) et) in
          ap (λ (xs : List Float). rows_up_to bytes i ++ xs) (whole_call bytes i room (singly bytes (suc i) k) (r refl))
          ∙ next_rows i (singly bytes (suc i) k (drop (a * width) room))
          ∙ x
          ∙ further_calls i f m total n room (omega (arith, e))

  counts : (k i : ℕ) (room : List Float) → finishing bytes (held (length room)) i k ≡ finished_singly bytes i k room
  unfolding finishing finished_singly
  counts zero i room = refl
  counts (suc k) i room =
      let a : ℕ = asked (loan_at bytes i) in
      let d : finishing bytes (held (length room) - a) (suc i) k ≡ finished_singly bytes (suc i) k (drop (a * width) room) =
      sym (ap (λ (left : ℕ). finishing bytes left (suc i) k) (held_behind room a)) ∙ counts k (suc i) (drop (a * width) room) in
      ap (λ (n : ℕ). cond (ltb (held (length room)) a) 0 (suc n)) d ∙ sym (count_call bytes i room (finished_singly bytes (suc i) k))

  -- ---- so one call is all of them
  pub same_room : (room : List Float) → room_after bytes room ≡ singly bytes 0 (loan_count bytes) room
  unfolding room_after cut_short pieces asked_by finished
  same_room room =
      let f : ℕ = finished bytes (length room) in
      let c : ℕ = cut_short bytes (length room) in
      let z : asked_by bytes f + c ≡ asked_by bytes f + c - 0 = omega arith in
      ap (λ (n : ℕ). (rows_up_to bytes f ++ first_rows c (loan_at bytes f)) ++ drop (n * width) room) z
      ∙ sym (calls (loan_count bytes) 0 f (loan_count bytes) (held (length room)) room (omega arith) (omega arith) (omega arith))

  pub same_count : (room : List Float) → finished bytes (length room) ≡ finished_singly bytes 0 (loan_count bytes) room
  unfolding finished
  same_count room = counts (loan_count bytes) 0 room
