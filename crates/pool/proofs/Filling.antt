-- A room that is cleared and to which a pool's loans are added one after the other holds the pool's months. Assumes nothing.
use mathlib.Core.Path.{◌≡◌, refl, sym, ap, ◌∙◌}
use mathlib.Core.List.{List, [], ◌∷◌, ◌++◌}
use Prim.Native.Nat.{ℕ, zero, suc, ◌+◌, ◌-◌, ◌*◌, ◌<◌, ◌≤◌}
use native.Mathlib.Numerals.{add-one}
use native.Mathlib.Omega.{arith}
use borrow.Author.Tests.{lt-ltb}
use lib.ListN.{length, get_or, drop, replicate, length-append}
use lib.Seq.{drop_at}
use Rattle.std.proofs.lemmas.List.{replicate-append-replicate}
use lib.Ieee.{Float, nan}
use Rattle.numbers.specs.Clamps.{plus_zero}
use Rattle.steps.specs.Steps.{pieces, laid}
use Rattle.steps.proofs.Portions.{pieces_same}
use Rattle.records.specs.declared.Terms.{Terms}
use Rattle.pool.specs.declared.speed.Speed.{Speed}
use Rattle.pool.specs.declared.months.Month.{Month}
use Rattle.pool.specs.Speed.{smm}
use Rattle.pool.specs.Loans.{longest}
use Rattle.pool.specs.Months.{nothing, with_loan, month_of}
use Rattle.pool.specs.Flows.{month_width, places, flows_in, first_months}
use Rattle.pool.specs.inner.Walk.{month_from, walked, loan_added, loans_added}
use Rattle.pool.proofs.RoomMonths.{months_of, length_months, month_lies, walk_leaves, walk_ends}

-- a loan past its term adds nothing
past_term : (s : Month) (t : Terms) (k : ℕ) (v : Float) → t.term ≤ k → with_loan s t (suc k) v ≡ s
unfolding with_loan
past_term s t k v h = rw (lt-ltb t.term (suc k) (omega arith))

-- ---- the speeds of n months lie in a list
module _ (speeds : List Float) (v : ℕ → Float) (n : ℕ) (lie : (k : ℕ) → k < n → get_or speeds k nan ≡ v k) where
  one_loan : (t : Terms) (g : ℕ → Month) (rest : List Float) → t.term ≤ n
      → walked (loan_added t speeds) 0 t.term (months_of g n ++ rest) ≡ months_of (λ (k : ℕ). with_loan (g k) t (suc k) (v k)) n ++ rest
  one_loan t g rest h =
      let room : List Float = months_of g n ++ rest in
      let e : n - t.term + t.term ≡ n = omega arith in
      let holds : n * month_width ≤ length room = omega (arith, length-append (months_of g n) rest, length_months g n) in
      let added : (i : ℕ) → i < n → loan_added t speeds i (month_from room (i * month_width)) ≡ with_loan (g i) t (suc i) (v i) = λ i b. rw (month_lies g n i rest b, lie i b) in
      sym (walk_ends (loan_added t speeds) t.term (n - t.term) room (λ k s b. past_term s t k (get_or speeds k nan) b))
      ∙ ap (λ (i : ℕ). walked (loan_added t speeds) 0 i room) e
      ∙ walk_leaves (loan_added t speeds) n room holds
      ∙ rw (pieces_same _ _ n (λ i b. ap places (added i b)), drop_at (months_of g n) rest (n * month_width) (length_months g n))

  all_loans : (ts : List Terms) (g : ℕ → Month) (rest : List Float) → longest ts ≤ n
      → loans_added speeds ts (months_of g n ++ rest) ≡ months_of (λ (k : ℕ). month_of ts (g k) (suc k) (v k)) n ++ rest
  unfolding loans_added month_of longest
  all_loans [] g rest h = refl
  all_loans (t ∷ ts) g rest h =
      ap (loans_added speeds ts) (one_loan t g rest (omega arith)) ∙ all_loans ts (λ (k : ℕ). with_loan (g k) t (suc k) (v k)) rest (omega arith)

-- a room that is cleared has months of +0
cleared : (n : ℕ) → replicate (n * month_width) plus_zero ≡ months_of (λ (k : ℕ). nothing) n
unfolding pieces
cleared zero = refl
cleared (suc n) =
    let e : suc n * month_width ≡ n * month_width + month_width = omega arith in
    ap (λ m. replicate m plus_zero) e ∙ sym (replicate-append-replicate (n * month_width) month_width plus_zero) ∙ ap (λ l. l ++ places nothing) (cleared n)

pub filled_months : (speeds : List Float) (ts : List Terms) (speed : Speed) (history : List Float) (n : ℕ) (zeros room : List Float) → longest ts ≤ n → ((k : ℕ) → k < n → get_or speeds k nan ≡ smm speed history (k + 1))
    → zeros ≡ replicate (n * month_width) plus_zero → loans_added speeds ts (zeros ++ drop (n * month_width) room) ≡ laid month_width n (first_months ts speed history n) room
unfolding flows_in
filled_months speeds ts speed history n zeros room b lie e =
    ap (λ l. loans_added speeds ts (l ++ drop (n * month_width) room)) (e ∙ cleared n)
    ∙ all_loans speeds (λ (k : ℕ). smm speed history (suc k)) n (λ k i. lie k i ∙ ap (smm speed history) (add-one k)) ts (λ (k : ℕ). nothing) (drop (n * month_width) room) b
