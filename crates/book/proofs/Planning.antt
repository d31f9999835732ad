-- How far a book's work goes, loan by loan: what is known of the loans passed, where it stops, and where all are passed. Assumes nothing.
use mathlib.Core.Path.{◌≡◌, refl, sym, ap, ◌∙◌}
use mathlib.Core.Bool.{Bool, true, false, cond}
use mathlib.Core.List.{List}
use Prim.Native.Nat.{ℕ, zero, suc, ◌+◌, ◌-◌, ◌/◌, ◌<◌, ◌≤◌, zero-le, min}
use native.Mathlib.Nat.{zero-add}
use native.Mathlib.Numerals.{add-one}
use native.Mathlib.Omega.{arith}
use lib.Dec.{ltb}
use borrow.Author.Tests.{lt-ltb, le-ltb, ltb-true, ltb-false}
use Rattle.mortgage.specs.Row.{width}
use Rattle.book.specs.Book.{loan_count, loan_at, asked, asked_by, finishing, held, finished, cut_short, answered, progress}

-- the rows that the first loans ask for are among those of more loans
pub asked_within : (bytes : List ℕ) (i k : ℕ) → asked_by bytes i ≤ asked_by bytes (k + i)
unfolding asked_by
asked_within bytes i zero = let e : 0 + i ≡ i = omega arith in rw e (omega arith)
asked_within bytes i (suc k) = let e : suc k + i ≡ suc (k + i) = omega arith in rw e (omega (arith, asked_within bytes i k))

pub next_within : (bytes : List ℕ) (i n : ℕ) → i < n → asked_by bytes i + asked (loan_at bytes i) ≤ asked_by bytes n
unfolding asked_by
next_within bytes i n h =
    let e : n - suc i + suc i ≡ n = omega arith in
    let w : asked_by bytes (suc i) ≤ asked_by bytes (n - suc i + suc i) = asked_within bytes (suc i) (n - suc i) in
    rw e at w

module _ (bytes : List ℕ) (room : ℕ) where
  -- i loans are passed, which ask for so many rows, and so many are left
  abbrev pub Passed : ℕ → ℕ → ℕ → Type 0
  Passed rows left i =
      (i ≤ loan_count bytes) × (rows ≡ asked_by bytes i) × (rows + left ≡ held room) × (finished bytes room ≡ i + finishing bytes left i (loan_count bytes - i))

  pub none_passed : Passed 0 (room / width) 0
  unfolding asked_by finished
  none_passed =
      let e : loan_count bytes - 0 ≡ loan_count bytes = omega arith in
      let f : 0 + finishing bytes (room / width) 0 (loan_count bytes) ≡ finishing bytes (room / width) 0 (loan_count bytes) = omega arith in
      (zero-le, refl, omega arith, sym (ap (λ (k : ℕ). 0 + finishing bytes (room / width) 0 k) e ∙ f))

  -- what the next loan asks for decides
  next : (left i : ℕ) → i < loan_count bytes
      → finishing bytes left i (loan_count bytes - i) ≡ cond (ltb left (asked (loan_at bytes i))) 0 (suc (finishing bytes (left - asked (loan_at bytes i)) (suc i) (loan_count bytes - suc i)))
  unfolding finishing
  next left i h =
      let e : loan_count bytes - i ≡ suc (loan_count bytes - suc i) = omega arith in
      rw e

  pub one_more : (rows left i n : ℕ) → Passed rows left i → i < loan_count bytes → n ≡ asked (loan_at bytes i) → n ≤ left → Passed (rows + n) (left - n) (i + 1)
  unfolding asked_by
  one_more rows left i n p h e w =
      let t : ltb left (asked (loan_at bytes i)) ≡ false = rw (sym e) (le-ltb left n w) in
      let f = next left i h in
      let g : finishing bytes left i (loan_count bytes - i) ≡ suc (finishing bytes (left - n) (i + 1) (loan_count bytes - (i + 1))) = rw (e, add-one i) (rw t at f) in
      (omega arith, rw (add-one i) (omega (arith, p.1)), omega (arith, p.2), omega (arith, p.3, g))

  -- so many loans are finished, which ask for so many rows, and so many rows are those of the one cut short
  abbrev pub Planned : ℕ → ℕ → ℕ → Type 0
  Planned done rows cut =
      ((done ≡ finished bytes room) × (rows ≡ asked_by bytes done) × (cut ≡ cut_short bytes room))
      × (((done ≤ loan_count bytes) × (rows + cut ≤ held room) × (cut ≤ asked (loan_at bytes done))) × (0 < cut → done < loan_count bytes))

  pub stopped : (rows left i n : ℕ) → Passed rows left i → i < loan_count bytes → n ≡ asked (loan_at bytes i) → left < n → Planned i rows left
  unfolding cut_short
  stopped rows left i n p h e w =
      let t : ltb left (asked (loan_at bytes i)) ≡ true = rw (sym e) (lt-ltb left n w) in
      let f = next left i h in
      let g : finishing bytes left i (loan_count bytes - i) ≡ 0 = rw t at f in
      let d : i ≡ finished bytes room = omega (arith, p.3, g) in
      let c : left ≡ held room - asked_by bytes i = omega (arith, p.1, p.2) in
      ((d, p.1, c ∙ rw (sym d, lt-ltb i (loan_count bytes) h)), ((p.0, omega (arith, p.2), omega (arith, e, w)), (λ z. h)))

  pub all_passed : (rows left i n : ℕ) → Passed rows left i → n ≡ loan_count bytes → n ≤ i → Planned n rows 0
  unfolding finishing cut_short
  all_passed rows left i n p c h =
      let e : loan_count bytes - i ≡ 0 = omega arith in
      let g : finishing bytes left i (loan_count bytes - i) ≡ 0 = rw e in
      let k : i ≡ n = omega (arith, p.0) in
      let d : n ≡ finished bytes room = omega (arith, p.0, p.3, g) in
      ((d, rw k at p.1, rw (sym d, le-ltb n (loan_count bytes) (omega arith))), ((omega arith, omega (arith, p.2), zero-le), (λ z. absurd (omega arith))))

-- ---- every loan is finished, cut short or not started
finishing_within : (bytes : List ℕ) (left i k : ℕ) → finishing bytes left i k ≤ k
unfolding finishing
finishing_within bytes left i zero = omega arith
finishing_within bytes left i (suc k) =
    go (ltb left (asked (loan_at bytes i))) (finishing bytes (left - asked (loan_at bytes i)) (suc i) k) (finishing_within bytes (left - asked (loan_at bytes i)) (suc i) k)
  where
    go : (t : Bool) (n : ℕ) → n ≤ k → cond t 0 (suc n) ≤ suc k
    go true n h = omega arith
    go false n h = omega arith

finished_within : (bytes : List ℕ) (room : ℕ) → finished bytes room ≤ loan_count bytes
unfolding finished
finished_within bytes room = finishing_within bytes (held room) 0 (loan_count bytes)

pub all_told : (bytes : List ℕ) (room : ℕ) → (progress bytes room).finished + min (progress bytes room).cut 1 + (progress bytes room).waiting ≡ loan_count bytes
unfolding progress answered cut_short
all_told bytes room =
    go (finished bytes room) (held room - asked_by bytes (finished bytes room)) (loan_count bytes) (ltb (finished bytes room) (loan_count bytes)) (ltb-true _ _) (finished_within bytes room)
  where
    go : (f c n : ℕ) (t : Bool) → (t ≡ true → f < n) → f ≤ n → f + min (cond t c 0) 1 + (n - (f + min (cond t c 0) 1)) ≡ n
    go f c n true h w = let g : f < n = h refl in omega arith
    go f c n false h w = omega arith

-- ---- the loans before n, of k from the loan i on, ask for no more rows than are left, and with the loan n for more
module _ (bytes : List ℕ) where
  abbrev StopsAt : ℕ → ℕ → ℕ → ℕ → Type 0
  StopsAt left i k n = (asked_by bytes n ≤ asked_by bytes i + left) × (n < k + i → asked_by bytes i + left < asked_by bytes (suc n))

  at_once : (left i k : ℕ) → left < asked (loan_at bytes i) → StopsAt left i k i
  unfolding asked_by
  at_once left i k h = (omega arith, (λ w. omega arith))

  further : (left i k n : ℕ) → asked (loan_at bytes i) ≤ left → StopsAt (left - asked (loan_at bytes i)) (suc i) k n → StopsAt left i (suc k) n
  unfolding asked_by
  further left i k n h s = (omega (arith, s.0), (λ w. let more = s.1 (omega arith) in omega arith))

  stops_at : (left i k : ℕ) → StopsAt left i k (finishing bytes left i k + i)
  unfolding finishing
  stops_at left i zero = (rw (zero-add i) (omega arith), (λ w. absurd (omega arith)))
  stops_at left i (suc k) =
      let wanted : ℕ = asked (loan_at bytes i) in
      go (ltb left wanted) (finishing bytes (left - wanted) (suc i) k) (ltb-true left wanted) (ltb-false left wanted) (stops_at (left - wanted) (suc i) k)
    where
      go : (t : Bool) (n : ℕ) → (t ≡ true → left < asked (loan_at bytes i)) → (t ≡ false → asked (loan_at bytes i) ≤ left)
          → StopsAt (left - asked (loan_at bytes i)) (suc i) k (n + suc i) → StopsAt left i (suc k) (cond t 0 (suc n) + i)
      go true n s r others = rw (zero-add i) (at_once left i (suc k) (s refl))
      go false n s r others = let e : suc n + i ≡ n + suc i = omega arith in rw e (further left i k (n + suc i) (r refl) others)

  -- so the room holds what all loans ask for exactly where all are finished
  finished_asks : (room : ℕ) → StopsAt (held room) 0 (loan_count bytes) (finished bytes room)
  unfolding finished
  finished_asks room =
      let e : finishing bytes (held room) 0 (loan_count bytes) + 0 ≡ finishing bytes (held room) 0 (loan_count bytes) = omega arith in
      rw e at (stops_at (held room) 0 (loan_count bytes))

  pub all_held : (room : ℕ) → loan_count bytes ≤ finished bytes room → asked_by bytes (loan_count bytes) ≤ held room
  unfolding asked_by
  all_held room h =
      let e : finished bytes room ≡ loan_count bytes = omega (arith, finished_within bytes room) in
      let s = (finished_asks room).0 in
      let w : asked_by bytes (finished bytes room) ≤ held room = omega (arith, s) in
      rw e at w

  pub not_all_held : (room : ℕ) → finished bytes room < loan_count bytes → held room < asked_by bytes (loan_count bytes)
  unfolding asked_by
  not_all_held room h = omega (arith, (finished_asks room).1 (omega arith), next_within bytes (finished bytes room) (loan_count bytes) h)
