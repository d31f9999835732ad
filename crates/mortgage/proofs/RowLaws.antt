-- Laws of a loan's rows: what stays from row to row, on a course and of any kind; that months which a kind gives one rate and one payment are those of its course; and that a month made of
-- the amounts of interest alone, of the last month, or of any other, is the rule's. Assumes nothing.
use mathlib.Core.Path.{◌≡◌, refl, ap, ◌∙◌}
use mathlib.Core.Bool.{Bool, true, false, cond}
use Prim.Native.Nat.{ℕ, zero, suc, ◌+◌, ◌-◌, ◌<◌, ◌≤◌}
use native.Mathlib.Omega.{arith}
use lib.Ieee.{Float, binary64, add, sub, mul}
use borrow.Author.Tests.{eq-eqb, ne_eqb, lt-ltb, le-ltb}
use Rattle.numbers.specs.Clamps.{plus_zero, raised, lowered}
use Rattle.records.specs.declared.Row.{Row}
use Rattle.mortgage.specs.declared.Loan.{Loan}
use Rattle.mortgage.specs.declared.kinds.Course.{Course}
use Rattle.mortgage.specs.Payment.{monthly_rate}
use Rattle.mortgage.specs.Kinds.{Way, level, interest_only, balloon, adjustable, course_of}
use Rattle.mortgage.specs.Rates.{in_force, adjusted_to, next_rate, entry_behind, begins_later_year}
use Rattle.mortgage.specs.Month.{interest_alone, last, principal, paid, remaining, row_on, next_on, course, end_month, due, row_of, next_of}
use Rattle.mortgage.specs.RowRule.{interest_of, principal_of, payment_of}
use Rattle.mortgage.specs.Row.{places}
use Rattle.steps.specs.Steps.{stepped}
use Rattle.steps.proofs.Portions.{pieces_same}
use Rattle.mortgage.specs.Rows.{after_on, rows_on, after, rows}

-- ---- on a course: what k rows leave as it was, and what they move on
module _ (c : Course) where
  pub term_on : (k : ℕ) (l : Loan) → (after_on c k l).term ≡ l.term
  unfolding stepped next_on
  term_on zero l = refl
  term_on (suc k) l = term_on k l

  pub rate_on_lem : (k : ℕ) (l : Loan) → (after_on c k l).rate ≡ l.rate
  unfolding stepped next_on
  rate_on_lem zero l = refl
  rate_on_lem (suc k) l = rate_on_lem k l

  pub payment_on : (k : ℕ) (l : Loan) → (after_on c k l).payment ≡ l.payment
  unfolding stepped next_on
  payment_on zero l = refl
  payment_on (suc k) l = payment_on k l

  pub done_on : (k : ℕ) (l : Loan) → (after_on c k l).done ≡ l.done + k
  unfolding stepped next_on
  done_on zero l = omega arith
  done_on (suc k) l = omega (arith, done_on k l)

  -- the interest by the rate that the loan began with
  pub interest_on_lem : (k : ℕ) (l₀ l : Loan) → l ≡ after_on c k l₀ → mul binary64 l.balance (monthly_rate l₀.rate) ≡ interest_of (monthly_rate l.rate) l.balance
  unfolding interest_of
  interest_on_lem k l₀ l e = rw (e, rate_on_lem k l₀)

  -- after k of n months that a loan still has, the next is due, and so are the rest
  pub next_due : (k n : ℕ) (l₀ l : Loan) → l ≡ after_on c k l₀ → k < n → l₀.done + n ≤ c.end → l.done < c.end
  next_due k n l₀ l e h b = rw e (omega (arith, done_on k l₀))

  pub rest_due : (k n : ℕ) (l₀ l : Loan) → l ≡ after_on c k l₀ → k ≤ n → l₀.done + n ≤ c.end → l.done + (n - k) ≤ c.end
  rest_due k n l₀ l e h b = rw e (omega (arith, done_on k l₀))

  pub next_not_last : (k n : ℕ) (l₀ l : Loan) → l ≡ after_on c k l₀ → k < n → l₀.done + n < c.end → l.done + 1 < c.end
  next_not_last k n l₀ l e h b = rw e (omega (arith, done_on k l₀))

  pub before_last : (k n : ℕ) (l₀ l : Loan) → l ≡ after_on c k l₀ → k + 1 < n → l₀.done + n ≤ c.end → l.done + 1 < c.end
  before_last k n l₀ l e h b = rw e (omega (arith, done_on k l₀))

  -- no later month pays interest alone again
  pub not_alone_on : (k : ℕ) (l₀ l : Loan) → l ≡ after_on c k l₀ → c.only ≤ l₀.done + k → c.only ≤ l.done
  not_alone_on k l₀ l e h = rw e (omega (arith, done_on k l₀))

  -- ---- a month by its amounts: `i` the interest
  abbrev RowWith : Loan → Float → Float → Float → Row
  RowWith l pay p i = record { month = l.done + 1; payment = pay; principal = p; interest = i; balance = raised (sub binary64 l.balance p) }

  abbrev NextWith : Loan → Float → Loan
  NextWith l p = record { term = l.term; rate = l.rate; payment = l.payment; done = l.done + 1; balance = sub binary64 l.balance p }

  module _ (l : Loan) (i : Float) (row : Row) (next : Loan) (ei : i ≡ interest_of (monthly_rate l.rate) l.balance) where
    pub month_alone : l.done < c.only → row ≡ RowWith l i plus_zero i → next ≡ NextWith l plus_zero → (row ≡ row_on c l) × (next ≡ next_on c l)
    unfolding interest_alone principal paid remaining row_on next_on
    month_alone h er en = (er ∙ rw (lt-ltb _ _ h, ei), en ∙ rw (lt-ltb _ _ h))

    pub last_month : c.only ≤ l.done → l.done + 1 ≡ c.end → row ≡ RowWith l (add binary64 l.balance i) l.balance i → next ≡ NextWith l l.balance
        → (row ≡ row_on c l) × (next ≡ next_on c l)
    unfolding interest_alone last principal paid remaining principal_of payment_of row_on next_on
    last_month o h er en = (er ∙ rw (le-ltb l.done c.only o, eq-eqb _ _ h, ei), en ∙ rw (le-ltb l.done c.only o, eq-eqb _ _ h))

    pub other_month : (p : Float) → c.only ≤ l.done → (l.done + 1 ≡ c.end → ⊥) → p ≡ lowered (raised (sub binary64 l.payment i)) l.balance
        → row ≡ RowWith l l.payment p i → next ≡ NextWith l p → (row ≡ row_on c l) × (next ≡ next_on c l)
    unfolding interest_alone last principal paid remaining principal_of payment_of row_on next_on
    other_month p o h ep er en = (er ∙ rw (le-ltb l.done c.only o, ne_eqb _ _ h, ep, ei), en ∙ rw (le-ltb l.done c.only o, ne_eqb _ _ h, ep, ei))

-- ---- of any kind: what is given for a month changes neither the term, the months done nor the balance
module _ (way : Way) where
  abbrev Kept : Loan → Loan → Type 0
  Kept l m = (m.term ≡ l.term) × (m.done ≡ l.done) × (m.balance ≡ l.balance)

  in_force_keeps : (l : Loan) → Kept l (in_force way l)
  unfolding in_force adjusted_to
  in_force_keeps l = go way
    where
      either : (b : Bool) (m : Loan) → Kept l m → Kept l (cond b m l)
      either true m k = k
      either false m k = (refl, refl, refl)

      go : (w : Way) → Kept l (in_force w l)
      go level = (refl, refl, refl)
      go (interest_only months) = (refl, refl, refl)
      go (balloon month) = (refl, refl, refl)
      go (adjustable a index) = either (begins_later_year l.done) (adjusted_to (next_rate a l.rate (entry_behind index l.done)) l) (refl, refl, refl)

  pub in_force_term : (l : Loan) → (in_force way l).term ≡ l.term
  in_force_term l = (in_force_keeps l).0

  pub in_force_done : (l : Loan) → (in_force way l).done ≡ l.done
  in_force_done l = (in_force_keeps l).1

  pub in_force_balance : (l : Loan) → (in_force way l).balance ≡ l.balance
  in_force_balance l = (in_force_keeps l).2

  pub term_after : (k : ℕ) (l : Loan) → (after way k l).term ≡ l.term
  unfolding stepped next_of next_on
  term_after zero l = refl
  term_after (suc k) l = in_force_term (after way k l) ∙ term_after k l

  pub end_after : (k : ℕ) (l : Loan) → end_month way (after way k l) ≡ end_month way l
  unfolding end_month
  end_after k l = rw (term_after k l)

  pub done_after : (k : ℕ) (l : Loan) → (after way k l).done ≡ l.done + k
  unfolding stepped next_of next_on
  done_after zero l = omega arith
  done_after (suc k) l = omega (arith, done_after k l, in_force_done (after way k l))

  pub due_after : (k : ℕ) (l : Loan) → due way (after way k l) ≡ due way l - k
  unfolding due
  due_after k l = omega (arith, end_after k l, done_after k l)

  -- ---- months in which the kind gives nothing new, the first of them apart, are those of its course
  module _ (l : Loan) where
    abbrev begun : Loan
    begun = in_force way l

    -- nothing new is given for the months behind the first of n
    abbrev pub Steady : ℕ → Type 0
    Steady n = (i : ℕ) → 0 < i → i < n → in_force way (after way i l) ≡ after way i l

    a_step : (m x : Loan) (c : Course) → course way m ≡ c → in_force way m ≡ x → next_of way m ≡ next_on c x
    unfolding next_of
    a_step m x c ec ex = ap (λ (d : Course). next_on d (in_force way m)) ec ∙ ap (next_on c) ex

    after_steady : (n : ℕ) → Steady (suc n) → after way (suc n) l ≡ after_on (course way l) (suc n) begun
    unfolding stepped next_of
    after_steady zero s = refl
    after_steady (suc n) s =
        a_step (after way (suc n) l) (after_on (course way l) (suc n) begun) (course way l) (ap (course_of way) (term_after (suc n) l))
        (s (suc n) (omega arith) (omega arith) ∙ after_steady n (λ i h b. s i h (omega arith)))

    in_force_steady : (n i : ℕ) → Steady n → i < n → in_force way (after way i l) ≡ after_on (course way l) i begun
    unfolding stepped
    in_force_steady n zero s h = refl
    in_force_steady n (suc i) s h = s (suc i) (omega arith) h ∙ after_steady i (λ j p b. s j p (omega arith))

    pub stretch_after : (n : ℕ) → Steady n → 0 < n → after way n l ≡ after_on (course way l) n begun
    stretch_after zero s h = absurd (omega arith)
    stretch_after (suc n) s h = after_steady n s

    a_row : (m x : Loan) (c : Course) → course way m ≡ c → in_force way m ≡ x → places (row_of way m) ≡ places (row_on c x)
    unfolding row_of
    a_row m x c ec ex = ap (λ (d : Course). places (row_on d (in_force way m))) ec ∙ ap (λ (y : Loan). places (row_on c y)) ex

    pub stretch_rows : (n : ℕ) → Steady n → rows way n l ≡ rows_on (course way l) n begun
    stretch_rows n s =
        pieces_same (λ (i : ℕ). places (row_of way (after way i l))) (λ (i : ℕ). places (row_on (course way l) (after_on (course way l) i begun))) n
        (λ i h. a_row (after way i l) (after_on (course way l) i begun) (course way l) (ap (course_of way) (term_after i l)) (in_force_steady n i s h))
