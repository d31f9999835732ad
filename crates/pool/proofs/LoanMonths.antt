-- A loan's month in a pool from the balance that is carried: what it adds, and the balance before the next month. The definition asks the schedule anew for each month. Assumes nothing.
use mathlib.Core.Path.{◌≡◌, refl, sym, ap, ◌∙◌}
use mathlib.Core.Bool.{Bool, true, false, cond}
use Prim.Native.Nat.{ℕ, zero, suc, ◌+◌, ◌<◌}
use native.Mathlib.Numerals.{add-one}
use native.Mathlib.Omega.{arith}
use lib.Dec.{ltb}
use lib.Ieee.{Float, binary64, sub, mul, lt, le}
use lib.Ieee.Scale.{finite}
use borrow.Author.Tests.{le-ltb, ne_eqb}
use Rattle.numbers.specs.Clamps.{plus_zero, raised, lowered}
use Rattle.refusals.specs.Table.{bad_amount}
use Rattle.records.specs.declared.Terms.{Terms}
use Rattle.mortgage.specs.declared.Loan.{Loan}
use Rattle.mortgage.specs.Payment.{monthly_rate, payment, loan_of}
use Rattle.mortgage.specs.Rates as any_rates
use Rattle.mortgage.specs.Month as of_month
use Rattle.mortgage.specs.Level.{end_month, after}
use Rattle.mortgage.specs.Kinds.{level}
use Rattle.mortgage.specs.Month.{course, last}
use Rattle.mortgage.specs.RowRule.{interest_of, principal_of, left_of}
use Rattle.steps.specs.Steps.{stepped}
use Rattle.mortgage.specs.Totals.{balance_after}
use Rattle.mortgage.proofs.LevelLaws.{end_after, rate_after, payment_after, done_after, balance_by_the_rule}
use Rattle.mortgage.proofs.RuleLaws.{other_principal, ordinary_principal, left_is}
use Rattle.pool.specs.declared.months.Month.{Month}
use Rattle.pool.specs.Months.{loan_month, plus, balance_before, with_loan}
use Rattle.refusals.proofs.Causes.{amount_finite}
use Rattle.pool.proofs.Signs.{above_not_at_most, at_most, zero_at_most}

-- ---- the balance that the schedule shows after k rows, from the one in hand
shown_above : (l : Loan) (k : ℕ) → lt plus_zero (after k l).balance ≡ true → balance_after l k ≡ (after k l).balance
unfolding stepped balance_after of_month.row_of of_month.row_on of_month.paid of_month.principal of_month.remaining of_month.interest_alone any_rates.in_force of_month.next_of of_month.next_on
shown_above l zero h = refl
shown_above l (suc k) h = rw h

shown_at_most : (l : Loan) (k : ℕ) → finite l.balance ≡ true → lt plus_zero (after k l).balance ≡ false → le (balance_after l k) plus_zero ≡ true
unfolding stepped balance_after of_month.row_of of_month.row_on of_month.paid of_month.principal of_month.remaining of_month.interest_alone any_rates.in_force of_month.next_of of_month.next_on
shown_at_most l zero f h = at_most l.balance f h
shown_at_most l (suc k) f h = rw h zero_at_most

rate_of_lem : (t : Terms) (pay : Float) → (loan_of t pay).rate ≡ t.rate
unfolding loan_of
rate_of_lem t pay = refl

payment_of_lem : (t : Terms) (pay : Float) → (loan_of t pay).payment ≡ pay
unfolding loan_of
payment_of_lem t pay = refl

-- ---- the month k of a loan, from 0, before which the balance is b
module _ (t : Terms) (k : ℕ) (b : Float) (due : k < t.term) (carried : b ≡ (after k (loan_of t (payment t))).balance) where
  in_term : ltb t.term (suc k) ≡ false
  in_term = le-ltb t.term (suc k) (omega arith)

  pub adds : (s : Month) (v p : Float) → lt plus_zero b ≡ true → p ≡ principal_of false (payment t) (monthly_rate t.rate) b
      → with_loan s t (suc k) v ≡ plus s (record { principal = p; interest = interest_of (monthly_rate t.rate) b; prepayment = mul binary64 (sub binary64 b p) v })
  unfolding with_loan balance_before loan_month
  adds s v p h ep =
      let g : lt plus_zero (after k (loan_of t (payment t))).balance ≡ true = rw (sym carried) h in
      let e : balance_after (loan_of t (payment t)) k ≡ b = shown_above (loan_of t (payment t)) k g ∙ sym carried in
      rw (in_term, e, above_not_at_most b h, left_is (payment t) (monthly_rate t.rate) b false, ep)

  pub passes : (s : Month) (v : Float) → bad_amount t.principal ≡ false → lt plus_zero b ≡ false → with_loan s t (suc k) v ≡ s
  unfolding with_loan balance_before loan_of
  passes s v a h =
      let g : lt plus_zero (after k (loan_of t (payment t))).balance ≡ false = rw (sym carried) h in
      rw (in_term, shown_at_most (loan_of t (payment t)) k (amount_finite t.principal a) g)

  not_last : suc k < t.term → last (course level (after k (loan_of t (payment t)))) (after k (loan_of t (payment t))) ≡ false
  unfolding last of_month.end_month loan_of
  not_last h =
      let l = after k (loan_of t (payment t)) in
      ne_eqb (l.done + 1) (end_month l) (λ e. omega (arith, done_after k (loan_of t (payment t)), end_after k (loan_of t (payment t))))

  pub next_balance : (p : Float) → p ≡ principal_of false (payment t) (monthly_rate t.rate) b → k + 1 < t.term → sub binary64 b p ≡ (after (k + 1) (loan_of t (payment t))).balance
  unfolding stepped left_of
  next_balance p ep h =
      let m = after k (loan_of t (payment t)) in
      let e : left_of (last (course level m) m) m.payment (monthly_rate m.rate) m.balance ≡ sub binary64 b p = rw (not_last (omega arith), rate_loan, payment_loan, sym carried, ep) in
      sym (ap (λ (n : ℕ). (after n (loan_of t (payment t))).balance) (add-one k) ∙ balance_by_the_rule m ∙ e)
    where
      rate_loan : (after k (loan_of t (payment t))).rate ≡ t.rate
      rate_loan = rate_after k (loan_of t (payment t)) ∙ rate_of_lem t (payment t)

      payment_loan : (after k (loan_of t (payment t))).payment ≡ payment t
      payment_loan = payment_after k (loan_of t (payment t)) ∙ payment_of_lem t (payment t)

  -- the balance that a month hands on is the schedule's before the next month
  pub handed_on : (v : Float) → k + 1 < t.term → (loan_month t b v).1 ≡ (after (k + 1) (loan_of t (payment t))).balance
  unfolding loan_month left_of
  handed_on v = next_balance (principal_of false (payment t) (monthly_rate t.rate) b) refl

  -- ---- as a turn of the code has it: `pay` is the payment, `r` the monthly rate, `i` the month's interest and `p` its principal
  module _ (pay r i p : Float) (pays : pay ≡ payment t) (monthly : r ≡ monthly_rate t.rate) (bears : i ≡ mul binary64 b r) where
    abbrev Added : Month → Float → Month
    Added s v = plus s (record { principal = p; interest = i; prepayment = mul binary64 (sub binary64 b p) v })

    interest_is : i ≡ interest_of (monthly_rate t.rate) b
    unfolding interest_of
    interest_is = bears ∙ ap (mul binary64 b) monthly

    -- the principal by the rule is the definition's
    as_defined : p ≡ principal_of false pay r b → p ≡ principal_of false (payment t) (monthly_rate t.rate) b
    as_defined e = e ∙ rw (pays, monthly)

    with_interest : (s : Month) (v : Float)
        → plus s (record { principal = p; interest = interest_of (monthly_rate t.rate) b; prepayment = mul binary64 (sub binary64 b p) v }) ≡ Added s v
    with_interest s v = rw interest_is

    by_the_rule_lem : i ≡ interest_of r b
    unfolding interest_of
    by_the_rule_lem = bears

    pub ordinary : p ≡ sub binary64 pay i → lt plus_zero b ≡ true → lt plus_zero p ≡ true → lt p b ≡ true
        → ((s : Month) (v : Float) → Added s v ≡ with_loan s t (suc k) v) × (k + 1 < t.term → sub binary64 b p ≡ (after (k + 1) (loan_of t (payment t))).balance)
    ordinary e h g l =
        let ep : p ≡ principal_of false (payment t) (monthly_rate t.rate) b = as_defined (sym (ordinary_principal pay r b p (e ∙ ap (sub binary64 pay) by_the_rule_lem) g l)) in
        (λ s v. sym (adds s v p h ep ∙ with_interest s v), next_balance p ep)

    pub any_month : (q : Float) → q ≡ raised (sub binary64 pay i) → p ≡ lowered q b → bad_amount t.principal ≡ false
        → ((s : Month) (v : Float) → cond (lt plus_zero b) (Added s v) s ≡ with_loan s t (suc k) v) × (k + 1 < t.term → sub binary64 b p ≡ (after (k + 1) (loan_of t (payment t))).balance)
    any_month q eq el a = (λ s v. go s v (lt plus_zero b) refl, next_balance p ep)
      where
        ep : p ≡ principal_of false (payment t) (monthly_rate t.rate) b
        ep = as_defined (el ∙ ap (λ (x : Float). lowered x b) (eq ∙ ap (λ (y : Float). raised (sub binary64 pay y)) by_the_rule_lem) ∙ sym (other_principal pay r b))

        go : (s : Month) (v : Float) (above : Bool) → lt plus_zero b ≡ above → cond above (Added s v) s ≡ with_loan s t (suc k) v
        go s v true h = sym (adds s v p h ep ∙ with_interest s v)
        go s v false h = sym (passes s v a h)
