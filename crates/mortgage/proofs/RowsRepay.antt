-- The rows of a loan in hand of any kind whose line 16 has no cause and whose balance is an amount, from its next month to its end, repay that balance, by the law of rows that repay: a row
-- shows its principal and what is left, a month's principal is a part of the balance, and the last month's is the balance. Assumes nothing.
use mathlib.Core.Path.{◌≡◌, refl, sym, ap, ◌∙◌, subst}
use mathlib.Core.Bool.{Bool, true, false, cond, not, ◌||◌}
use mathlib.Core.List.{[]}
use Prim.Native.Nat.{ℕ, suc, ◌+◌, ◌<◌, ◌≤◌}
use native.Mathlib.Omega.{arith}
use lib.Dec.{T, eqb, ltb}
use lib.Ieee.{Float, binary64, sub}
use borrow.Author.Tests.{eq-eqb, le-ltb, ltb-true}
use Rattle.numbers.specs.Clamps.{plus_zero}
use Rattle.numbers.proofs.Amounts.{amount}
use Rattle.numbers.proofs.Clamping.{PartOf}
use Rattle.refusals.specs.Outcome.{line}
use Rattle.refusals.specs.Table.{bad_period}
use Rattle.refusals.proofs.Judging.{none_is, passed}
use Rattle.steps.proofs.Repaying as repaying
use Rattle.steps.proofs.Repaying.{Shows}
use Rattle.mortgage.specs.declared.Loan.{Loan}
use Rattle.mortgage.specs.declared.kinds.Course.{Course}
use Rattle.mortgage.specs.Payment.{monthly_rate}
use Rattle.mortgage.specs.Row.{width, principal_place, balance_place}
use Rattle.mortgage.specs.Kinds.{Way, level, interest_only, balloon, adjustable, course_of}
use Rattle.mortgage.specs.RowRule.{principal_of}
use Rattle.mortgage.specs.Rates.{in_force}
use Rattle.mortgage.specs.Month.{interest_alone, last, principal, remaining, row_on, next_on, course, end_month, due, row_of, next_of}
use Rattle.mortgage.specs.Rows.{after, rows}
use Rattle.mortgage.specs.Demand3.{Repaid}
use Rattle.mortgage.proofs.RuleLaws.{last_principal, principal_part, nothing_part}
use Rattle.mortgage.proofs.RowLaws.{in_force_done, in_force_balance, term_after, end_after, done_after}
use Rattle.mortgage.proofs.DrawCases.{row_places, wide, Fits}

abbrev balance : Loan → Float
balance l = l.balance

-- ---- on a course: a month's principal is a part of the balance
part_on : (c : Course) (l : Loan) → T (amount binary64 l.balance) → PartOf binary64 (principal c l) l.balance
unfolding principal
part_on c l t = go (interest_alone c l)
  where
    go : (alone : Bool) → PartOf binary64 (cond alone plus_zero (principal_of (last c l) l.payment (monthly_rate l.rate) l.balance)) l.balance
    go true = nothing_part l.balance
    go false = principal_part l.payment (monthly_rate l.rate) l.balance (last c l) t

-- and the last month's, which pays not interest alone, is the balance
last_on : (c : Course) (l : Loan) → c.only ≤ l.done → l.done + 1 ≡ c.end → principal c l ≡ l.balance
unfolding principal interest_alone last
last_on c l o e = rw (le-ltb l.done c.only o, eq-eqb (l.done + 1) c.end e) (last_principal l.payment (monthly_rate l.rate) l.balance)

-- ---- of any kind: the months of interest alone end before the loan does
fewer : (months term : ℕ) → bad_period months term ≡ false → months < term
unfolding bad_period
fewer months term = go (eqb months 0) (ltb months term) (ltb-true months term)
  where
    go : (none less : Bool) → (less ≡ true → months < term) → (none || not less) ≡ false → months < term
    go false true h e = h refl
    go false false h e = absurd (subst T e tt)
    go true less h e = absurd (subst T e tt)

pub alone_before_end : (way : Way) (term : ℕ) → Fits way term → 0 < (course_of way term).end → (course_of way term).only < (course_of way term).end
alone_before_end level term f h = h
alone_before_end (interest_only months) term f h = fewer months term (none_is (passed tt tt (line 16 (bad_period months term)) [] f).0 0)
alone_before_end (balloon month) term f h = h
alone_before_end (adjustable a index) term f h = h

module _ (way : Way) where
  -- what a month takes off the balance
  abbrev taken : Loan → Float
  taken l = principal (course way l) (in_force way l)

  shows : Shows (next_of way) (row_places way) width principal_place balance_place balance taken
  unfolding row_of next_of row_on next_on remaining
  shows = record {
    wide = wide way;
    part_within = omega arith;
    balance_within = omega arith;
    part_shown = λ l. refl;
    balance_shown = λ l. refl;
    falls = λ l. ap (λ (b : Float). sub binary64 b (taken l)) (in_force_balance way l);
  }

  part_of : (l : Loan) → T (amount binary64 l.balance) → PartOf binary64 (taken l) l.balance
  part_of l t =
      let e = in_force_balance way l in
      subst (PartOf binary64 (taken l)) e (part_on (course way l) (in_force way l) (subst (λ (b : Float). T (amount binary64 b)) (sym e) t))

  last_takes_all : (l : Loan) → Fits way l.term → l.done + 1 ≡ end_month way l → taken l ≡ l.balance
  unfolding end_month
  last_takes_all l f e =
      let d = in_force_done way l in
      last_on (course way l) (in_force way l) (omega (arith, d, alone_before_end way l.term f (omega arith))) (omega (arith, d)) ∙ in_force_balance way l

  -- ---- m months are due, and then the last
  module _ (l : Loan) (m : ℕ) (fits : Fits way l.term) (ends : due way l ≡ suc m) where
    clears : taken (after way m l) ≡ (after way m l).balance
    unfolding due
    clears = last_takes_all (after way m l) (subst (Fits way) (sym (term_after way m l)) fits) (omega (arith, done_after way m l, end_after way m l))

    pub repaid : T (amount binary64 l.balance) → Repaid l.balance (suc m) (rows way (suc m) l)
    repaid start = repaying.repaid (next_of way) (row_places way) width principal_place balance_place balance taken shows l m start (λ k h. part_of (after way k l)) clears
