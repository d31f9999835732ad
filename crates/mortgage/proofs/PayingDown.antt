-- Paying down month by month: what each way through a month does to what is left to pay down, for any payment, any monthly rate and any number of months; and accepted terms are short enough for it. Assumes nothing.
use mathlib.Core.Path.{◌≡◌, sym, ◌∙◌}
use mathlib.Core.Bool.{true, false, cond}
use mathlib.Core.List.{[]}
use Prim.Native.Nat.{ℕ, suc, ◌+◌, ◌-◌, ◌<◌, ◌≤◌}
use native.Mathlib.Omega.{arith}
use lib.Ieee.{Float, lt, le}
use Rattle.numbers.specs.Literals.{millionth}
use Rattle.numbers.specs.Clamps.{plus_zero}
use Rattle.refusals.specs.Outcome.{accepted}
use Rattle.refusals.proofs.Verdicts.{verdict}
use Rattle.refusals.proofs.Causes.{term_within}
use Rattle.records.specs.declared.Terms.{Terms}
use Rattle.mortgage.specs.declared.savings.Paydown.{Paydown}
use Rattle.mortgage.specs.Terms.{terms_lines}
use Rattle.mortgage.specs.Savings.{paid_down, paid_down_for}
use Rattle.mortgage.proofs.TermsLaws.{terms_passed}

another : (most k : ℕ) → k < most → most - k ≡ suc (most - (k + 1))
another most k h = omega arith

-- the state s in hand after k months, of which there are at most so many
module _ (pay r : Float) (most k : ℕ) (s : Paydown) where
  pub months_up : most ≤ k → paid_down_for pay r (most - k) s ≡ s
  unfolding paid_down_for
  months_up h = let e : most - k ≡ 0 = omega arith in rw e

  -- the balance is not above 0
  pub paid : k < most → lt plus_zero s.balance ≡ false → paid_down_for pay r (most - k) s ≡ s
  unfolding paid_down_for
  paid h z = rw (another most k h, z)

  -- the balance is above 0, and the month leaves the state s'
  module _ (s' : Paydown) (month : s' ≡ paid_down pay r s) (h : k < most) (owes : lt plus_zero s.balance ≡ true) where
    after_month : paid_down_for pay r (most - k) s ≡ cond (le s'.balance millionth) s' (paid_down_for pay r (most - (k + 1)) s')
    unfolding paid_down_for
    after_month = rw (another most k h, owes, month)

    pub pays_off : le s'.balance millionth ≡ true → paid_down_for pay r (most - k) s ≡ s'
    pays_off e = after_month ∙ rw e

    pub goes_on : le s'.balance millionth ≡ false → paid_down_for pay r (most - k) s ≡ paid_down_for pay r (most - (k + 1)) s'
    goes_on e = after_month ∙ rw e

pub counted : (pay r : Float) (k : ℕ) (s s' : Paydown) → s' ≡ paid_down pay r s → s.months ≡ k → s'.months ≡ k + 1
unfolding paid_down
counted pay r k s s' month e = rw (month, e)

-- ---- an accepted term is at most 1,200
pub accepted_term : (t : Terms) → accepted tt ≡ verdict (terms_lines t) → t.term ≤ 1200
accepted_term t e = term_within t.term (terms_passed t [] tt tt (sym e)).1
