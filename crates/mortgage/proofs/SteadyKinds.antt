-- A kind that gives every month the rate and the payment which the loan holds has the rows of its course, and the level kind is one: what its months, one after the other, are. Assumes nothing.
use mathlib.Core.Path.{◌≡◌, refl, sym, ap, ◌∙◌}
use mathlib.Core.List.{List}
use Prim.Native.Nat.{ℕ, zero, suc, ◌+◌, ◌<◌, ◌≤◌}
use native.Mathlib.Omega.{arith}
use lib.Ieee.{Float, binary64, mul}
use Rattle.records.specs.declared.Row.{Row}
use Rattle.mortgage.specs.declared.Loan.{Loan}
use Rattle.mortgage.specs.declared.kinds.Course.{Course}
use Rattle.mortgage.specs.Row.{width}
use Rattle.mortgage.specs.declared.kinds.Adjustment.{Adjustment}
use Rattle.mortgage.specs.declared.kinds.Kind.{Kind}
use Rattle.mortgage.specs.declared.kinds.Kind.TheVariants as kind_is
use Rattle.mortgage.specs.Kinds.{Way, level, interest_only, balloon, way_of, course_of}
use Rattle.mortgage.specs.inner.Laying.{LaysOn, LaysOf}
use Rattle.mortgage.specs.Rates.{in_force}
use Rattle.mortgage.specs.Payment.{monthly_rate}
use Rattle.mortgage.specs.RowRule.{interest_of}
use Rattle.mortgage.specs.Month.{course, row_on, next_on, end_month, row_of, next_of}
use Rattle.mortgage.specs.Rows.{after_on, rows_on, after, rows}
use Rattle.steps.specs.Steps.{stepped, laid}
use Rattle.mortgage.proofs.RowLaws.{interest_on_lem, before_last, term_after, stretch_after, stretch_rows}
use Rattle.mortgage.proofs.KindLaws.{month_given}
use Rattle.mortgage.proofs.RowsLaid.{end_is}

module _ (way : Way) (steady : (l : Loan) → in_force way l ≡ l) where
  pub steady_after : (k : ℕ) (l : Loan) → after way k l ≡ after_on (course way l) k l
  unfolding stepped
  steady_after zero l = refl
  steady_after (suc k) l =
      stretch_after way l (suc k) (λ i h b. steady (after way i l)) (omega arith) ∙ ap (after_on (course way l) (suc k)) (steady l)

  pub steady_rows : (k : ℕ) (l : Loan) → rows way k l ≡ rows_on (course way l) k l
  steady_rows k l = stretch_rows way l k (λ i h b. steady (after way i l)) ∙ ap (rows_on (course way l) k) (steady l)

  -- rows laid on its course are the kind's
  pub steady_laid : (c : Course) {k : ℕ} {l l' : Loan} {room room' : List Float} → c ≡ course way l → LaysOn c k l room l' room' → LaysOf way k l room l' room'
  steady_laid c {k} {l} {l'} {room} {room'} ec on = record {
    state = on.state ∙ ap (λ (d : Course). after_on d k l) ec ∙ sym (steady_after k l);
    stand = on.stand ∙ ap (λ (d : Course). laid width k (rows_on d k l) room) ec ∙ ap (λ (laying : List Float). laid width k laying room) (sym (steady_rows k l));
  }

-- ---- which kinds
pub level_steady : (l : Loan) → in_force level l ≡ l
unfolding in_force
level_steady l = refl

pub interest_only_steady : (months : ℕ) (l : Loan) → in_force (interest_only months) l ≡ l
unfolding in_force
interest_only_steady months l = refl

pub balloon_steady : (month : ℕ) (l : Loan) → in_force (balloon month) l ≡ l
unfolding in_force
balloon_steady month l = refl

-- every kind but the adjustable one
pub others_steady : (kind : Kind) (index : List Float) → ((a : Adjustment) → kind ≡ kind_is.Adjustable a → ⊥) → (l : Loan) → in_force (way_of kind index) l ≡ l
others_steady kind_is.Level index h l = level_steady l
others_steady (kind_is.InterestOnly months) index h l = interest_only_steady months l
others_steady (kind_is.Balloon month) index h l = balloon_steady month l
others_steady (kind_is.Adjustable a) index h l = absurd (h a refl)

-- ---- the level kind
pub level_after : (k : ℕ) (l : Loan) → after level k l ≡ after_on (course_of level l.term) k l
level_after = steady_after level level_steady

pub level_rows : (k : ℕ) (l : Loan) → rows level k l ≡ rows_on (course_of level l.term) k l
level_rows = steady_rows level level_steady

-- a month on the course of the loan that k months led to it from
module _ (c : Course) (k : ℕ) (l₀ l : Loan) (ec : c ≡ course_of level l₀.term) (e : l ≡ after level k l₀) where
  pub course_kept : c ≡ course level l
  course_kept = ec ∙ ap (course_of level) (sym (ap (λ (m : Loan). m.term) e ∙ term_after level k l₀))

  pub level_month : (row : Row) (next : Loan) → (row ≡ row_on c l) × (next ≡ next_on c l) → (row ≡ row_of level l) × (next ≡ next_of level l)
  level_month = month_given level l c course_kept l (sym (level_steady l))

  -- it is k months on along the course
  along : l ≡ after_on c k l₀
  along = e ∙ level_after k l₀ ∙ ap (λ (d : Course). after_on d k l₀) (sym ec)

  -- so its interest is by the rate that the loan began with, and before the last of n months it is no last one
  pub interest_along : mul binary64 l.balance (monthly_rate l₀.rate) ≡ interest_of (monthly_rate l.rate) l.balance
  interest_along = interest_on_lem c k l₀ l along

  pub no_last_along : (n : ℕ) → k + 1 < n → l₀.done + n ≤ end_month level l₀ → (c.only ≤ l.done) × (l.done + 1 < c.end)
  no_last_along n h b = (omega (arith, ap (λ (d : Course). d.only) ec), before_last c k n l₀ l along h (rw (end_is level l₀ c ec) b))
