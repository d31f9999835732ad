-- Every entry point refuses by the table's rule: number k at place p is given exactly when that is the lowest line with a cause and its first place. Assumes nothing.
use Prim.Native.Nat.{ℕ}
use mathlib.Core.Bool.{Bool, true, false, ◌&&◌}
use mathlib.Core.List.{List}
use lib.Dec.{T, ltb}
use lib.ListN.{length}
use lib.Ieee.{Float}
use Rattle.refusals.specs.Outcome.{ExactlyWhen, above}
use Rattle.refusals.proofs.Judging.{exactly}
use Rattle.records.specs.declared.Terms.{Terms}
use Rattle.mortgage.specs.declared.Loan.{Loan}
use Rattle.mortgage.specs.Terms.{terms_lines}
use Rattle.mortgage.specs.Payment.{monthly_payment, opened_with, opened}
use Rattle.mortgage.specs.Kinds.{Way, level, interest_only, balloon, adjustable, kind_lines}
use Rattle.mortgage.specs.Openings.{opening_lines, kind_opened_with, kind_opened}
use Rattle.mortgage.specs.Rows.{state_lines, next_row}
use Rattle.mortgage.specs.Draws.{draw_lines, drawn}
use Rattle.mortgage.specs.YearDraws.{year_draw_lines, drawn_with_years, lookup_lines, looked_up}
use Rattle.mortgage.specs.Level as of_level
use Rattle.mortgage.specs.Totals.{total_interest, remaining_balance, loan_to_value}
use Rattle.mortgage.specs.Savings.{prepayment_savings}
use Rattle.mortgage.specs.BreakEven.{break_even_lines, refinance_breakeven}

pub payment_refused_exactly : (t : Terms) → ExactlyWhen (terms_lines t) (monthly_payment t)
unfolding monthly_payment above
payment_refused_exactly t = exactly _ (terms_lines t) tt

pub opening_with_payment_refused_exactly : (t : Terms) (pay : Float) → ExactlyWhen (terms_lines t) (opened_with t pay)
unfolding opened_with above
opening_with_payment_refused_exactly t pay = exactly _ (terms_lines t) tt

pub opening_refused_exactly : (t : Terms) → ExactlyWhen (terms_lines t) (opened t)
unfolding opened opened_with above
opening_refused_exactly t = exactly _ (terms_lines t) tt

-- ---- of a loan of any kind: behind lower lines, line 16 rises, where the kind has it
with_nothing_behind : (b : Bool) → T b → T (b && true)
with_nothing_behind true t = tt
with_nothing_behind false t = t

kind_rises : (way : Way) (term before : ℕ) → T (ltb before 16) → T (above before (kind_lines way term))
unfolding above
kind_rises level term before t = tt
kind_rises (interest_only months) term before t = with_nothing_behind (ltb before 16) t
kind_rises (balloon month) term before t = with_nothing_behind (ltb before 16) t
kind_rises (adjustable a index) term before t = with_nothing_behind (ltb before 16) t

module _ (way : Way) where
  pub opening_of_any_kind_with_payment_refused_exactly : (t : Terms) (pay : Float) → ExactlyWhen (opening_lines way t) (kind_opened_with way t pay)
  unfolding kind_opened_with above
  opening_of_any_kind_with_payment_refused_exactly t pay = exactly _ (opening_lines way t) (kind_rises way t.term 2 tt)

  pub opening_of_any_kind_refused_exactly : (t : Terms) → ExactlyWhen (opening_lines way t) (kind_opened way t)
  unfolding kind_opened
  opening_of_any_kind_refused_exactly t = opening_of_any_kind_with_payment_refused_exactly t _

  pub next_row_of_any_kind_refused_exactly : (l : Loan) → ExactlyWhen (state_lines way l) (next_row way l)
  unfolding next_row above
  next_row_of_any_kind_refused_exactly l = exactly _ (state_lines way l) (kind_rises way l.term 10 tt)

  pub draw_of_any_kind_refused_exactly : (l : Loan) (room : List Float) → ExactlyWhen (draw_lines way l (length room)) (drawn way l room)
  unfolding drawn above
  draw_of_any_kind_refused_exactly l room = exactly _ (draw_lines way l (length room)) (kind_rises way l.term 10 tt)

  pub draw_with_years_of_any_kind_refused_exactly : (l : Loan) (room years : List Float) → ExactlyWhen (year_draw_lines way l (length room) (length years)) (drawn_with_years way l room years)
  unfolding drawn_with_years above
  draw_with_years_of_any_kind_refused_exactly l room years = exactly _ (year_draw_lines way l (length room) (length years)) (kind_rises way l.term 10 tt)

  pub lookup_of_any_kind_refused_exactly : (l : Loan) (years : List Float) (year : ℕ) → ExactlyWhen (lookup_lines way l (length years) year) (looked_up way l years year)
  unfolding looked_up above
  lookup_of_any_kind_refused_exactly l years year = exactly _ (lookup_lines way l (length years) year) tt

-- ---- of document 01's loan
pub next_row_refused_exactly : (l : Loan) → ExactlyWhen (of_level.state_lines l) (of_level.next_row l)
next_row_refused_exactly = next_row_of_any_kind_refused_exactly level

pub draw_refused_exactly : (l : Loan) (room : List Float) → ExactlyWhen (of_level.draw_lines l (length room)) (of_level.drawn l room)
draw_refused_exactly = draw_of_any_kind_refused_exactly level

pub draw_with_years_refused_exactly : (l : Loan) (room years : List Float) → ExactlyWhen (of_level.year_draw_lines l (length room) (length years)) (of_level.drawn_with_years l room years)
draw_with_years_refused_exactly = draw_with_years_of_any_kind_refused_exactly level

pub lookup_refused_exactly : (l : Loan) (years : List Float) (year : ℕ) → ExactlyWhen (of_level.lookup_lines l (length years) year) (of_level.looked_up l years year)
lookup_refused_exactly = lookup_of_any_kind_refused_exactly level

-- ---- of what is asked of a loan's terms
pub total_interest_refused_exactly : (t : Terms) → ExactlyWhen (terms_lines t) (total_interest t)
unfolding total_interest above
total_interest_refused_exactly t = exactly _ (terms_lines t) tt

pub remaining_balance_refused_exactly : (t : Terms) (months : ℕ) → ExactlyWhen (terms_lines t) (remaining_balance t months)
unfolding remaining_balance above
remaining_balance_refused_exactly t months = exactly _ (terms_lines t) tt

pub loan_to_value_refused_exactly : (t : Terms) (value : Float) → ExactlyWhen (terms_lines t) (loan_to_value t value)
unfolding loan_to_value above
loan_to_value_refused_exactly t value = exactly _ (terms_lines t) tt

pub savings_refused_exactly : (t : Terms) (extra : Float) → ExactlyWhen (terms_lines t) (prepayment_savings t extra)
unfolding prepayment_savings above
savings_refused_exactly t extra = exactly _ (terms_lines t) tt

pub break_even_refused_exactly : (old new : Terms) (cost : Float) (elapsed : ℕ) → ExactlyWhen (break_even_lines old new cost) (refinance_breakeven old new cost elapsed)
unfolding refinance_breakeven above
break_even_refused_exactly old new cost elapsed = exactly _ (break_even_lines old new cost) tt
