-- Loans as a host holds them: terms as a record, the loan in hand as two arrays. Definitions only. Assumes nothing.
use Rattle.std.specs.Prelude.{ℕ, List, [], ◌∷◌, get_or, Float}
use Rattle.std.specs.Float.{nan}
use Rattle.refusals.specs.Outcome.{Outcome, refused, accepted, and_then}
use Rattle.records.specs.declared.Row.{Row}
use Rattle.records.specs.declared.Terms.{Terms}
use Rattle.records.specs.Kinds.{read_terms, row_bytes}
use Rattle.mortgage.specs.declared.Loan.{Loan}
use Rattle.mortgage.specs.declared.draws.Portion.{Portion}
use Rattle.mortgage.specs.declared.savings.Savings.{Savings}
use Rattle.mortgage.specs.declared.kinds.Adjustment.{Adjustment}
use Rattle.mortgage.specs.Kinds.{Way, level}
use Rattle.mortgage.specs.Month.{due}
use Rattle.mortgage.specs.Rows.{NextRow, finished, next}
use Rattle.mortgage.specs.BreakEven.{refinance_breakeven}

-- ---- the loan in hand as a host keeps it: its counts (term, months done) and its amounts (rate, payment, balance)
abbrev pub counts_of : Loan → List ℕ
counts_of l = l.term ∷ l.done ∷ []

abbrev pub amounts_of : Loan → List Float
amounts_of l = l.rate ∷ l.payment ∷ l.balance ∷ []

abbrev pub loan_in : List ℕ → List Float → Loan
loan_in counts amounts = record { term = get_or counts 0 0; done = get_or counts 1 0; rate = get_or amounts 0 nan; payment = get_or amounts 1 nan; balance = get_or amounts 2 nan }

abbrev pub loan_numbers : Loan → List ℕ × List Float
loan_numbers l = (counts_of l, amounts_of l)

-- ---- what an adjustable loan is named by: the initial rate, the cap of an adjustment and the lifetime cap
abbrev pub adjustment_of : Float → Float → Float → Adjustment
adjustment_of initial cap lifetime = record { initial = initial; cap = cap; lifetime = lifetime }

-- ---- what a draw hands back: the loan, rows written, rows owed
abbrev pub portion_numbers : Portion → List ℕ × List Float × ℕ × ℕ
portion_numbers p = (counts_of p.loan, amounts_of p.loan, p.written, p.owed)

-- ---- the next row alone: the loan, the row's record, rows written, rows owed. A finished loan leaves the loan and the record.
abbrev pub kind_next_numbers : Way → List ℕ → List Float → List ℕ → NextRow → List ℕ × List Float × List ℕ × ℕ × ℕ
kind_next_numbers way counts amounts before finished = (counts, amounts, before, 0, 0)
kind_next_numbers way counts amounts before (next row m) = (counts_of m, amounts_of m, row_bytes row, 1, due way m)

abbrev pub next_numbers : List ℕ → List Float → List ℕ → NextRow → List ℕ × List Float × List ℕ × ℕ × ℕ
next_numbers = kind_next_numbers level

abbrev pub savings_numbers : Savings → ℕ × Float
savings_numbers s = (s.months, s.interest)

abbrev pub row_numbers : Row → ℕ × Float × Float × Float × Float
row_numbers r = (r.month, r.payment, r.principal, r.interest, r.balance)

abbrev pub terms_numbers : Terms → Float × Float × ℕ
terms_numbers t = (t.principal, t.rate, t.term)

-- ---- break-even's two records: a refusal stands at 0 for the old one, at 1 for the new one
abbrev pub at : {A : Type 0} → ℕ → Outcome A → Outcome A
at place (refused k p) = refused k place
at place (accepted v) = accepted v

unfoldable pub breakeven_of : List ℕ → List ℕ → Float → ℕ → Outcome ℕ
breakeven_of old new cost elapsed =
    and_then (at 0 (read_terms old))
    (λ (was : Terms). and_then (at 1 (read_terms new)) (λ (is : Terms). refinance_breakeven was is cost elapsed))
