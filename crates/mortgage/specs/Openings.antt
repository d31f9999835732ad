-- Openings of a loan of any kind: with the worked-out payment, or with a given one. Definitions only. Assumes nothing.
use Rattle.std.specs.Prelude.{◌-◌, List, ◌++◌, Float}
use Rattle.refusals.specs.Outcome.{Outcome, Line, judged}
use Rattle.records.specs.declared.Terms.{Terms}
use Rattle.mortgage.specs.declared.Loan.{Loan}
use Rattle.mortgage.specs.Terms.{terms_lines}
use Rattle.mortgage.specs.Payment.{payment, loan_of}
use Rattle.mortgage.specs.Kinds.{Way, level, interest_only, balloon, adjustable, kind_lines}

-- the terms that the loan starts with: "an adjustable loan does not read its record's rate"
abbrev pub starting_terms : Way → Terms → Terms
starting_terms level t = t
starting_terms (interest_only months) t = t
starting_terms (balloon month) t = t
starting_terms (adjustable a index) t = record { principal = t.principal; rate = a.initial; term = t.term }

-- the terms that its payment is worked out for: "the level payment for P over n - k months", the full term's, or year 1's
abbrev pub paying_terms : Way → Terms → Terms
paying_terms level t = t
paying_terms (interest_only months) t = record { principal = t.principal; rate = t.rate; term = t.term - months }
paying_terms (balloon month) t = t
paying_terms (adjustable a index) t = starting_terms (adjustable a index) t

module _ (way : Way) where
  -- the lines of the table that an opening meets
  abbrev pub opening_lines : Terms → List Line
  opening_lines t = terms_lines t ++ kind_lines way t.term

  unfoldable pub kind_opened_with : Terms → Float → Outcome Loan
  kind_opened_with t pay = judged (opening_lines t) (loan_of (starting_terms way t) pay)

  unfoldable pub kind_opened : Terms → Outcome Loan
  kind_opened t = kind_opened_with t (payment (paying_terms way t))
