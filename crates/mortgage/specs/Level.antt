-- Document 01's loan: the level kind, by its own names. Definitions only. Assumes nothing.
use Rattle.std.specs.Prelude.{List, ℕ, Float}
use Rattle.refusals.specs.Outcome.{Outcome, Line}
use Rattle.records.specs.declared.Row.{Row}
use Rattle.records.specs.declared.Terms.{Terms}
use Rattle.mortgage.specs.declared.Loan.{Loan}
use Rattle.mortgage.specs.declared.draws.Portion.{Portion}
use Rattle.mortgage.specs.declared.years.Year.{Year}
use Rattle.mortgage.specs.Kinds.{level}
use Rattle.mortgage.specs.Month as any_month
use Rattle.mortgage.specs.Rows as any_rows
use Rattle.mortgage.specs.Rows.{NextRow}
use Rattle.mortgage.specs.Draws as any_draws
use Rattle.mortgage.specs.Demand3 as any_demand
use Rattle.mortgage.specs.YearDraws as any_years
use Rattle.mortgage.specs.Summary as any_summary
use Rattle.mortgage.specs.Summary.{Kept}

-- ---- its months
abbrev pub end_month : Loan → ℕ
end_month = any_month.end_month level

abbrev pub due : Loan → ℕ
due = any_month.due level

abbrev pub row_of : Loan → Row
row_of = any_month.row_of level

abbrev pub next_of : Loan → Loan
next_of = any_month.next_of level

-- ---- its rows
abbrev pub after : ℕ → Loan → Loan
after = any_rows.after level

abbrev pub rows : ℕ → Loan → List Float
rows = any_rows.rows level

abbrev pub state_lines : Loan → List Line
state_lines = any_rows.state_lines level

abbrev pub next_row : Loan → Outcome NextRow
next_row = any_rows.next_row level

-- ---- its draws
abbrev pub draw_lines : Loan → ℕ → List Line
draw_lines = any_draws.draw_lines level

abbrev pub count : Loan → ℕ → ℕ
count = any_draws.count level

abbrev pub portion : Loan → ℕ → Portion
portion = any_draws.portion level

abbrev pub drawn : Loan → List Float → Outcome Portion
drawn = any_draws.drawn level

abbrev pub filled_by : Outcome Portion → Loan → List Float → List Float
filled_by = any_draws.filled_by level

abbrev pub filled : Loan → List Float → List Float
filled = any_draws.filled level

-- ---- draws of it one after the other
abbrev pub wrote : Loan → List Float → List Float
wrote = any_demand.wrote level

abbrev pub hands_back : Loan → List Float → Loan
hands_back = any_demand.hands_back level

abbrev pub filed : Loan → List (List Float) → List Float
filed = any_demand.filed level

abbrev pub left : Loan → List (List Float) → Loan
left = any_demand.left level

abbrev pub Repays : Terms → Loan → Type 0
Repays = any_demand.Repays level

abbrev pub OpensAndRepays : Terms → Outcome Loan → Type 0
OpensAndRepays = any_demand.OpensAndRepays level

-- ---- draws with year-end lines, and the lookup of a year
abbrev pub year_draw_lines : Loan → ℕ → ℕ → List Line
year_draw_lines = any_years.year_draw_lines level

abbrev pub drawn_with_years : Loan → List Float → List Float → Outcome Portion
drawn_with_years = any_years.drawn_with_years level

abbrev pub filled_with_years : Loan → List Float → List Float → List Float
filled_with_years = any_years.filled_with_years level

abbrev pub years_after : ℕ → Loan → List Float → List Float
years_after = any_years.years_after level

abbrev pub summed : Loan → List Float → List Float → List Float
summed = any_years.summed level

abbrev pub lookup_lines : Loan → ℕ → ℕ → List Line
lookup_lines = any_years.lookup_lines level

abbrev pub looked_up : Loan → List Float → ℕ → Outcome Year
looked_up = any_years.looked_up level

abbrev pub wrote_with_years : Kept → List Float → List Float
wrote_with_years = any_summary.wrote_with_years level

abbrev pub kept_after : Kept → List Float → Kept
kept_after = any_summary.kept_after level

abbrev pub filed_with_years : Kept → List (List Float) → List Float
filed_with_years = any_summary.filed_with_years level

abbrev pub kept : Kept → List (List Float) → Kept
kept = any_summary.kept level

abbrev pub SumsUp : Kept → List Float → Type 0
SumsUp = any_summary.SumsUp level
