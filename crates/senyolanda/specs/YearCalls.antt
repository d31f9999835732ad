-- A loan of any kind with year-end lines as a host works with it: opened from a record's bytes, then drawn with lines, each call handed the counts, the amounts and the lines that the call before left, and a
-- year looked up after them. What a call answers is what its function promises. Definitions only. Assumes nothing.
use Rattle.std.specs.Prelude.{◌≡◌, ◌⊎◌, List, ℕ, ◌*◌, ◌<◌, ◌≤◌, length, take, Float}
use Rattle.steps.specs.Calls as calls
use Rattle.records.specs.declared.Terms.{Terms}
use Rattle.mortgage.specs.Kinds.{Way}
use Rattle.mortgage.specs.Row.{width}
use Rattle.mortgage.specs.Month.{due}
use Rattle.mortgage.specs.Rows.{rows}
use Rattle.mortgage.specs.Demand3.{rows_due, Repaid}
use Rattle.mortgage.specs.Years.{started_years, year_line, year_width, year_places}
use Rattle.mortgage.specs.YearDraws.{drawn_with_years, filled_with_years, summed, looked_up}
use Rattle.mortgage.specs.Summary.{years_begun}
use Rattle.senyolanda.specs.Told.{told}
use Rattle.senyolanda.specs.Loans.{portion_numbers}
use Rattle.senyolanda.specs.Calls.{Kept, in_hand, rows_said}

-- ---- what a host keeps: the loan's counts and amounts, and the lines
abbrev pub KeptWithYears : Type 0
KeptWithYears = Kept × List Float

-- a call: the room that is lent, and what stands where it will say how many rows it wrote and how many are owed
abbrev pub YearCall : Type 0
YearCall = List Float × ℕ × ℕ

module _ (way : Way) where
  -- ---- what each function answers, by what stood in the places before it
  -- the loan's counts and amounts, rows written, rows owed
  abbrev pub year_draw_answer : KeptWithYears → YearCall → ℕ × (List ℕ × List Float × ℕ × ℕ)
  year_draw_answer k c = told portion_numbers (drawn_with_years way (in_hand k.0) c.0 k.1) (k.0.0, k.0.1, c.1, c.2)

  -- the line of a year
  abbrev pub lookup_answer : KeptWithYears → ℕ → List Float → ℕ × List Float
  lookup_answer k year before = told year_places (looked_up way (in_hand k.0) k.1 year) before

  -- ---- the numbers that a host files of a draw, where its result is 0, and what it keeps
  unfoldable pub files_beside : KeptWithYears → YearCall → List Float
  files_beside k c = take (rows_said (year_draw_answer k c).0 (year_draw_answer k c).1.2 * width) (filled_with_years way (in_hand k.0) c.0 k.1)

  unfoldable pub keeps_beside : KeptWithYears → YearCall → KeptWithYears
  keeps_beside k c = (((year_draw_answer k c).1.0, (year_draw_answer k c).1.1), summed way (in_hand k.0) c.0 k.1)

  -- draws one after the other
  abbrev pub filed_beside : KeptWithYears → List YearCall → List Float
  filed_beside = calls.filed files_beside keeps_beside

  abbrev pub kept_beside : KeptWithYears → List YearCall → KeptWithYears
  kept_beside = calls.left keeps_beside

  -- ---- where an opening's result is 0, whatever stands in the lines lent, one for each started year of the term, and whatever draws follow
  pub record SumsUpAtTheDoor (t : Terms) (k : KeptWithYears) (draws : List YearCall) : Type 0 where
    -- a lookup gives 0 and the line that the definition gives of the rows filed, for every year with a row among them
    pub looks_up : (year : ℕ) (before : List Float) → 0 < year → year ≤ years_begun (filed_beside k draws)
        → lookup_answer (kept_beside k draws) year before ≡ (0, year_places (year_line (filed_beside k draws) year))
    -- and 14, with the lent places as they were, for every other
    pub fourteen : (year : ℕ) (before : List Float) → (year ≡ 0) ⊎ (years_begun (filed_beside k draws) < year) → lookup_answer (kept_beside k draws) year before ≡ (14, before)
    -- once nothing is due, the rows filed are the loan's, and repay it
    pub repays : due way (in_hand (kept_beside k draws).0) ≡ 0 → (filed_beside k draws ≡ rows way (rows_due way t) (in_hand k.0)) × Repaid t.principal (rows_due way t) (filed_beside k draws)

  abbrev pub SumsUpOnceOpen : Terms → ℕ × Kept → Type 0
  SumsUpOnceOpen t answer = answer.0 ≡ 0 → (years : List Float) → started_years t.term * year_width ≤ length years → (draws : List YearCall) → SumsUpAtTheDoor t (answer.1, years) draws
