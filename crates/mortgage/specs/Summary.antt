-- Draws with year-end lines one after the other, of a loan of any kind, each handed the loan and the lines that the one before left: what they file and what they leave, and that lines sum up filed rows.
-- Definitions only. Assumes nothing.
use Rattle.std.specs.Prelude.{◌≡◌, ◌⊎◌, List, ℕ, ◌-◌, ◌*◌, ◌/◌, ◌<◌, ◌≤◌, length, take, Float}
use Rattle.refusals.specs.Outcome.{refused, accepted}
use Rattle.steps.specs.Calls as calls
use Rattle.mortgage.specs.declared.Loan.{Loan}
use Rattle.mortgage.specs.Kinds.{Way}
use Rattle.mortgage.specs.Row.{width}
use Rattle.mortgage.specs.Demand3.{rows_in, handed_back}
use Rattle.mortgage.specs.Years.{started_years, year_line, year_at}
use Rattle.mortgage.specs.YearDraws.{drawn_with_years, filled_with_years, summed, looked_up}

-- what is kept between draws: the loan in hand, and the lines as they were left
abbrev pub Kept : Type 0
Kept = Loan × List Float

-- the years that rows filed from month 1 on begin
abbrev pub years_begun : List Float → ℕ
years_begun numbers = started_years (length numbers / width)

module _ (way : Way) where
  -- the numbers that one draw wrote, read off its room as the draw leaves it
  unfoldable pub wrote_with_years : Kept → List Float → List Float
  wrote_with_years k room = take (rows_in (drawn_with_years way k.0 room k.1) * width) (filled_with_years way k.0 room k.1)

  abbrev pub kept_after : Kept → List Float → Kept
  kept_after k room = (handed_back (drawn_with_years way k.0 room k.1) k.0, summed way k.0 room k.1)

  -- draws into rooms of any sizes, refused ones among them: what they file, and what is kept after the last
  abbrev pub filed_with_years : Kept → List (List Float) → List Float
  filed_with_years = calls.filed wrote_with_years kept_after

  abbrev pub kept : Kept → List (List Float) → Kept
  kept = calls.left kept_after

  -- ---- "Lookup by year answers from the summary and matches the rows": of rows filed from month 1 on
  pub record SumsUp (k : Kept) (numbers : List Float) : Type 0 where
    -- the line of every year with a row is the definition's, and a lookup gives it
    pub line_is : (year : ℕ) → 0 < year → year ≤ years_begun numbers → year_at k.1 (year - 1) ≡ year_line numbers year
    pub year_found : (year : ℕ) → 0 < year → year ≤ years_begun numbers → looked_up way k.0 k.1 year ≡ accepted (year_line numbers year)
    -- and every other year is refused
    pub year_refused : (year : ℕ) → (year ≡ 0) ⊎ (years_begun numbers < year) → looked_up way k.0 k.1 year ≡ refused 14 0
