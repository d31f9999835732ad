-- Demand 3, as the user says it, for a loan of any kind: of the numbers that a sequence of draws, each handing the loan back as received, wrote into its rooms. Definitions only. Assumes nothing.
use Rattle.std.specs.Prelude.{◌≡◌, List, ℕ, ◌*◌, take, Float}
use Rattle.refusals.specs.Outcome.{Outcome, refused, accepted}
use Rattle.records.specs.declared.Terms.{Terms}
use Rattle.steps.specs.Calls as calls
use Rattle.steps.specs.Repaid as of_width
use Rattle.mortgage.specs.declared.Loan.{Loan}
use Rattle.mortgage.specs.declared.draws.Portion.{Portion}
use Rattle.mortgage.specs.Kinds.{Way, course_of}
use Rattle.mortgage.specs.Row.{width, principal_place, balance_place}
use Rattle.mortgage.specs.Month.{due}
use Rattle.mortgage.specs.Rows.{rows}
use Rattle.mortgage.specs.Draws.{drawn, filled}

-- ---- a sequence of draws into rooms of any sizes; a refused one writes nothing and hands the loan on as it was
abbrev pub rows_in : Outcome Portion → ℕ
rows_in (refused k p) = 0
rows_in (accepted d) = d.written

abbrev pub handed_back : Outcome Portion → Loan → Loan
handed_back (refused k p) l = l
handed_back (accepted d) l = d.loan

-- n rows of a schedule that repay P
abbrev pub Repaid : Float → ℕ → List Float → Type 0
Repaid = of_width.Repaid width principal_place balance_place

-- "demand 3 takes the same list throughout": one kind, with what it needs, for all the draws
module _ (way : Way) where
  -- the numbers that one draw wrote, read off its room as the draw leaves it
  unfoldable pub wrote : Loan → List Float → List Float
  wrote l room = take (rows_in (drawn way l room) * width) (filled way l room)

  -- and the loan that it hands back
  abbrev pub hands_back : Loan → List Float → Loan
  hands_back l room = handed_back (drawn way l room) l

  -- the numbers that all the draws wrote, in order, and the loan that the last one handed back
  abbrev pub filed : Loan → List (List Float) → List Float
  filed = calls.filed wrote hands_back

  abbrev pub left : Loan → List (List Float) → Loan
  left = calls.left hands_back

  -- the rows due of an opened loan: its months to the one that ends it
  abbrev pub rows_due : Terms → ℕ
  rows_due t = (course_of way t.term).end

  -- drawn to the end in any portions, a loan of these terms files exactly its rows by the row rule, and they repay it
  abbrev pub Repays : Terms → Loan → Type 0
  Repays t l = (rooms : List (List Float)) → due way (left l rooms) ≡ 0 → (filed l rooms ≡ rows way (rows_due t) l) × Repaid t.principal (rows_due t) (filed l rooms)

  -- an opening that is accepted, with a loan that repays
  abbrev pub OpensAndRepays : Terms → Outcome Loan → Type 0
  OpensAndRepays t (refused k p) = ⊥
  OpensAndRepays t (accepted l) = Repays t l
