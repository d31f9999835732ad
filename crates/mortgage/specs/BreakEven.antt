-- When refinancing breaks even. Definitions only. Assumes nothing.
use Rattle.std.specs.Prelude.{ℕ, List, [], ◌∷◌, Float}
use Rattle.std.specs.Float.{binary64}
use Rattle.std.specs.Float.Ieee.{sub, div}
use Rattle.numbers.specs.Whole.{ceiling}
use Rattle.refusals.specs.Outcome.{Outcome, Line, line, line_of_two, judged}
use Rattle.refusals.specs.Table.{bad_amount, bad_term, bad_number, no_break_even}
use Rattle.records.specs.declared.Terms.{Terms}
use Rattle.mortgage.specs.Payment.{payment}

-- what the new loan's payment saves each month
unfoldable pub saving : Terms → Terms → Float
saving old new = sub binary64 (payment old) (payment new)

-- "Break-even is the ceiling of cost/saving; NaN or below zero gives 0, too large gives 4,294,967,295."
unfoldable pub break_even_month : Terms → Terms → Float → ℕ
break_even_month old new cost = ceiling (div binary64 cost (saving old new))

-- the place of 1 and 2 is 0 for the old loan and 1 for the new
abbrev pub break_even_lines : Terms → Terms → Float → List Line
break_even_lines old new cost =
    line_of_two 1 (bad_amount old.principal) (bad_amount new.principal)
    ∷ line_of_two 2 (bad_term old.term) (bad_term new.term)
    ∷ line 9 (bad_number cost)
    ∷ line 13 (no_break_even (saving old new) (break_even_month old new cost) new.term)
    ∷ []

-- the months elapsed are taken and nothing is read of them
unfoldable pub refinance_breakeven : Terms → Terms → Float → ℕ → Outcome ℕ
refinance_breakeven old new cost elapsed = judged (break_even_lines old new cost) (break_even_month old new cost)
