-- The program's listing of a schedule, from the bytes that it was handed: a header, a line for each row, and how many rows were drawn and are left; or one line that says the refusal.
-- Definitions only. Assumes nothing.
use Rattle.std.specs.Prelude.{ℕ, List, [], ◌∷◌, ◌++◌, Float, length, drop}
use Rattle.std.specs.Float.{binary64}
use Rattle.std.specs.Float.Ieee.{to_bits}
use Rattle.refusals.specs.Outcome.{Outcome, refused, accepted, and_then}
use Rattle.records.specs.declared.Terms.{Terms}
use Rattle.records.specs.declared.Row.{Row}
use Rattle.records.specs.Kinds.{read_terms}
use Rattle.mortgage.specs.declared.Loan.{Loan}
use Rattle.mortgage.specs.Payment.{opened}
use Rattle.mortgage.specs.Level.{due, row_of, next_of, after}
use Rattle.steps.specs.Steps.{written}
use Rattle.listing.specs.Digits.{hex_digits, decimal}

-- "month payment principal interest balance", and a line's end
abbrev pub header : List ℕ
header = 109 ∷ 111 ∷ 110 ∷ 116 ∷ 104 ∷ 32 ∷ 112 ∷ 97 ∷ 121 ∷ 109 ∷ 101 ∷ 110 ∷ 116 ∷ 32 ∷ 112 ∷ 114 ∷ 105 ∷ 110 ∷ 99 ∷ 105 ∷ 112 ∷ 97 ∷ 108 ∷ 32 ∷ 105 ∷ 110 ∷ 116 ∷ 101 ∷ 114 ∷ 101 ∷ 115 ∷ 116 ∷ 32 ∷ 98 ∷ 97 ∷ 108 ∷ 97 ∷ 110 ∷ 99 ∷ 101 ∷ 10 ∷ []

abbrev pub line_end : List ℕ
line_end = 10 ∷ []

-- a space, and a float's pattern as 16 hexadecimal digits
unfoldable pub spaced : Float → List ℕ
spaced x = 32 ∷ hex_digits 16 (to_bits binary64 x)

-- a row's line
unfoldable pub row_line : Row → List ℕ
row_line r = decimal r.month ++ spaced r.payment ++ spaced r.principal ++ spaced r.interest ++ spaced r.balance ++ line_end

-- the lines of the next k rows of a loan
abbrev pub row_lines : ℕ → Loan → List ℕ
row_lines k l = written next_of (λ (m : Loan). row_line (row_of m)) k l

-- "rows N left M"
unfoldable pub footer : ℕ → ℕ → List ℕ
footer rows left = (114 ∷ 111 ∷ 119 ∷ 115 ∷ 32 ∷ []) ++ decimal rows ++ (32 ∷ 108 ∷ 101 ∷ 102 ∷ 116 ∷ 32 ∷ []) ++ decimal left ++ line_end

-- "refused K at P"
unfoldable pub refused_line : ℕ → ℕ → List ℕ
refused_line number place = (114 ∷ 101 ∷ 102 ∷ 117 ∷ 115 ∷ 101 ∷ 100 ∷ 32 ∷ []) ++ decimal number ++ (32 ∷ 97 ∷ 116 ∷ 32 ∷ []) ++ decimal place ++ line_end

-- a loan drawn to its end
unfoldable pub loan_lines : Loan → List ℕ
loan_lines l = header ++ row_lines (due l) l ++ footer (due l) (due (after (due l) l))

-- the lines of the loan that a record opens
unfoldable pub listed : List ℕ → Outcome (List ℕ)
listed bytes = and_then (read_terms bytes) (λ (t : Terms). and_then (opened t) (λ (l : Loan). accepted (loan_lines l)))

-- how many bytes they are
unfoldable pub listed_size : List ℕ → Outcome ℕ
listed_size bytes = and_then (listed bytes) (λ (lines : List ℕ). accepted (length lines))

-- lent memory after them: they stand at its start, and what was behind them stays. A refusal leaves all of it
unfoldable pub lines_over : Outcome (List ℕ) → List ℕ → List ℕ
lines_over (refused k p) before = before
lines_over (accepted lines) before = lines ++ drop (length lines) before

-- what the program writes: the lines, or one line that says the refusal
unfoldable pub saying : Outcome (List ℕ) → List ℕ
saying (refused k p) = refused_line k p
saying (accepted lines) = lines

unfoldable pub listing : List ℕ → List ℕ
listing bytes = saying (listed bytes)
