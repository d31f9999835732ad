-- The lines of the table as a function meets them that reads a record first. "A record of unknown kind or wrong length is 11 and nothing else", and a code outside its set is 11 in its
-- turn. Definitions only. Assumes nothing.
use Rattle.std.specs.Prelude.{Bool, true, cond, ◌||◌, List, [], ◌∷◌, ◌++◌, ℕ, Float}
use Rattle.refusals.specs.Outcome.{Line, line, line_of_two}
use Rattle.refusals.specs.Table.{bad_record, bad_code}
use Rattle.records.specs.Kinds.{terms_kind, terms_size, terms_in, bond_kind, bond_size, bond_in, swap_kind, swap_size, swap_in, dated_swap_kind, dated_swap_size, dated_swap_in}
use Rattle.mortgage.specs.Terms.{terms_lines}
use Rattle.mortgage.specs.Kinds.{Way}
use Rattle.mortgage.specs.Openings.{opening_lines}
use Rattle.mortgage.specs.BreakEven.{break_even_lines}
use Rattle.bond.specs.Codes.{last_code as last_frequency}
use Rattle.swaps.specs.Codes.{last_code as last_day_count}
use Rattle.swaps.specs.Swap.{swap_lines}
use Rattle.swaps.specs.DatedSwap.{uncoded_dated_lines, dated_lines}
use Rattle.senyolanda.specs.Bonds.{uncoded_lines}
use Rattle.senyolanda.specs.Swaps.{swap_of, dated_swap_of}

-- 11 and nothing else where the record is bad, else the lines of what it holds
abbrev pub after_record : Bool → List Line → List Line
after_record bad lines = cond bad (line 11 true ∷ []) lines

-- of what it holds with a code: where that is outside its set, 11 stands in its turn behind the others
abbrev pub after_code : Bool → List Line → List Line → List Line
after_code bad others lines = cond bad (others ++ line 11 true ∷ []) lines

-- ---- a loan's record
abbrev pub loan_record_lines : List ℕ → List Line
loan_record_lines bytes = after_record (bad_record terms_kind terms_size bytes) (terms_lines (terms_in bytes))

-- of a loan of any kind
abbrev pub kind_record_lines : Way → List ℕ → List Line
kind_record_lines way bytes = after_record (bad_record terms_kind terms_size bytes) (opening_lines way (terms_in bytes))

-- two of them: the old loan's at 0, the new one's at 1
abbrev pub break_even_record_lines : List ℕ → List ℕ → Float → List Line
break_even_record_lines old new cost =
    cond (bad_record terms_kind terms_size old || bad_record terms_kind terms_size new) (line_of_two 11 (bad_record terms_kind terms_size old) (bad_record terms_kind terms_size new) ∷ [])
    (break_even_lines (terms_in old) (terms_in new) cost)

-- ---- a bond's record, with a yield or a market price beside it: of an unknown frequency no periods are known
abbrev pub bond_record_lines : List ℕ → Float → List Line → List Line
bond_record_lines bytes beside lines =
    after_record (bad_record bond_kind bond_size bytes)
    (after_code (bad_code last_frequency (bond_in bytes).frequency) (uncoded_lines (bond_in bytes) beside) lines)

-- ---- a swap's record, over a curve
abbrev pub swap_record_lines : List ℕ → List Float → List Float → List Line
swap_record_lines bytes tenors zeros =
    after_record (bad_record swap_kind swap_size bytes)
    (after_code (bad_code last_day_count (swap_in bytes).count) (swap_lines (swap_of (swap_in bytes)) tenors zeros) (swap_lines (swap_of (swap_in bytes)) tenors zeros))

-- ---- a dated swap's: an unknown day count is 11 in its turn, before 15
abbrev pub dated_swap_record_lines : List ℕ → List Float → List Float → List Line
dated_swap_record_lines bytes tenors zeros =
    after_record (bad_record dated_swap_kind dated_swap_size bytes)
    (after_code (bad_code last_day_count (dated_swap_in bytes).count) (uncoded_dated_lines (dated_swap_of (dated_swap_in bytes)) tenors zeros) (dated_lines (dated_swap_of (dated_swap_in bytes)) tenors zeros))
