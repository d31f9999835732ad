-- A pool's loans, lent as kind 1 records end to end, and the lines of the table that every function over a pool meets. Definitions only. Assumes nothing.
use Rattle.std.specs.Prelude.{ℕ, max, Bool, false, cond, not, ◌||◌, List, [], ◌∷◌, map, eqb, length, get_or}
use Rattle.refusals.specs.Outcome.{Line, alone}
use Rattle.refusals.specs.Table.{bad_amount, bad_term, too_many_loans, bad_length}
use Rattle.records.specs.declared.Terms.{Terms}
use Rattle.records.specs.Kinds.{terms_kind, terms_size, terms_in}
use Rattle.records.specs.EndToEnd.{record_count, record_at, of_each}

-- how many loans the bytes hold, and the loan i of them, from 0
abbrev pub loan_count : List ℕ → ℕ
loan_count bytes = record_count terms_size bytes

unfoldable pub loan_at : List ℕ → ℕ → Terms
loan_at bytes i = terms_in (record_at terms_size bytes i)

-- 11: a total length that is no multiple of a record's, at 0; a record of another kind, at its index
unfoldable pub other_kind : List ℕ → ℕ → Bool
other_kind bytes i = not (eqb (get_or (record_at terms_size bytes i) 0 0) terms_kind)

unfoldable pub bad_records : List ℕ → List Bool
bad_records bytes = alone (bad_length terms_size (length bytes)) (of_each (other_kind bytes) (loan_count bytes))

unfoldable pub any_of : List Bool → Bool
any_of [] = false
any_of (b ∷ bs) = b || any_of bs

-- "A record of unknown kind or wrong length is 11 and nothing else": then no other line has a cause
abbrev pub unless_bad : List ℕ → List Bool → List Bool
unless_bad bytes causes = cond (any_of (bad_records bytes)) [] causes

-- the longest term of all that is lent; an empty pool has no month
unfoldable pub longest : List Terms → ℕ
longest [] = 0
longest (t ∷ ts) = max t.term (longest ts)

abbrev pub loans_in : List ℕ → List Terms
loans_in bytes = of_each (loan_at bytes) (loan_count bytes)

-- 1 and 2 with the loan's index, 3 where it is asked, 7 for more than 64 loans, 11
abbrev pub pool_lines : List ℕ → Bool → List Line
pool_lines bytes no_room =
    record { number = 1; causes = unless_bad bytes (map (λ (t : Terms). bad_amount t.principal) (loans_in bytes)) }
    ∷ record { number = 2; causes = unless_bad bytes (map (λ (t : Terms). bad_term t.term) (loans_in bytes)) }
    ∷ record { number = 3; causes = unless_bad bytes (no_room ∷ []) }
    ∷ record { number = 7; causes = unless_bad bytes (too_many_loans (loan_count bytes) ∷ []) }
    ∷ record { number = 11; causes = bad_records bytes }
    ∷ []
