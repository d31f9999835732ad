-- Document 01's table, of the readers: refusal 11 at place 0, and no other, is given exactly when the kind is unknown, the length wrong or a code outside its set. Assumes nothing.
use mathlib.Core.Bool.{Bool, false, ◌||◌}
use mathlib.Core.List.{List, [], ◌∷◌}
use Prim.Native.Nat.{ℕ}
use Rattle.refusals.specs.Outcome.{ExactlyWhen, above, line, judged}
use Rattle.refusals.specs.Table.{bad_record, bad_code}
use Rattle.refusals.proofs.Judging.{exactly}
use Rattle.records.specs.Kinds.{terms_kind, terms_size, terms_in, read_terms, bond_kind, bond_size, bond_in, read_bond, read_bond_uncoded, row_kind, row_size, row_in, read_row, swap_kind, swap_size, swap_in, read_swap, read_swap_uncoded, dated_swap_kind, dated_swap_size, dated_swap_in, read_dated_swap, read_dated_swap_uncoded}
use Rattle.refusals.proofs.Causes.{or_false}

-- what is judged by line 11 alone
by_11 : {Value : Type 0} (v : Value) (bad : Bool) → ExactlyWhen (line 11 bad ∷ []) (judged (line 11 bad ∷ []) v)
unfolding above
by_11 v bad = exactly v (line 11 bad ∷ []) tt

-- with one code, whose set is the last that is asked about
by_code : {Value : Type 0} (v : Value) (code bad : Bool) → ExactlyWhen (line 11 (code || bad) ∷ []) (judged (line 11 ((code || false) || bad) ∷ []) v)
by_code v code bad = rw (or_false code) (by_11 v (code || bad))

pub read_terms_exactly : (bytes : List ℕ) → ExactlyWhen (line 11 (bad_record terms_kind terms_size bytes) ∷ []) (read_terms bytes)
unfolding read_terms
read_terms_exactly bytes = by_11 (terms_in bytes) (bad_record terms_kind terms_size bytes)

pub read_row_exactly : (bytes : List ℕ) → ExactlyWhen (line 11 (bad_record row_kind row_size bytes) ∷ []) (read_row bytes)
unfolding read_row
read_row_exactly bytes = by_11 (row_in bytes) (bad_record row_kind row_size bytes)

pub read_bond_exactly : (bytes : List ℕ) → ExactlyWhen (line 11 (bad_code 3 (bond_in bytes).frequency || bad_record bond_kind bond_size bytes) ∷ []) (read_bond bytes)
unfolding read_bond bond_in
read_bond_exactly bytes = by_code (bond_in bytes) (bad_code 3 (bond_in bytes).frequency) (bad_record bond_kind bond_size bytes)

pub read_swap_exactly : (bytes : List ℕ) → ExactlyWhen (line 11 (bad_code 2 (swap_in bytes).count || bad_record swap_kind swap_size bytes) ∷ []) (read_swap bytes)
unfolding read_swap swap_in
read_swap_exactly bytes = by_code (swap_in bytes) (bad_code 2 (swap_in bytes).count) (bad_record swap_kind swap_size bytes)

pub read_dated_swap_exactly : (bytes : List ℕ) → ExactlyWhen (line 11 (bad_code 2 (dated_swap_in bytes).count || bad_record dated_swap_kind dated_swap_size bytes) ∷ []) (read_dated_swap bytes)
unfolding read_dated_swap dated_swap_in
read_dated_swap_exactly bytes = by_code (dated_swap_in bytes) (bad_code 2 (dated_swap_in bytes).count) (bad_record dated_swap_kind dated_swap_size bytes)

-- whatever the code
pub read_bond_uncoded_exactly : (bytes : List ℕ) → ExactlyWhen (line 11 (bad_record bond_kind bond_size bytes) ∷ []) (read_bond_uncoded bytes)
unfolding read_bond_uncoded
read_bond_uncoded_exactly bytes = by_11 (bond_in bytes) (bad_record bond_kind bond_size bytes)

pub read_swap_uncoded_exactly : (bytes : List ℕ) → ExactlyWhen (line 11 (bad_record swap_kind swap_size bytes) ∷ []) (read_swap_uncoded bytes)
unfolding read_swap_uncoded
read_swap_uncoded_exactly bytes = by_11 (swap_in bytes) (bad_record swap_kind swap_size bytes)

pub read_dated_swap_uncoded_exactly : (bytes : List ℕ) → ExactlyWhen (line 11 (bad_record dated_swap_kind dated_swap_size bytes) ∷ []) (read_dated_swap_uncoded bytes)
unfolding read_dated_swap_uncoded
read_dated_swap_uncoded_exactly bytes = by_11 (dated_swap_in bytes) (bad_record dated_swap_kind dated_swap_size bytes)
