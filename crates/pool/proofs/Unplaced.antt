-- Every place is given as it is, where a u32 holds the number of loans. Assumes nothing.
use mathlib.Core.Path.{◌≡◌, refl, ap}
use mathlib.Core.Bool.{Bool, true, false, cond}
use mathlib.Core.List.{List, [], ◌∷◌, map}
use Prim.Native.Nat.{ℕ, suc, ◌+◌, ◌≤◌, min}
use native.Mathlib.Omega.{arith}
use Rattle.refusals.specs.Table.{too_many_loans}
use lib.ListN.{length, length-map}
use Rattle.numbers.specs.Whole.{largest}
use Rattle.refusals.specs.Outcome.{Outcome, refused, accepted, alone, first_or, judged}
use Rattle.records.specs.declared.Terms.{Terms}
use Rattle.pool.specs.Loans.{loan_count, loan_at, other_kind, bad_records, any_of, unless_bad, loans_in, pool_lines}
use Rattle.refusals.specs.Places.{placed}
use Rattle.records.specs.EndToEnd.{of_each}
use Rattle.records.proofs.EndToEnd.{length_each}
use Rattle.pool.proofs.Lines.{principals, terms}

as_it_is : {Value : Type 0} (k p : ℕ) (bs : List Bool) (rest : Outcome Value) → p + length bs ≤ 4294967295 → placed rest ≡ rest → placed (first_or k p bs rest) ≡ first_or k p bs rest
unfolding first_or placed
as_it_is k p [] rest h e = e
as_it_is k p (true ∷ bs) rest h e =
    let m : min p largest ≡ p = omega arith in
    ap (refused k) m
as_it_is k p (false ∷ bs) rest h e = as_it_is k (suc p) bs rest (omega arith) e

at_most_alone : (b : Bool) (cs : List Bool) (n : ℕ) → 1 ≤ n → length cs ≤ n → length (alone b cs) ≤ n
at_most_alone b [] n h g = h
at_most_alone b (c ∷ cs) n h g = g

at_most_unless : (b : Bool) (cs : List Bool) (n : ℕ) → length cs ≤ n → length (cond b [] cs) ≤ n
at_most_unless true cs n h = omega arith
at_most_unless false cs n h = h

module _ (bytes : List ℕ) (few : loan_count bytes ≤ 4294967295) where
  of_each_lem : (cause : Terms → Bool) → length (map cause (loans_in bytes)) ≤ 4294967295
  of_each_lem cause = omega (arith, length-map (loans_in bytes) cause, length_each (loan_at bytes) (loan_count bytes))

  of_records : length (bad_records bytes) ≤ 4294967295
  unfolding bad_records
  of_records = at_most_alone _ (of_each (other_kind bytes) (loan_count bytes)) 4294967295 (omega arith) (omega (arith, length_each (other_kind bytes) (loan_count bytes)))

  within : (causes : List Bool) → length causes ≤ 4294967295 → 0 + length (unless_bad bytes causes) ≤ 4294967295
  within causes h = omega (arith, at_most_unless (any_of (bad_records bytes)) causes 4294967295 h)

  pub places_as_they_are : {Value : Type 0} (no_room : Bool) (v : Value) → placed (judged (pool_lines bytes no_room) v) ≡ judged (pool_lines bytes no_room) v
  unfolding judged placed
  places_as_they_are no_room v =
      as_it_is 1 0 (unless_bad bytes (principals bytes)) _ (within (principals bytes) (of_each_lem _))
      (as_it_is 2 0 (unless_bad bytes (terms bytes)) _ (within (terms bytes) (of_each_lem _))
      (as_it_is 3 0 (unless_bad bytes (no_room ∷ [])) _ (within (no_room ∷ []) (omega arith))
      (as_it_is 7 0 (unless_bad bytes (too_many_loans (loan_count bytes) ∷ [])) _ (within (too_many_loans (loan_count bytes) ∷ []) (omega arith))
      (as_it_is 11 0 (bad_records bytes) (accepted v) (omega (arith, of_records)) refl))))
