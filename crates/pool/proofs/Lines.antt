-- The lines of the table that a pool meets: line 11 before all others, then 1, 2, 3 and 7; and what is known of a pool that they accept. Assumes nothing.
use mathlib.Core.Path.{◌≡◌, sym, ap, ◌∙◌}
use mathlib.Core.Bool.{Bool, true, false}
use mathlib.Core.List.{List, [], ◌∷◌, map}
use Prim.Native.Nat.{ℕ}
use Rattle.refusals.specs.Outcome.{Outcome, refused, accepted, line, first_or, judged}
use Rattle.refusals.specs.Table.{bad_amount, bad_term, too_many_loans}
use Rattle.refusals.proofs.Verdicts.{verdict}
use Rattle.records.specs.declared.Terms.{Terms}
use Rattle.pool.specs.Loans.{loan_count, bad_records, any_of, loans_in, pool_lines}
use Rattle.refusals.specs.Places.{placed}
use Rattle.pool.proofs.Placing.{by_line, none_caused, some_caused, past, stopped}

abbrev pub principals : List ℕ → List Bool
principals bytes = map (λ (t : Terms). bad_amount t.principal) (loans_in bytes)

abbrev pub terms : List ℕ → List Bool
terms bytes = map (λ (t : Terms). bad_term t.term) (loans_in bytes)

abbrev free : Outcome Unit
free = accepted tt

-- lines 3 and 7
abbrev Sizes : List ℕ → Bool → Outcome Unit
Sizes bytes no_room = judged (line 3 no_room ∷ line 7 (too_many_loans (loan_count bytes)) ∷ []) tt

module _ (bytes : List ℕ) (no_room : Bool) where
  -- ---- a bad record alone decides
  bad_lines : any_of (bad_records bytes) ≡ true → by_line 11 0 (bad_records bytes) ≡ verdict (pool_lines bytes no_room)
  unfolding judged first_or
  bad_lines e = rw (e)

  pub refused_11 : (n q : ℕ) → refused n q ≡ placed (by_line 11 0 (bad_records bytes)) → refused n q ≡ placed (verdict (pool_lines bytes no_room))
  refused_11 n q e = e ∙ ap placed (bad_lines (some_caused 11 0 (bad_records bytes) n q e))

  -- ---- and where there is none, the other lines
  good_lines : any_of (bad_records bytes) ≡ false → first_or 1 0 (principals bytes) (first_or 2 0 (terms bytes) (Sizes bytes no_room)) ≡ verdict (pool_lines bytes no_room)
  unfolding judged
  good_lines e = rw (e, past 11 0 (bad_records bytes) free e)

  module _ (good : any_of (bad_records bytes) ≡ false) where
    pub refused_1 : (n q : ℕ) → refused n q ≡ placed (by_line 1 0 (principals bytes)) → refused n q ≡ placed (verdict (pool_lines bytes no_room))
    refused_1 n q e = stopped 1 0 (principals bytes) (first_or 2 0 (terms bytes) (Sizes bytes no_room)) n q e ∙ ap placed (good_lines good)

    module _ (e₁ : accepted tt ≡ placed (by_line 1 0 (principals bytes))) where
      after_1 : first_or 2 0 (terms bytes) (Sizes bytes no_room) ≡ verdict (pool_lines bytes no_room)
      after_1 = sym (past 1 0 (principals bytes) (first_or 2 0 (terms bytes) (Sizes bytes no_room)) (none_caused 1 0 (principals bytes) e₁)) ∙ good_lines good

      pub refused_2 : (n q : ℕ) → refused n q ≡ placed (by_line 2 0 (terms bytes)) → refused n q ≡ placed (verdict (pool_lines bytes no_room))
      refused_2 n q e = stopped 2 0 (terms bytes) (Sizes bytes no_room) n q e ∙ ap placed after_1

      pub by_sizes : accepted tt ≡ placed (by_line 2 0 (terms bytes)) → placed (Sizes bytes no_room) ≡ placed (verdict (pool_lines bytes no_room))
      by_sizes e₂ = ap placed (sym (past 2 0 (terms bytes) (Sizes bytes no_room) (none_caused 2 0 (terms bytes) e₂)) ∙ after_1)
