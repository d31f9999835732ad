-- Lines 4, 5 and 6 of a curve, asked one after the other, and a line after them. Assumes nothing.
use mathlib.Core.Path.{◌≡◌, refl, sym, ap, ◌∙◌}
use mathlib.Core.Bool.{Bool, true, false, not, ◌||◌}
use mathlib.Core.List.{List, [], ◌∷◌, ◌++◌}
use Prim.Native.Nat.{ℕ, ◌<◌, ◌≤◌}
use native.Mathlib.Omega.{arith}
use lib.Dec.{eqb, ltb}
use lib.ListN.{length}
use lib.Ieee.{Float}
use borrow.Author.Tests.{eq-eqb, ne_eqb, eqb-false, ltb-false}
use Rattle.refusals.specs.Outcome.{Outcome, refused, accepted, Line, line, judged}
use Rattle.refusals.specs.Table.{unequal, bad_knot_count, bad_knots}
use Rattle.refusals.specs.declared.Refusal.{Refusal}
use Rattle.refusals.proofs.Verdicts.{verdict, refused_by, accepted_by}
use Rattle.refusals.proofs.OneCause.{caused, clear, all_clear}
use Rattle.refusals.proofs.Judging.{none_is, passed, followed, judged_in_parts}
use Rattle.curves.specs.Curve.{curve_lines}
use Rattle.std.specs.declared.result.Result.TheVariants.{Ok, Err}
use Rattle.std.specs.declared.result.Result.{Result}
use Rattle.refusals.specs.Answers.{number, outcome}

different : (m n : ℕ) → (m ≡ n → ⊥) → unequal m n ≡ true
unfolding unequal
different m n h = ap not (ne_eqb m n h)

equal : (m n : ℕ) → m ≡ n → unequal m n ≡ false
unfolding unequal
equal m n h = ap not (eq-eqb m n h)

-- what line 5 leaves
some_knots : (a b : Bool) → (a || b) ≡ false → (a ≡ false) × (b ≡ false)
some_knots true b e = (e, absurd (let z : ◌≡◌ {A = ℕ} 0 1 = cc in omega arith))
some_knots false b e = (refl, e)

pub at_most_120 : (n : ℕ) → bad_knot_count n ≡ false → n ≤ 120
unfolding bad_knot_count
at_most_120 n e = ltb-false 120 n (some_knots (eqb n 0) (ltb 120 n) e).1

pub at_least_one : (n : ℕ) → bad_knot_count n ≡ false → 0 < n
unfolding bad_knot_count
at_least_one n e = above_none n (eqb-false n 0 (some_knots (eqb n 0) (ltb 120 n) e).0)
  where
    above_none : (n : ℕ) → (n ≡ 0 → ⊥) → 0 < n
    above_none n h = omega arith

module _ (times rates : List Float) where
  abbrev knot_line : Line
  knot_line = record { number = 6; causes = bad_knots times rates }

  pub refused_4 : (length times ≡ length rates → ⊥) → refused 4 0 ≡ verdict (curve_lines times rates)
  refused_4 h = caused tt 4 _ _ (different _ _ h)

  after_4 : length times ≡ length rates → verdict (line 5 (bad_knot_count (length times)) ∷ knot_line ∷ []) ≡ verdict (curve_lines times rates)
  after_4 h = clear tt 4 _ _ (equal _ _ h)

  pub refused_5 : length times ≡ length rates → bad_knot_count (length times) ≡ true → refused 5 0 ≡ verdict (curve_lines times rates)
  refused_5 h b = caused tt 5 _ (knot_line ∷ []) b ∙ after_4 h

  pub by_line_6 : length times ≡ length rates → bad_knot_count (length times) ≡ false → verdict (knot_line ∷ []) ≡ verdict (curve_lines times rates)
  by_line_6 h b = clear tt 5 _ (knot_line ∷ []) b ∙ after_4 h

  -- ---- and a line k after them
  module _ (k : ℕ) (b : Bool) where
    pub refused_by_curve : (j p : ℕ) → refused j p ≡ verdict (curve_lines times rates) → refused j p ≡ verdict (curve_lines times rates ++ line k b ∷ [])
    refused_by_curve j p e = ap (λ (o : Outcome Unit). followed o (verdict (line k b ∷ []))) e ∙ sym (judged_in_parts (curve_lines times rates) (line k b ∷ []) tt)

    pub by_last_line : accepted tt ≡ verdict (curve_lines times rates) → verdict (line k b ∷ []) ≡ verdict (curve_lines times rates ++ line k b ∷ [])
    by_last_line e = ap (λ (o : Outcome Unit). followed o (verdict (line k b ∷ []))) e ∙ sym (judged_in_parts (curve_lines times rates) (line k b ∷ []) tt)

  -- ---- what is accepted has at most 120 knots
  pub accepted_at_most_120 : (ms : List Line) → accepted tt ≡ verdict (curve_lines times rates ++ ms) → length times ≤ 120
  accepted_at_most_120 ms e = at_most_120 (length times) (none_is (passed tt tt _ _ (passed tt tt _ _ e).1).0 0)

  pub accepted_of_120 : (ms : List Line) (x : Result Unit Refusal) → outcome x ≡ verdict (curve_lines times rates ++ ms) → x ≡ (Ok tt) → length times ≤ 120
  accepted_of_120 ms x e h = accepted_at_most_120 ms (sym (ap outcome h) ∙ e)

  -- ---- the answer of a function that asks line 7 after the curve: the verdict's refusal, or the value
  module _ {Value : Type 0} (v : Value) (x : Result Unit Refusal) (asked bad : Bool) (is_asked : asked ≡ bad) (judge : outcome x ≡ verdict (curve_lines times rates ++ line 7 asked ∷ [])) where
    by_bad : outcome x ≡ verdict (curve_lines times rates ++ line 7 bad ∷ [])
    by_bad = judge ∙ ap (λ (b : Bool). verdict (curve_lines times rates ++ line 7 b ∷ [])) is_asked

    pub answer_refused : (r : Refusal) → x ≡ Err r → refused (number r.cause) r.place ≡ judged (curve_lines times rates ++ line 7 bad ∷ []) v
    answer_refused r h = refused_by _ v x r h by_bad

    pub answer_given : (w : Value) → w ≡ v → x ≡ (Ok tt) → accepted w ≡ judged (curve_lines times rates ++ line 7 bad ∷ []) v
    answer_given w e h = ap accepted e ∙ accepted_by _ v x h by_bad

-- what is cited where lines 4, 5 and 6 are asked one after the other
pub ruleset line_by_line = (refused_4, refused_5, by_line_6, at_most_120, at_least_one)

pub ruleset line_after_them = (caused, all_clear, by_last_line)
