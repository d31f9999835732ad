-- The lines of cash flows over a curve, asked one after the other, and what is known once they accept: the lists of flows are equally long, and no longer than 1,200, and the curve's tenors rise. Assumes nothing.
use mathlib.Core.Path.{◌≡◌, refl, sym, ap, ◌∙◌}
use mathlib.Core.Bool.{Bool, true, false, not, ◌||◌}
use mathlib.Core.List.{List, [], ◌∷◌, ◌++◌, map}
use Prim.Native.Nat.{ℕ, ◌≤◌}
use lib.Dec.{eqb, ltb}
use lib.ListN.{length, get_or}
use lib.Ieee.{Float}
use borrow.Author.Tests.{eq-eqb, ne_eqb, eqb-true, ltb-false, not-false}
use Rattle.refusals.specs.Outcome.{Outcome, refused, accepted, Line, alone}
use Rattle.refusals.specs.Table.{unequal, too_many_flows, bad_time, bad_number}
use Rattle.refusals.proofs.Judging.{none_is, passed}
use Rattle.refusals.proofs.Verdicts.{verdict}
use Rattle.curves.specs.Segments.{Rising}
use Rattle.curves.specs.Curve.{curve_lines}
use Rattle.refusals.proofs.OneCause.{caused}
use Rattle.curves.proofs.Listing.{accepted_rises}
use Rattle.spread_analytics.specs.Spread.{spread_lines}
use Rattle.spread_analytics.proofs.ItemLine.{item_line}
use Rattle.std.specs.declared.result.Result.TheVariants.{Ok}
use Rattle.std.specs.declared.result.Result.{Result}
use Rattle.refusals.specs.declared.Refusal.{Refusal}
use Rattle.refusals.specs.Answers.{outcome}

-- lines 7 and 9, of the flows
abbrev pub times_line : List Float → Line
times_line times = record { number = 7; causes = alone (too_many_flows (length times)) (map bad_time times) }

abbrev pub amounts_line : Bool → List Float → Line
amounts_line bad amounts = record { number = 9; causes = alone bad (map bad_number amounts) }

-- line 7 as the items are asked
pub times_line_lem : (times : List Float) → verdict (item_line 7 (ltb 1200 (length times)) times ∷ []) ≡ verdict (times_line times ∷ [])
unfolding too_many_flows bad_time bad_number
times_line_lem times = refl

either : (a b : Bool) → (a || b) ≡ false → a ≡ false
either true b e = e
either false b e = refl

-- a single cause that is not there
no_single : (b : Bool) (cs : List Bool) → get_or (alone b cs) 0 false ≡ false → b ≡ false
no_single b [] e = e
no_single b (c ∷ cs) e = either b c e

few : (n : ℕ) → too_many_flows n ≡ false → n ≤ 1200
unfolding too_many_flows
few n e = ltb-false 1200 n e

pub at_most_1200 : (times : List Float) (ls : List Line) → accepted tt ≡ verdict (times_line times ∷ ls) → length times ≤ 1200
at_most_1200 times ls e = few (length times) (no_single _ (map bad_time times) (none_is (passed tt tt (times_line times) ls e).0 0))

same : (m n : ℕ) → unequal m n ≡ false → m ≡ n
unfolding unequal
same m n e = eqb-true m n (not-false (eqb m n) e)

different : (m n : ℕ) → (m ≡ n → ⊥) → unequal m n ≡ true
unfolding unequal
different m n h = ap not (ne_eqb m n h)

pub equal : (m n : ℕ) → m ≡ n → unequal m n ≡ false
unfolding unequal
equal m n h = ap not (eq-eqb m n h)

module _ (times amounts tenors rates : List Float) (bad : Bool) where
  pub refused_4 : (length times ≡ length amounts → ⊥) → refused 4 0 ≡ verdict (spread_lines times amounts tenors rates bad)
  refused_4 h = caused tt 4 _ _ (ap (λ (b : Bool). b || unequal (length tenors) (length rates)) (different _ _ h))

  -- where the flows' lists are equally long, the lines of the curve, and then those of the flows
  pub in_parts : length times ≡ length amounts
      → verdict (curve_lines tenors rates ++ times_line times ∷ amounts_line bad amounts ∷ []) ≡ verdict (spread_lines times amounts tenors rates bad)
  in_parts h = rw (equal _ _ h)

  pub flows_listed : (x : Result Unit Refusal) → x ≡ (Ok tt) → outcome x ≡ verdict (spread_lines times amounts tenors rates bad)
      → (length times ≡ length amounts) × (length times ≤ 1200) × Rising tenors
  flows_listed x h e =
      let after_4 = passed tt tt _ _ (sym (ap outcome h) ∙ e) in
      let after_5 = passed tt tt _ _ after_4.1 in
      let after_6 = passed tt tt _ _ after_5.1 in
      let paired = same _ _ (either _ (unequal (length tenors) (length rates)) (none_is after_4.0 0)) in
      (paired, at_most_1200 times _ after_6.1, accepted_rises tenors rates _ x (e ∙ sym (in_parts paired)) h)

-- a bad price, told by a test of its own
pub by_price : (times amounts tenors rates : List Float) {told bad : Bool} {o : Outcome Unit} → told ≡ bad
    → o ≡ verdict (spread_lines times amounts tenors rates told) → o ≡ verdict (spread_lines times amounts tenors rates bad)
by_price times amounts tenors rates e h = h ∙ ap (λ (b : Bool). verdict (spread_lines times amounts tenors rates b)) e
