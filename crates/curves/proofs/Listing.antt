-- A curve that is accepted is in order; and a list of lookups on one curve: what its verdict says of the list after the call. Assumes nothing.
use mathlib.Core.Path.{◌≡◌, refl, sym, ap, ◌∙◌}
use mathlib.Core.Bool.{Bool, true, false, not, ◌||◌}
use mathlib.Core.List.{List, [], ◌∷◌, ◌++◌, map}
use Prim.Native.Nat.{ℕ, zero, suc, ◌<◌}
use native.Mathlib.Omega.{arith}
use lib.Dec.{eqb}
use lib.ListN.{length, get_or}
use lib.Ieee.{Float, nan, lt}
use lib.Ieee.Scale.{finite}
use borrow.Author.Tests.{eqb-true, not-false}
use Rattle.refusals.specs.declared.Refusal.{Refusal}
use Rattle.refusals.specs.Outcome.{Outcome, accepted, Line, line, judged}
use Rattle.refusals.specs.Table.{unequal, bad_knot_count, bad_knot, bad_knots_after, bad_knots, bad_time}
use Rattle.refusals.specs.Places.{placed}
use Rattle.refusals.proofs.Judging.{none_is, passed}
use Rattle.refusals.proofs.Verdicts.{verdict, refused_alike, accepted_alike}
use Rattle.refusals.proofs.Placing.{none_bad, accepted_itself, refused_itself}
use Rattle.curves.specs.Segments.{knot, Rising}
use Rattle.curves.specs.Curve.{curve_lines}
use Rattle.curves.specs.Lists.{each_lines, each_outcome, or_as_before, each_after}
use Rattle.curves.proofs.CurveLines.{at_least_one}
use Rattle.std.specs.declared.result.Result.TheVariants.{Ok, Err}
use Rattle.std.specs.declared.result.Result.{Result}
use Rattle.refusals.specs.Answers.{number, outcome}

-- ---- a curve that is accepted is in order
-- a knot that has no cause is sound by itself, and later than the one before
later : (bad after : Bool) → (bad || not after) ≡ false → (bad ≡ false) × (after ≡ true)
later true after e = let z : ◌≡◌ {A = ℕ} 0 1 = cc in absurd (omega arith)
later false after e = (refl, not-false after e)

sound_after : (before : Float) (ts rs : List Float) → length ts ≡ length rs → ((q : ℕ) → get_or (bad_knots_after before ts rs) q false ≡ false)
    → (k : ℕ) → k < length ts → (bad_knot (get_or ts k nan) (get_or rs k nan) ≡ false) × (lt (get_or (before ∷ ts) k nan) (get_or ts k nan) ≡ true)
unfolding bad_knots_after
sound_after before [] rs e none k h = absurd (omega arith)
sound_after before (t ∷ ts) [] e none k h = absurd (omega arith)
sound_after before (t ∷ ts) (r ∷ rs) e none zero h = later (bad_knot t r) (lt before t) (none 0)
sound_after before (t ∷ ts) (r ∷ rs) e none (suc k) h = sound_after t ts rs (omega arith) (λ q. none (suc q)) k (omega arith)

pub rising : (times rates : List Float) → length times ≡ length rates → ((q : ℕ) → get_or (bad_knots times rates) q false ≡ false) → Rising times
unfolding bad_knots
rising [] rates e none k h = absurd (omega arith)
rising (t ∷ ts) [] e none k h = absurd (omega arith)
rising (t ∷ ts) (r ∷ rs) e none k h = (sound_after t ts rs (omega arith) (λ q. none (suc q)) k (omega arith)).1

sound : (times rates : List Float) → length times ≡ length rates → ((q : ℕ) → get_or (bad_knots times rates) q false ≡ false)
    → (k : ℕ) → k < length times → bad_knot (knot times k) (knot rates k) ≡ false
unfolding bad_knots
sound [] rates e none k h = absurd (omega arith)
sound (t ∷ ts) [] e none k h = absurd (omega arith)
sound (t ∷ ts) (r ∷ rs) e none zero h = none 0
sound (t ∷ ts) (r ∷ rs) e none (suc k) h = (sound_after t ts rs (omega arith) (λ q. none (suc q)) k (omega arith)).0

equal : (m n : ℕ) → unequal m n ≡ false → m ≡ n
unfolding unequal
equal m n e = eqb-true m n (not-false (eqb m n) e)

module _ (times rates : List Float) (ms : List Line) (e : accepted tt ≡ verdict (curve_lines times rates ++ ms)) where
  abbrev from_5 : accepted tt ≡ verdict (line 5 (bad_knot_count (length times)) ∷ record { number = 6; causes = bad_knots times rates } ∷ ms)
  from_5 = (passed tt tt _ _ e).1

  pub some_knots : 0 < length times
  some_knots = at_least_one (length times) (none_is (passed tt tt _ _ from_5).0 0)

  pub same_length : length times ≡ length rates
  same_length = equal (length times) (length rates) (none_is (passed tt tt _ _ e).0 0)

  pub in_rising_order : Rising times
  in_rising_order = rising times rates same_length (none_is (passed tt tt _ _ (passed tt tt _ _ from_5).1).0)

  pub sound_knots : (k : ℕ) → k < length times → bad_knot (knot times k) (knot rates k) ≡ false
  sound_knots = sound times rates same_length (none_is (passed tt tt _ _ (passed tt tt _ _ from_5).1).0)

-- a curve on which a verdict is Accepted rises, whatever lines come after its own
pub accepted_rises : (times rates : List Float) (ms : List Line) (x : Result Unit Refusal) → outcome x ≡ verdict (curve_lines times rates ++ ms) → x ≡ (Ok tt) → Rising times
accepted_rises times rates ms x e h = in_rising_order times rates ms (sym (ap outcome h) ∙ e)

-- ---- the list after the call
module _ (answer : Float → Float) (times rates asked : List Float) (x : Result Unit Refusal) (e : outcome x ≡ each_outcome times rates asked) where
  pub all_accepted : x ≡ (Ok tt) → accepted tt ≡ verdict (each_lines times rates asked)
  unfolding each_outcome
  all_accepted h = accepted_itself (verdict (each_lines times rates asked)) (sym (ap outcome h) ∙ e)

  pub after_accepted : x ≡ (Ok tt) → (done : List Float) → done ≡ map answer asked → done ≡ each_after answer times rates asked
  unfolding each_after
  after_accepted h done d = d ∙ ap (λ (o : Outcome (List Float)). or_as_before o asked) (accepted_alike (each_lines times rates asked) (map answer asked) (all_accepted h))

  pub after_refused : (r : Refusal) → x ≡ Err r → asked ≡ each_after answer times rates asked
  unfolding each_outcome each_after
  after_refused r h =
      let it = refused_itself (verdict (each_lines times rates asked)) (number r.cause) r.place (sym (ap outcome h) ∙ e) in
      ap (λ (o : Outcome (List Float)). or_as_before o asked) (refused_alike (each_lines times rates asked) (map answer asked) it.0 it.1 it.2)

-- ---- times that are all finite
pub all_finite_accepted : (asked : List Float) → ((k : ℕ) → k < length asked → finite (get_or asked k nan) ≡ true)
    → accepted tt ≡ placed (verdict ((record { number = 7; causes = map bad_time asked }) ∷ []))
unfolding placed judged bad_time
all_finite_accepted asked h = ap placed (none_bad 7 0 bad_time asked nan (λ i l. ap not (h i l)))
