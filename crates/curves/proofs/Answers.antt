-- The three kinds of curve: the exp of each exponent is the discount factor, at or before time 0 too. Assumes nothing.
use mathlib.Core.Path.{◌≡◌, refl, sym, ap, ◌∙◌, subst}
use mathlib.Core.Bool.{Bool, true, false, cond}
use mathlib.Core.List.{List, [], ◌∷◌, map}
use Prim.Native.Nat.{ℕ, suc}
use lib.Ieee.{Float, binary64, neg, mul, le, lt}
use Rattle.numbers.specs.Literals.{one}
use Rattle.numbers.specs.Clamps.{plus_zero}
use Rattle.numbers.proofs.Zeros.{plus_zero_lem}
use Rattle.elementary.specs.Exp.{exp}
use Rattle.elementary.proofs.Laws.{exp_of_zero}
use Rattle.elementary.proofs.PartWay.{map_alike}
use Rattle.curves.specs.declared.kinds.Kind.{Kind}
use Rattle.curves.specs.declared.kinds.Kind.TheVariants as kind_is
use Rattle.curves.specs.Segments.{Ends, knot, last_of, flat_outside, ends_of}
use Rattle.curves.specs.Kinds.{served_by, along, rate_on, discounted, discount_on, exponent_at}
use Rattle.curves.specs.inner.Halving.{segment_by, passes}
use Rattle.curves.specs.inner.Kinds.{rule_of, PastOn, EndsAre}
use Rattle.curves.specs.inner.Exponents.{rate_or_exponent, answer_on}
use Rattle.curves.proofs.Flat.{ends_are, flat_is}
use Rattle.curves.proofs.Onward.{past_served, still_found}

-- ---- discount factors
exp_of_either : (b : Bool) (x : Float) → exp (cond b plus_zero x) ≡ cond b one (exp x)
exp_of_either true x = ap exp plus_zero_lem ∙ exp_of_zero false
exp_of_either false x = refl

pub exp_of_exponent : (kind : Kind) (rate t : Float) → exp (exponent_at kind rate t) ≡ discounted kind rate t
unfolding exponent_at discounted
exp_of_exponent kind_is.YieldCurve rate t = refl
exp_of_exponent kind_is.DiscountCurve rate t = exp_of_either (le t plus_zero) (mul binary64 (neg rate) t)
exp_of_exponent kind_is.SpreadCurve rate t = refl

-- ---- the segment that serves by the kind's rule has none before it that does
by_its_rule : (kind : Kind) (times : List Float) (t : Float) → segment_by (rule_of kind) times t ≡ served_by kind times t
unfolding segment_by rule_of served_by
by_its_rule kind_is.YieldCurve times t = refl
by_its_rule kind_is.DiscountCurve times t = refl
by_its_rule kind_is.SpreadCurve times t = refl

pub past_on : (kind : Kind) (times : List Float) (t : Float) (i : ℕ) → i ≡ served_by kind times t → PastOn kind times t i
past_on kind times t i e = subst (PastOn kind times t) (by_its_rule kind times t ∙ sym e) (past_served (rule_of kind) times t)

-- ---- the segment in hand
pub still_on : (kind : Kind) (times : List Float) (before t : Float) (i : ℕ) (end : Float) → end ≡ knot times (suc i) → lt before t ≡ true → PastOn kind times before i → passes (rule_of kind) t end ≡ true → i ≡ served_by kind times t
still_on kind times before t i end is_end l past p = still_found (rule_of kind) times t before i l past (ap (passes (rule_of kind) t) (sym is_end) ∙ p) ∙ by_its_rule kind times t

-- ---- one answer
module _ (kind : Kind) (times rates : List Float) where
  -- by what was read of the first and the last knot, and of the ends of a segment
  pub by_ends : (exponent : Bool) (t : Float) (i : ℕ) (first before last after t0 t1 r0 r1 r : Float)
      → (first ≡ knot times 0) × (before ≡ knot rates 0) × (last ≡ last_of times) × (after ≡ last_of rates) → EndsAre times rates i t0 t1 r0 r1
      → r ≡ rate_or_exponent kind exponent (cond (le t first) before (cond (le last t) after (along kind (record { t0 = t0; t1 = t1; r0 = r0; r1 = r1 }) t))) t
      → r ≡ rate_or_exponent kind exponent (flat_outside times rates t (along kind (ends_of times rates i) t)) t
  by_ends exponent t i first before last after t0 t1 r0 r1 r outside ends is_r =
      is_r
      ∙ ap (λ (x : Float). rate_or_exponent kind exponent x t)
      (flat_is times rates t _ _ _ _ _ outside ∙ ap (λ (e : Ends). flat_outside times rates t (along kind e t)) (ends_are times rates i t0 t1 r0 r1 ends))

  -- where the rate by a segment is the curve's
  pub one_answer : (exponent : Bool) (t rate r : Float) → rate ≡ rate_on kind times rates t → r ≡ rate_or_exponent kind exponent rate t → r ≡ answer_on kind exponent times rates t
  unfolding answer_on
  one_answer exponent t rate r is_rate is_r = is_r ∙ rw is_rate

  -- by the segment that serves
  pub by_serving : (exponent : Bool) (t : Float) (i : ℕ) (r : Float) → i ≡ served_by kind times t
      → r ≡ rate_or_exponent kind exponent (flat_outside times rates t (along kind (ends_of times rates i) t)) t → r ≡ answer_on kind exponent times rates t
  unfolding rate_on
  by_serving exponent t i r is_i is_r = one_answer exponent t _ r (ap (λ (n : ℕ). flat_outside times rates t (along kind (ends_of times rates n) t)) is_i) is_r

  -- ---- a list of answers
  pub rates_themselves : (asked : List Float) → map (answer_on kind false times rates) asked ≡ map (rate_on kind times rates) asked
  unfolding answer_on rate_or_exponent
  rates_themselves asked = refl

  map_twice : (f g : Float → Float) (xs : List Float) → map f (map g xs) ≡ map (λ (x : Float). f (g x)) xs
  map_twice f g [] = refl
  map_twice f g (x ∷ xs) = ap (λ (r : List Float). f (g x) ∷ r) (map_twice f g xs)

  pub exps_of_answers : (asked : List Float) → map exp (map (answer_on kind true times rates) asked) ≡ map (discount_on kind times rates) asked
  unfolding answer_on rate_or_exponent discount_on
  exps_of_answers asked =
      map_twice exp (answer_on kind true times rates) asked
      ∙ map_alike (λ (t : Float). exp (answer_on kind true times rates t)) (discount_on kind times rates) (λ t. exp_of_exponent kind (rate_on kind times rates t) t) asked
