-- The yield curve that is accepted, at its knots: the first and the last give their own rate to the bit, straight or spline. At an inner knot w is 1, which gives y0 + (y1-y0): not y1 to the bit for
-- every two rates, since y1-y0 is rounded. Assumes nothing.
use mathlib.Core.Path.{◌≡◌, refl, ap, ◌∙◌}
use mathlib.Core.Bool.{Bool, true, false}
use mathlib.Core.List.{List, [], ◌∷◌}
use Prim.Native.Nat.{ℕ, suc, ◌*◌, ◌<◌}
use native.Mathlib.Nat.{mul-pos, zero-lt-suc}
use native.Mathlib.Omega.{arith}
use lib.IntN.{pos}
use lib.Dec.{T, ltb}
use lib.ListN.{length}
use lib.Ieee.{Float, nan, inf, fin, binary64, up, down, unlike, round, add, sub, mul, div, lt, le, eq, fits, of_bits}
use lib.Ieee.Fits.{down_pos, sub-fits}
use Rattle.numbers.specs.Literals.{one, two}
use Rattle.numbers.specs.Clamps.{plus_zero}
use Rattle.numbers.proofs.Amounts.{passes}
use Rattle.numbers.proofs.Values.{round_itself}
use Rattle.refusals.specs.Outcome.{accepted, first_or, judged}
use Rattle.refusals.specs.Table.{unequal, bad_knot_count, bad_knot, bad_knots_after, bad_knots}
use Rattle.refusals.proofs.Verdicts.{verdict}
use Rattle.elementary.proofs.Unrounded.{nonzero_between, div_itself}
use Rattle.curves.specs.Segments.{knot, last_of, segment_ending, flat_outside, ends_of}
use Rattle.curves.specs.Curve.{curve_lines}
use Rattle.curves.specs.Formulas.{along_yields}
use Rattle.curves.proofs.AtKnots.{Floats, rises, time_amount, segment_that_ends, at_an_inner_knot, at_the_first_knot, at_the_last_knot}
use Rattle.yield_curve.specs.Linear.{yield_of}
use Rattle.yield_curve.specs.Spline.{spline_of}
use Rattle.yield_curve.proofs.Outside.{same_arms}

-- 1·x
one_is : one ≡ fin false 1 (pos 0)
unfolding of_bits
one_is = refl

plus_unlike : (s : Bool) → unlike false s ≡ s
plus_unlike false = refl
plus_unlike true = refl

one_times : (x : Float) → T (fits binary64 x) → mul binary64 one x ≡ x
unfolding mul
one_times nan f = ap (λ (y : Float). mul binary64 y nan) one_is
one_times (inf s) f = ap (λ (y : Float). mul binary64 y (inf s)) one_is ∙ ap inf (plus_unlike s)
one_times (fin s m e) f =
    ap (λ (y : Float). mul binary64 y (fin s m e)) one_is
    ∙ ap (λ (b : Bool). round binary64 b (1 * 1 * (m * up e)) (1 * down e)) (plus_unlike s)
    ∙ round_itself binary64 s m e (1 * 1 * (m * up e)) (1 * down e) f (mul-pos (zero-lt-suc 0) (down_pos e)) (turn (m * up e) (down e))
  where
    turn : (M d : ℕ) → 1 * 1 * M * d ≡ M * (1 * d)
    turn M d = omega arith

module _ (times rates : List Float) (good : verdict (curve_lines times rates) ≡ accepted tt) where
  -- an inner knot: one has a knot before it and one after
  module _ (i : ℕ) (inner : suc (suc i) < length times) where
    abbrev t : Float
    t = knot times (suc i)

    -- the yield curve's own formula there, w being 1
    pub yield_at_an_inner_knot : Floats times → yield_of times rates t ≡ add binary64 (knot rates i) (sub binary64 (knot rates (suc i)) (knot rates i))
    unfolding yield_of along_yields
    yield_at_an_inner_knot held =
        at_an_inner_knot times rates good i inner _ ∙ ap (λ (n : ℕ). along_yields (ends_of times rates n) t) (segment_that_ends times rates good i inner)
        ∙ ap (λ (w : Float). add binary64 (knot rates i) (mul binary64 w (sub binary64 (knot rates (suc i)) (knot rates i))))
        (div_itself (sub binary64 t (knot times i))
        (nonzero_between binary64 t (knot times i) (time_amount times rates good (suc i) (omega arith) (held (suc i) (omega arith))) (time_amount times rates good i (omega arith) (held i (omega arith))) (passes (rises times rates good i (omega arith)))))
        ∙ ap (add binary64 (knot rates i)) (one_times (sub binary64 (knot rates (suc i)) (knot rates i)) (sub-fits binary64 (knot rates (suc i)) (knot rates i)))

  pub yield_at_the_first_knot : yield_of times rates (knot times 0) ≡ knot rates 0
  unfolding yield_of
  yield_at_the_first_knot = at_the_first_knot times rates good _

  pub yield_at_the_last_knot : yield_of times rates (last_of times) ≡ last_of rates
  unfolding yield_of
  yield_at_the_last_knot = at_the_last_knot times rates good _

  pub spline_at_the_first_knot : spline_of times rates (knot times 0) ≡ knot rates 0
  unfolding spline_of
  spline_at_the_first_knot = same_arms (ltb (length times) 3) _ _ _ yield_at_the_first_knot (at_the_first_knot times rates good _)

  pub spline_at_the_last_knot : spline_of times rates (last_of times) ≡ last_of rates
  unfolding spline_of
  spline_at_the_last_knot = same_arms (ltb (length times) 3) _ _ _ yield_at_the_last_knot (at_the_last_knot times rates good _)

-- ---- 3 % and then 1 %: at the knot of 1 % the yield curve gives the float after it
abbrev one_percent : Float
one_percent = of_bits binary64 0x3f84_7ae1_47ae_147b

abbrev example_times : List Float
example_times = plus_zero ∷ one ∷ two ∷ []

abbrev example_rates : List Float
example_rates = of_bits binary64 0x3f9e_b851_eb85_1eb8 ∷ one_percent ∷ one_percent ∷ []

pub not_always_its_own_yield : (verdict (curve_lines example_times example_rates) ≡ accepted tt) × (yield_of example_times example_rates (knot example_times 1) ≡ of_bits binary64 0x3f84_7ae1_47ae_147c)
unfolding judged first_or unequal bad_knot_count bad_knot bad_knots_after bad_knots segment_ending flat_outside along_yields yield_of add sub mul div lt le eq of_bits
not_always_its_own_yield = (refl, refl)
