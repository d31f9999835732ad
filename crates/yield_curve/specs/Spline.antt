-- The natural cubic spline through a curve's knots, as the Rust solves it. Definitions only. Assumes nothing.
use Rattle.std.specs.Prelude.{ℕ, zero, suc, ◌-◌, cond, List, ltb, length, Float}
use Rattle.std.specs.Float.{binary64}
use Rattle.std.specs.Float.Ieee.{add, sub, mul, div, lt}
use Rattle.numbers.specs.Literals.{two, three, ten_to_minus15}
use Rattle.numbers.specs.Clamps.{plus_zero}
use Rattle.numbers.specs.Sizes.{absolute}
use Rattle.refusals.specs.Outcome.{Outcome, judged}
use Rattle.curves.specs.Segments.{segment_ending, flat_outside, knot}
use Rattle.curves.specs.Curve.{asked_lines}
use Rattle.yield_curve.specs.Linear.{yield_of}

-- "the 1e-15 guard"
abbrev pub guard : Float
guard = ten_to_minus15

module _ (times rates : List Float) where
  -- h: how long the segment i is, and how much the rate rises over it for each year
  unfoldable pub long : ℕ → Float
  long i = sub binary64 (knot times (suc i)) (knot times i)

  unfoldable pub slope : ℕ → Float
  slope i = div binary64 (sub binary64 (knot rates (suc i)) (knot rates i)) (long i)

  -- alpha at the knot i + 1
  unfoldable pub bend : ℕ → Float
  bend i = mul binary64 three (sub binary64 (slope (suc i)) (slope i))

  -- what is smaller in size gives way to it
  unfoldable pub guarded : Float → Float
  guarded x = cond (lt (absolute x) guard) guard x

  -- mu and z of the knot i, up from the first, where both are 0
  unfoldable pub pivot : Float → ℕ → Float
  pivot mu i = guarded (sub binary64 (mul binary64 two (sub binary64 (knot times (suc (suc i))) (knot times i))) (mul binary64 (long i) mu))

  unfoldable pub mu : ℕ → Float
  mu zero = plus_zero
  mu (suc i) = div binary64 (long (suc i)) (pivot (mu i) i)

  unfoldable pub z : ℕ → Float
  z zero = plus_zero
  z (suc i) = div binary64 (sub binary64 (bend i) (mul binary64 (long i) (z i))) (pivot (mu i) i)

  -- c of the knot k places before the last, where it is 0
  unfoldable pub c : ℕ → Float
  c zero = plus_zero
  c (suc k) = sub binary64 (z (length times - suc (suc k))) (mul binary64 (mu (length times - suc (suc k))) (c k))

  abbrev pub c_at : ℕ → Float
  c_at i = c (length times - suc i)

  -- b and d of the segment i
  unfoldable pub b : ℕ → Float
  b i = sub binary64 (slope i) (div binary64 (mul binary64 (long i) (add binary64 (c_at (suc i)) (mul binary64 two (c_at i)))) three)

  unfoldable pub d : ℕ → Float
  d i = div binary64 (sub binary64 (c_at (suc i)) (c_at i)) (mul binary64 three (long i))

  -- a + b·dx + c·dx·dx + d·dx·dx·dx
  unfoldable pub cubic : ℕ → Float → Float
  cubic i dx =
      add binary64 (add binary64 (add binary64 (knot rates i) (mul binary64 (b i) dx)) (mul binary64 (mul binary64 (c_at i) dx) dx))
      (mul binary64 (mul binary64 (mul binary64 (d i) dx) dx) dx)

  unfoldable pub spline_of : Float → Float
  spline_of t =
      cond (ltb (length times) 3) (yield_of times rates t)
      (flat_outside times rates t (cubic (segment_ending times t) (sub binary64 t (knot times (segment_ending times t)))))

unfoldable pub cubic_spline_interpolate : List Float → List Float → Float → Outcome Float
cubic_spline_interpolate times rates t = judged (asked_lines times rates t) (spline_of times rates t)
