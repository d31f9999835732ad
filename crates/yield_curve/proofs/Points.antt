-- The sums of an equation of the least squares, one point after the other. Assumes nothing.
use mathlib.Core.Path.{◌≡◌, refl, ap, ◌∙◌}
use mathlib.Core.List.{List}
use Prim.Native.Nat.{ℕ, ◌+◌}
use lib.ListN.{length}
use lib.Ieee.{Float, binary64, add, mul}
use Rattle.numbers.specs.Literals.{one}
use Rattle.numbers.specs.Clamps.{plus_zero}
use Rattle.numbers.specs.Sums.{added_up}
use Rattle.yield_curve.specs.declared.solve.Equation.{Equation}
use Rattle.curves.specs.Segments.{knot}
use Rattle.yield_curve.specs.Fit.{slope_at, hump_at, against}
use Rattle.curves.proofs.Adding.{one_more}

module _ (times rates : List Float) (g : Float → Float) where
  -- the sums over the first k points
  abbrev pub up_to : ℕ → Equation
  up_to k = record {
    x = added_up (λ (i : ℕ). mul binary64 (g (knot times i)) one) k;
    y = added_up (λ (i : ℕ). mul binary64 (g (knot times i)) (slope_at (knot times i))) k;
    z = added_up (λ (i : ℕ). mul binary64 (g (knot times i)) (hump_at (knot times i))) k;
    is = added_up (λ (i : ℕ). mul binary64 (g (knot times i)) (knot rates i)) k;
  }

  pub no_point : record { x = plus_zero; y = plus_zero; z = plus_zero; is = plus_zero } ≡ up_to 0
  unfolding added_up
  no_point = refl

  pub all_points : (k : ℕ) → k ≡ length times → (e : Equation) → e ≡ up_to k → e ≡ against times rates g
  unfolding against
  all_points k all e h = h ∙ ap up_to all

  -- the point k has the loading a against the three, which are 1, s and h, and the rate r
  pub one_point_more : (k : ℕ) (e : Equation) → e ≡ up_to k → (a s h r : Float) → a ≡ g (knot times k) → s ≡ slope_at (knot times k) → h ≡ hump_at (knot times k) → r ≡ knot rates k
      → record { x = add binary64 e.x (mul binary64 a one); y = add binary64 e.y (mul binary64 a s); z = add binary64 e.z (mul binary64 a h); is = add binary64 e.is (mul binary64 a r) } ≡ up_to (k + 1)
  one_point_more k e ih a s h r ea es eh er =
      let fx : add binary64 e.x (mul binary64 a one) ≡ (up_to (k + 1)).x = one_more _ k _ _ (rw ih) (rw ea) in
      let fy : add binary64 e.y (mul binary64 a s) ≡ (up_to (k + 1)).y = one_more _ k _ _ (rw ih) (rw (ea, es)) in
      let fz : add binary64 e.z (mul binary64 a h) ≡ (up_to (k + 1)).z = one_more _ k _ _ (rw ih) (rw (ea, eh)) in
      let fi : add binary64 e.is (mul binary64 a r) ≡ (up_to (k + 1)).is = one_more _ k _ _ (rw ih) (rw (ea, er)) in
      rw (fx, fy, fz, fi)

-- what the sums of the points cite
pub ruleset point_by_point = (no_point, one_point_more)
