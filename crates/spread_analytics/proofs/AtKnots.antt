-- The rate curves of spreads, where they are accepted, at their knots: the first and the last give their own rate to the bit, and so does an inner knot, by the segment that starts there, whose
-- rate is other than 0, unless the next rate's difference from it overflows: then NaN is given. Of a rate of 0 the sum may turn the sign: -0 stays -0 where the next rate is below 0, and else +0
-- is given. So every knot gives its own rate as a number, but for the overflow. Assumes nothing.
use mathlib.Core.Path.{◌≡◌, refl, sym, ap, ◌∙◌}
use mathlib.Core.Logic.{◌⊎◌, inl, inr}
use mathlib.Core.Bool.{Bool, true, false, not, ◌&&◌}
use mathlib.Core.List.{List, []}
use Prim.Native.Nat.{ℕ, suc, ◌<◌}
use native.Mathlib.Omega.{arith}
use lib.Dec.{T}
use lib.ListN.{length}
use lib.Ieee.{Float, nan, inf, fin, binary64, neg, add, sub, mul, div, fits, lt, eq}
use lib.Ieee.Bits.{is_true}
use lib.Ieee.Scale.{finite}
use Rattle.numbers.specs.Clamps.{plus_zero}
use Rattle.numbers.proofs.Amounts.{passes, amount, amount_finite}
use Rattle.numbers.proofs.Zeros.{sub_itself}
use Rattle.refusals.specs.Outcome.{accepted}
use Rattle.refusals.proofs.Verdicts.{verdict}
use Rattle.elementary.proofs.Unrounded.{nonzero, nonzero_between, nought, add_nought}
use Rattle.curves.specs.Segments.{knot, last_of, Ends, ends_of}
use Rattle.curves.specs.Curve.{curve_lines}
use Rattle.curves.specs.Formulas.{along_rates}
use Rattle.curves.proofs.AtKnots.{Floats, earlier, rate_finite, time_amount, segment_that_starts, at_an_inner_knot, at_the_first_knot, at_the_last_knot}
use Rattle.curves.proofs.Listing.{same_length}
use Rattle.curves.proofs.Noughts.{minus, zero_or_not, add_noughts, times_nought, no_product, nought_over_plus, plus_between, minus_is_below, nothing_below, same_number}
use Rattle.spread_analytics.specs.Curves.{rate_of}

-- ---- x less a zero: a finite number, with a minus where it is below 0, if the zero is -0
module _ (x : Float) (f : T (fits binary64 x)) (h : T (finite x)) where
  less_zero : (s : Bool) → T (finite (sub binary64 x (nought s)))
  unfolding sub neg
  less_zero s = go (zero_or_not x f h)
    where
      go : T (nonzero x) ⊎ ((z : Bool) × (x ≡ nought z)) → T (finite (add binary64 x (nought (not s))))
      go (inl n) = passes (ap finite (add_nought binary64 x (not s) f n) ∙ is_true (finite x) h)
      go (inr z) = passes (ap (λ (y : Float). finite (add binary64 y (nought (not s)))) z.1 ∙ ap finite (add_noughts binary64 z.0 (not s)))

  minus_less_zero : minus (sub binary64 x (nought true)) ≡ lt x plus_zero
  unfolding sub neg
  minus_less_zero = go (zero_or_not x f h)
    where
      dropped : (b : Bool) → (b && false) ≡ false
      dropped true = refl
      dropped false = refl

      go : T (nonzero x) ⊎ ((z : Bool) × (x ≡ nought z)) → minus (add binary64 x (nought false)) ≡ lt x plus_zero
      go (inl n) = ap minus (add_nought binary64 x false f n) ∙ minus_is_below x n
      go (inr z) = ap (λ (y : Float). minus (add binary64 y (nought false))) z.1 ∙ ap minus (add_noughts binary64 z.0 false) ∙ dropped z.0 ∙ sym (nothing_below z.0) ∙ ap (λ (y : Float). lt y plus_zero) (sym z.1)

-- ---- a segment at its start
module _ (e : Ends) (a : T (amount binary64 e.t0)) (b : T (amount binary64 e.t1)) (l : T (lt e.t0 e.t1)) where
  abbrev risen : Float
  risen = sub binary64 e.r1 e.r0

  abbrev width : Float
  width = sub binary64 e.t1 e.t0

  no_time_yet : along_rates e e.t0 ≡ add binary64 e.r0 (div binary64 (mul binary64 risen (nought false)) width)
  unfolding along_rates
  no_time_yet = ap (λ (w : Float). add binary64 e.r0 (div binary64 (mul binary64 risen w) width)) (sub_itself binary64 e.t0 (amount_finite binary64 e.t0 a))

  -- the difference of the rates counts for a zero of its sign
  at_its_start : T (finite risen) → along_rates e e.t0 ≡ add binary64 e.r0 (nought (minus risen))
  at_its_start h =
      no_time_yet
      ∙ ap (λ (w : Float). add binary64 e.r0 (div binary64 w width)) (times_nought binary64 risen h)
      ∙ ap (add binary64 e.r0) (nought_over_plus binary64 (minus risen) width (nonzero_between binary64 e.t1 e.t0 b a l) (plus_between binary64 e.t1 e.t0 b a l))

  its_own_rate : T (finite risen) → T (fits binary64 e.r0) → T (nonzero e.r0) → along_rates e e.t0 ≡ e.r0
  its_own_rate h f n = at_its_start h ∙ add_nought binary64 e.r0 (minus risen) f n

  its_own_zero : (s : Bool) → e.r0 ≡ nought s → T (fits binary64 e.r1) → T (finite e.r1) → along_rates e e.t0 ≡ nought (s && lt e.r1 plus_zero)
  its_own_zero s z f h =
      at_its_start (passes (ap (λ (y : Float). finite (sub binary64 e.r1 y)) z ∙ is_finite))
      ∙ ap (λ (y : Float). add binary64 y (nought (minus (sub binary64 e.r1 y)))) z ∙ add_noughts binary64 s (minus (sub binary64 e.r1 (nought s))) ∙ go s
    where
      is_finite : finite (sub binary64 e.r1 (nought s)) ≡ true
      is_finite = is_true _ (less_zero e.r1 f h s)

      go : (s : Bool) → nought (s && minus (sub binary64 e.r1 (nought s))) ≡ nought (s && lt e.r1 plus_zero)
      go false = refl
      go true = ap nought (minus_less_zero e.r1 f h)

  overflows : finite risen ≡ false → along_rates e e.t0 ≡ nan
  unfolding add div
  overflows h = no_time_yet ∙ ap (λ (w : Float). add binary64 e.r0 (div binary64 w width)) (no_product binary64 risen false h) ∙ nothing_added e.r0
    where
      nothing_added : (x : Float) → add binary64 x nan ≡ nan
      nothing_added nan = refl
      nothing_added (inf s) = refl
      nothing_added (fin s m e) = refl

-- ---- an accepted curve
module _ (tenors rates : List Float) (good : verdict (curve_lines tenors rates) ≡ accepted tt) where
  pub rate_at_the_first_knot : rate_of tenors rates (knot tenors 0) ≡ knot rates 0
  unfolding rate_of
  rate_at_the_first_knot = at_the_first_knot tenors rates good _

  pub rate_at_the_last_knot : rate_of tenors rates (last_of tenors) ≡ last_of rates
  unfolding rate_of
  rate_at_the_last_knot = at_the_last_knot tenors rates good _

  -- the inner knot suc i, between the knots i and suc (suc i), of numbers of the machine
  module _ (held : Floats tenors) (i : ℕ) (inner : suc (suc i) < length tenors) where
    abbrev after : Ends
    after = ends_of tenors rates (suc i)

    served : rate_of tenors rates (knot tenors (suc i)) ≡ along_rates after after.t0
    unfolding rate_of
    served = at_an_inner_knot tenors rates good i inner _ ∙ ap (λ (n : ℕ). along_rates (ends_of tenors rates n) (knot tenors (suc i))) (segment_that_starts tenors rates good i inner)

    start : T (amount binary64 (knot tenors (suc i)))
    start = time_amount tenors rates good (suc i) (omega arith) (held (suc i) (omega arith))

    end : T (amount binary64 (knot tenors (suc (suc i))))
    end = time_amount tenors rates good (suc (suc i)) inner (held (suc (suc i)) inner)

    wide : T (lt (knot tenors (suc i)) (knot tenors (suc (suc i))))
    wide = passes (earlier tenors rates good (suc i) (suc (suc i)) (omega arith) inner)

    pub rate_at_an_inner_knot : T (fits binary64 (knot rates (suc i))) → T (finite (sub binary64 (knot rates (suc (suc i))) (knot rates (suc i)))) → T (nonzero (knot rates (suc i)))
        → rate_of tenors rates (knot tenors (suc i)) ≡ knot rates (suc i)
    rate_at_an_inner_knot fit h n = served ∙ its_own_rate after start end wide h fit n

    pub overflow_at_an_inner_knot : finite (sub binary64 (knot rates (suc (suc i))) (knot rates (suc i))) ≡ false → rate_of tenors rates (knot tenors (suc i)) ≡ nan
    overflow_at_an_inner_knot h = served ∙ overflows after start end wide h

    -- -0 is given exactly where the knot's rate is -0 and the next rate is below 0
    pub zero_at_an_inner_knot : T (fits binary64 (knot rates (suc (suc i)))) → (s : Bool) → knot rates (suc i) ≡ nought s
        → rate_of tenors rates (knot tenors (suc i)) ≡ nought (s && lt (knot rates (suc (suc i))) plus_zero)
    zero_at_an_inner_knot f s z = served ∙ its_own_zero after start end wide s z f (rate_finite tenors rates good (suc (suc i)) inner)

    -- whatever the rate, it is given as a number, but for the overflow
    pub same_number_at_an_inner_knot : Floats rates → T (finite (sub binary64 (knot rates (suc (suc i))) (knot rates (suc i)))) → eq (rate_of tenors rates (knot tenors (suc i))) (knot rates (suc i)) ≡ true
    same_number_at_an_inner_knot fits_all h =
        let same : length tenors ≡ length rates = same_length tenors rates [] (sym good) in
        let fit : T (fits binary64 (knot rates (suc i))) = fits_all (suc i) (omega arith) in
        same_number (rate_of tenors rates (knot tenors (suc i))) (knot rates (suc i)) fit (rate_finite tenors rates good (suc i) (omega arith)) (rate_at_an_inner_knot fit h)
        (λ s z. (s && lt (knot rates (suc (suc i))) plus_zero, zero_at_an_inner_knot (fits_all (suc (suc i)) (omega arith)) s z))
