-- The discount curve, where it is accepted, at its knots: the first and the last give their own zero rate to the bit, and so does an inner knot, by the segment that ends there, whose rate is other
-- than 0. Of a rate of 0 the sum may turn the sign: -0 stays -0 where the rate before it has a minus too, and else +0 is given. So every knot gives its own rate as a number. Assumes nothing.
use mathlib.Core.Path.{◌≡◌, ap, ◌∙◌}
use mathlib.Core.Bool.{Bool, true, ◌&&◌}
use mathlib.Core.List.{List}
use Prim.Native.Nat.{ℕ, suc, ◌<◌}
use native.Mathlib.Omega.{arith}
use lib.Dec.{T}
use lib.ListN.{length}
use lib.Ieee.{Float, binary64, add, sub, mul, fits, lt, eq, of_bits}
use lib.Ieee.Scale.{finite}
use Rattle.numbers.proofs.Amounts.{passes, amount}
use Rattle.numbers.proofs.Zeros.{sub_itself}
use Rattle.refusals.specs.Outcome.{accepted}
use Rattle.refusals.proofs.Verdicts.{verdict}
use Rattle.numbers.specs.Literals.{one}
use Rattle.elementary.proofs.Unrounded.{nonzero, nonzero_between, nonzero_finite, nought, nought_add, mul_one, div_itself}
use Rattle.curves.specs.Segments.{knot, last_of, Ends, ends_of}
use Rattle.curves.specs.Curve.{curve_lines}
use Rattle.curves.specs.Formulas.{share, along_zeros}
use Rattle.curves.proofs.AtKnots.{Floats, earlier, rate_finite, time_amount, segment_that_ends, at_an_inner_knot, at_the_first_knot, at_the_last_knot}
use Rattle.curves.proofs.Noughts.{minus, add_noughts, times_nought, same_number}
use Rattle.swaps.specs.Discount.{zero_rate_of}

-- ---- a segment at its end, where w is 1: the rate before it counts for a zero
module _ (e : Ends) (a : T (amount binary64 e.t0)) (b : T (amount binary64 e.t1)) (l : T (lt e.t0 e.t1)) (h : T (finite e.r0)) (f : T (fits binary64 e.r1)) where
  at_its_end : T (finite e.r1) → along_zeros e e.t1 ≡ add binary64 (nought (minus e.r0)) e.r1
  unfolding along_zeros share of_bits
  at_its_end g =
      ap (λ (w : Float). add binary64 (mul binary64 e.r0 (sub binary64 one w)) (mul binary64 e.r1 w)) (div_itself (sub binary64 e.t1 e.t0) (nonzero_between binary64 e.t1 e.t0 b a l))
      ∙ ap (λ (w : Float). add binary64 (mul binary64 e.r0 w) (mul binary64 e.r1 one)) (sub_itself binary64 one tt)
      ∙ ap (λ (w : Float). add binary64 w (mul binary64 e.r1 one)) (times_nought binary64 e.r0 h)
      ∙ ap (add binary64 (nought (minus e.r0))) (mul_one e.r1 f g)

  its_own_rate : T (nonzero e.r1) → along_zeros e e.t1 ≡ e.r1
  its_own_rate n = at_its_end (nonzero_finite e.r1 n) ∙ nought_add binary64 (minus e.r0) e.r1 f n

  its_own_zero : (s : Bool) → e.r1 ≡ nought s → along_zeros e e.t1 ≡ nought (minus e.r0 && s)
  its_own_zero s z = at_its_end (passes (ap finite z)) ∙ ap (add binary64 (nought (minus e.r0))) z ∙ add_noughts binary64 (minus e.r0) s

-- ---- an accepted curve
module _ (tenors zeros : List Float) (good : verdict (curve_lines tenors zeros) ≡ accepted tt) where
  pub rate_at_the_first_knot : zero_rate_of tenors zeros (knot tenors 0) ≡ knot zeros 0
  unfolding zero_rate_of
  rate_at_the_first_knot = at_the_first_knot tenors zeros good _

  pub rate_at_the_last_knot : zero_rate_of tenors zeros (last_of tenors) ≡ last_of zeros
  unfolding zero_rate_of
  rate_at_the_last_knot = at_the_last_knot tenors zeros good _

  -- the inner knot suc i, between the knots i and suc (suc i), of numbers of the machine
  module _ (held : Floats tenors) (i : ℕ) (inner : suc (suc i) < length tenors) (fit : T (fits binary64 (knot zeros (suc i)))) where
    abbrev before : Ends
    before = ends_of tenors zeros i

    served : zero_rate_of tenors zeros (knot tenors (suc i)) ≡ along_zeros before before.t1
    unfolding zero_rate_of
    served = at_an_inner_knot tenors zeros good i inner _ ∙ ap (λ (n : ℕ). along_zeros (ends_of tenors zeros n) (knot tenors (suc i))) (segment_that_ends tenors zeros good i inner)

    start : T (amount binary64 (knot tenors i))
    start = time_amount tenors zeros good i (omega arith) (held i (omega arith))

    end : T (amount binary64 (knot tenors (suc i)))
    end = time_amount tenors zeros good (suc i) (omega arith) (held (suc i) (omega arith))

    wide : T (lt (knot tenors i) (knot tenors (suc i)))
    wide = passes (earlier tenors zeros good i (suc i) (omega arith) (omega arith))

    pub rate_at_an_inner_knot : T (nonzero (knot zeros (suc i))) → zero_rate_of tenors zeros (knot tenors (suc i)) ≡ knot zeros (suc i)
    rate_at_an_inner_knot n = served ∙ its_own_rate before start end wide (rate_finite tenors zeros good i (omega arith)) fit n

    -- -0 is given exactly where the knot's rate is -0 and a minus stands before the rate before it, -0 among them
    pub zero_at_an_inner_knot : (s : Bool) → knot zeros (suc i) ≡ nought s → zero_rate_of tenors zeros (knot tenors (suc i)) ≡ nought (minus (knot zeros i) && s)
    zero_at_an_inner_knot s z = served ∙ its_own_zero before start end wide (rate_finite tenors zeros good i (omega arith)) fit s z

    -- whatever the rate, it is given as a number
    pub same_number_at_an_inner_knot : eq (zero_rate_of tenors zeros (knot tenors (suc i))) (knot zeros (suc i)) ≡ true
    same_number_at_an_inner_knot =
        same_number (zero_rate_of tenors zeros (knot tenors (suc i))) (knot zeros (suc i)) fit (rate_finite tenors zeros good (suc i) (omega arith)) rate_at_an_inner_knot
        (λ s z. (minus (knot zeros i) && s, zero_at_an_inner_knot s z))
