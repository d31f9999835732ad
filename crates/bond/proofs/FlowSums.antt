-- The sums over a bond's flows as a loop adds them, term by term left to right. Assumes nothing.
use mathlib.Core.Path.{◌≡◌, sym, ap, ◌∙◌}
use mathlib.Core.List.{List}
use mathlib.Core.Bool.{Bool, true, false, cond}
use Prim.Native.Nat.{ℕ, zero, suc, ◌+◌, ◌-◌, ◌*◌, ◌≤◌, ◌<◌}
use native.Mathlib.Omega.{arith}
use lib.IntN.{pos}
use lib.ListN.{get_or}
use lib.Ieee.{Float, nan, binary64, add, mul, div, of_int}
use borrow.Author.Tests.{ne_eqb}
use Rattle.numbers.specs.Literals.{one}
use Rattle.numbers.specs.Sums.{added_up}
use Rattle.elementary.specs.WholePower.{whole_power}
use Rattle.elementary.specs.Powers.{powers_from}
use Rattle.elementary.proofs.InARow.{power_at}
use Rattle.bond.specs.declared.Bond.{Bond}
use Rattle.bond.specs.Bonds.{coupons_a_year, period_coupon, periods}
use Rattle.bond.specs.Durations.{flow_of, worth, weighted_time, weighted_square}
use Rattle.bond.specs.inner.Weighted.{weighted_by}

-- the term of the period t more
pub added_at : (f : ℕ → Float) (s v : Float) (t : ℕ) → 1 ≤ t → s ≡ added_up (λ (i : ℕ). f (suc i)) (t - 1) → v ≡ f t → add binary64 s v ≡ added_up (λ (i : ℕ). f (suc i)) (t + 1 - 1)
unfolding added_up
added_at f s v zero h e g = absurd (omega arith)
added_at f s v (suc k) h e g = rw (less k, e, g) (go (suc k - 1) (more k))
  where
    less : (k : ℕ) → suc k + 1 - 1 ≡ suc k
    less k = omega arith

    more : (k : ℕ) → k ≡ suc k - 1
    more k = omega arith

    go : (j : ℕ) → k ≡ j → add binary64 (added_up (λ (i : ℕ). f (suc i)) j) (f (suc k)) ≡ added_up (λ (i : ℕ). f (suc i)) (suc k)
    go j e = rw e

module _ (b : Bond) (r : Float) (t : ℕ) where
  -- before the last period a coupon is paid
  pub coupon_worth : (c p : Float) (n : ℕ) → c ≡ period_coupon b → n ≡ periods b → t < n → p ≡ whole_power (add binary64 one r) t → div binary64 c p ≡ worth b r t
  unfolding worth flow_of
  coupon_worth c p n paid counted h e = rw (e, paid, sym counted, ne_eqb t n (λ z. omega arith))

  -- its weight times its worth
  pub term : (squares : Bool) (m w v : Float) → m ≡ coupons_a_year b
      → w ≡ cond squares (mul binary64 (of_int binary64 (pos t)) (add binary64 (of_int binary64 (pos t)) one)) (div binary64 (of_int binary64 (pos t)) m) → v ≡ worth b r t
      → mul binary64 w v ≡ weighted_by b r squares t
  unfolding weighted_time weighted_square
  term true m w v h e g = rw (e, g)
  term false m w v h e g = rw (e, g, h)

-- a power out of its block
pub power_of : (base : Float) (xs : List Float) (q t : ℕ) → xs ≡ powers_from base (16 * q) 16 → 16 * q ≤ t → t < 16 * q + 16 → get_or xs (t - 16 * q) nan ≡ whole_power base t
power_of base xs q t e low high = ap (λ (l : List Float). get_or l (t - 16 * q) nan) e ∙ power_at base (16 * q) 16 (t - 16 * q) (under (16 * q) high) ∙ ap (whole_power base) (back (16 * q) low)
  where
    under : (a : ℕ) → t < a + 16 → t - a < 16
    under a h = omega arith

    back : (a : ℕ) → a ≤ t → a + (t - a) ≡ t
    back a h = omega arith
