-- The coupons of a knot at eight rates that are tried: their sums from the settled ones on, and the errors of the eight. Assumes nothing.
use mathlib.Core.Path.{◌≡◌, refl, ◌∙◌}
use mathlib.Core.List.{List, map}
use Prim.Native.Nat.{ℕ, ◌+◌}
use lib.ListN.{length, replicate}
use lib.Ieee.{Float, binary64, add, sub, mul}
use Rattle.numbers.specs.Literals.{one}
use Rattle.elementary.proofs.PartWay.{copies, map_alike}
use Rattle.curves.proofs.Adding.{one_more}
use Rattle.swaps.specs.declared.knots.Knot.{Knot}
use Rattle.swaps.specs.Bootstrap.{dates, coupon_at, par_error}
use Rattle.swaps.specs.inner.Knots.{with_rate, last_at, sum_to, error_of, Ready, EachOf}

-- a sum with one coupon more, and with a factor more less 1
abbrev pub plus : Float → Float → Float → Float
plus amount a b = add binary64 a (mul binary64 amount b)

abbrev pub less : Float → Float → Float
less a b = sub binary64 (add binary64 a b) one

module _ (tenors earlier : List Float) (k : Knot) (rates : List Float) (eight : length rates ≡ 8) where
  pub settled_sums : Ready tenors earlier k → replicate 8 k.sum ≡ map (sum_to tenors earlier k k.settled) rates
  settled_sums ready =
      copies 8 k.sum rates eight ∙ map_alike (λ (x : Float). k.sum) (sum_to tenors earlier k k.settled) ready.summed rates

  pub one_coupon_more : (n : ℕ) (sums factors r : List Float) (amount : Float) (factor : Float → Float)
      → sums ≡ map (sum_to tenors earlier k n) rates → factors ≡ map factor rates
      → ((x : Float) → mul binary64 amount (factor x) ≡ coupon_at tenors (with_rate earlier x) k.tenor k.par n)
      → EachOf (plus amount) sums factors r → r ≡ map (sum_to tenors earlier k (n + 1)) rates
  one_coupon_more n sums factors r amount factor s f is each =
      each rates (sum_to tenors earlier k n) factor eight s f
      ∙ map_alike (λ (x : Float). add binary64 (sum_to tenors earlier k n x) (mul binary64 amount (factor x))) (sum_to tenors earlier k (n + 1))
      (λ x. one_more (coupon_at tenors (with_rate earlier x) k.tenor k.par) n _ _ refl (is x)) rates

  error_is : (n : ℕ) → n ≡ dates k.tenor → (x : Float) → sub binary64 (add binary64 (sum_to tenors earlier k n x) (last_at tenors earlier k x)) one ≡ error_of tenors earlier k x
  unfolding par_error
  error_is n e x = rw e

  pub errors_are : (n : ℕ) → n ≡ dates k.tenor → (sums lasts r : List Float) → sums ≡ map (sum_to tenors earlier k n) rates → lasts ≡ map (last_at tenors earlier k) rates
      → EachOf less sums lasts r → r ≡ map (error_of tenors earlier k) rates
  errors_are n e sums lasts r s l each =
      each rates (sum_to tenors earlier k n) (last_at tenors earlier k) eight s l
      ∙ map_alike (λ (x : Float). sub binary64 (add binary64 (sum_to tenors earlier k n x) (last_at tenors earlier k x)) one) (error_of tenors earlier k) (error_is n e) rates
