-- "01's bits stay": no fraction of a period of an undated swap whose frequency is from 1 to 365 is 0, so that its legs, its annuity and its weighted sum are document 01's, without any test.
-- Assumes nothing.
use mathlib.Core.Path.{◌≡◌, refl, ap, ◌∙◌}
use mathlib.Core.Logic.{⊎_elim}
use mathlib.Core.Bool.{Bool, true, false, cond, not, ◌&&◌}
use mathlib.Core.List.{List}
use Prim.Native.Nat.{ℕ, zero, suc, ◌≤◌, ◌<◌}
use native.Mathlib.Omega.{arith}
use lib.Dec.{leb}
use lib.IntN.{pos}
use lib.Ieee.{Float, binary64, add, sub, mul, div, eq, of_int, of_bits}
use borrow.Author.Tests.{leb-true, leb-false, not-true}
use Rattle.numbers.specs.Literals.{one, three_hundred_sixty_five}
use Rattle.numbers.specs.Clamps.{plus_zero}
use Rattle.numbers.specs.Whole.{nearest_whole}
use Rattle.numbers.specs.Sums.{added_up}
use Rattle.numbers.proofs.Sums.{same_added}
use Rattle.dates.proofs.Tests.{both, decided}
use Rattle.swaps.specs.declared.Swap.{Swap}
use Rattle.swaps.specs.declared.AnySwap.TheVariants.{Undated}
use Rattle.swaps.specs.declared.day_counts.DayCount.{DayCount}
use Rattle.swaps.specs.declared.day_counts.DayCount.TheVariants.{Actual360, Actual365, Thirty360}
use Rattle.swaps.specs.DayCounts.{day_fraction}
use Rattle.swaps.specs.Discount.{discount_of}
use Rattle.swaps.specs.Swap.{payments, period, fraction, pay_date}
use Rattle.swaps.specs.Periods.{Terms, of_swap, terms_of}
use Rattle.swaps.specs.Legs.{factor_at, counted, fixed_payment, forward, fixed_term, floating_term, annuity_term, timed_term, last_factor, fixed_leg, floating_leg, annuity, weighted_sum}

-- ---- a test of the numbers from 1 to n
all_to : (ℕ → Bool) → ℕ → Bool
all_to f zero = true
all_to f (suc k) = all_to f k && f (suc k)

each : (f : ℕ → Bool) (n : ℕ) → all_to f n ≡ true → (k : ℕ) → 1 ≤ k → k ≤ n → f k ≡ true
unfolding all_to
each f zero e k low high = absurd (omega arith)
each f (suc n) e k low high =
    let b = both (all_to f n) (f (suc n)) e in
    ⊎_elim (λ h. each f n b.0 k low (leb-true k n h)) (λ h. ap f (let l = leb-false k n h in last k n l high) ∙ b.1) (decided (leb k n))
  where
    last : (k n : ℕ) → n < k → k ≤ suc n → k ≡ suc n
    last k n l h = omega arith

-- ---- the fraction of a period by a day count, at a frequency: it is 0 at none from 1 to 365
abbrev fraction_by : DayCount → ℕ → Float
fraction_by d n = day_fraction d (nearest_whole (mul binary64 three_hundred_sixty_five (div binary64 one (of_int binary64 (pos n)))))

abbrev counts : ℕ → Bool
counts n = not (eq (fraction_by Actual360 n) plus_zero) && not (eq (fraction_by Actual365 n) plus_zero)

all_count : all_to counts 365 ≡ true
unfolding all_to day_fraction nearest_whole mul div eq of_int of_bits
all_count = refl

by_each : (d : DayCount) (n : ℕ) → counts n ≡ true → eq (fraction_by d n) plus_zero ≡ false
unfolding day_fraction
by_each Actual360 n h = not-true (eq (fraction_by Actual360 n) plus_zero) (both (not (eq (fraction_by Actual360 n) plus_zero)) (not (eq (fraction_by Actual365 n) plus_zero)) h).0
by_each Actual365 n h = not-true (eq (fraction_by Actual365 n) plus_zero) (both (not (eq (fraction_by Actual360 n) plus_zero)) (not (eq (fraction_by Actual365 n) plus_zero)) h).1
by_each Thirty360 n h = not-true (eq (fraction_by Actual360 n) plus_zero) (both (not (eq (fraction_by Actual360 n) plus_zero)) (not (eq (fraction_by Actual365 n) plus_zero)) h).0

-- document 01's discount factor at payment k, from 1, and 1 at the start
abbrev pub factor_of : Swap → List Float → List Float → ℕ → Float
factor_of s tenors zeros zero = one
factor_of s tenors zeros (suc k) = discount_of tenors zeros (pay_date s (suc k))

module _ (s : Swap) (tenors zeros : List Float) (low : 1 ≤ s.frequency) (high : s.frequency ≤ 365) where
  pub fraction_not_0 : eq (fraction s) plus_zero ≡ false
  unfolding fraction period
  fraction_not_0 = by_each s.day_count s.frequency (each counts 365 all_count s.frequency low high)

  abbrev over : Terms
  over = terms_of (Undated s)

  no_test : (k : ℕ) (x : Float) → counted over tenors zeros k x ≡ x
  unfolding counted terms_of of_swap
  no_test k x = ap (λ (t : Bool). cond t plus_zero x) fraction_not_0

  factor_is : (k : ℕ) → factor_at over tenors zeros k ≡ factor_of s tenors zeros k
  unfolding factor_at terms_of of_swap
  factor_is zero = refl
  factor_is (suc k) = refl

  abbrev payment : Float
  payment = mul binary64 (mul binary64 s.notional s.fixed_rate) (fraction s)

  pub fixed_leg_is_01s : fixed_leg over tenors zeros
      ≡ add binary64 (added_up (λ (i : ℕ). mul binary64 payment (discount_of tenors zeros (pay_date s (suc i)))) (payments s)) (mul binary64 s.notional (discount_of tenors zeros s.tenor))
  unfolding fixed_leg fixed_term fixed_payment factor_at last_factor terms_of of_swap
  fixed_leg_is_01s =
      ap (λ (x : Float). add binary64 x (mul binary64 s.notional (discount_of tenors zeros s.tenor)))
      (same_added (fixed_term over tenors zeros) (λ (i : ℕ). mul binary64 payment (discount_of tenors zeros (pay_date s (suc i)))) (payments s) (λ i h. no_test i _))

  pub floating_leg_is_01s : floating_leg over tenors zeros
      ≡ add binary64
      (added_up
      (λ (i : ℕ).
      mul binary64
      (mul binary64 (mul binary64 s.notional (div binary64 (sub binary64 (div binary64 (factor_of s tenors zeros i) (factor_of s tenors zeros (suc i))) one) (fraction s))) (fraction s))
      (factor_of s tenors zeros (suc i)))
      (payments s))
      (mul binary64 s.notional (discount_of tenors zeros s.tenor))
  unfolding floating_leg floating_term forward last_factor terms_of of_swap
  floating_leg_is_01s =
      ap (λ (x : Float). add binary64 x (mul binary64 s.notional (discount_of tenors zeros s.tenor)))
      (same_added (floating_term over tenors zeros) _ (payments s) (λ i h. no_test i _ ∙ rw (factor_is i, factor_is (suc i))))

  pub annuity_is_01s : annuity over tenors zeros ≡ added_up (λ (i : ℕ). mul binary64 (discount_of tenors zeros (pay_date s (suc i))) (fraction s)) (payments s)
  unfolding annuity annuity_term factor_at terms_of of_swap
  annuity_is_01s = same_added (annuity_term over tenors zeros) (λ (i : ℕ). mul binary64 (discount_of tenors zeros (pay_date s (suc i))) (fraction s)) (payments s) (λ i h. no_test i _)

  pub weighted_sum_is_01s : weighted_sum over tenors zeros
      ≡ add binary64 (added_up (λ (i : ℕ). mul binary64 (mul binary64 (pay_date s (suc i)) payment) (discount_of tenors zeros (pay_date s (suc i)))) (payments s))
      (mul binary64 (mul binary64 s.tenor s.notional) (discount_of tenors zeros s.tenor))
  unfolding weighted_sum timed_term fixed_payment factor_at last_factor terms_of of_swap
  weighted_sum_is_01s =
      ap (λ (x : Float). add binary64 x (mul binary64 (mul binary64 s.tenor s.notional) (discount_of tenors zeros s.tenor)))
      (same_added (timed_term over tenors zeros) (λ (i : ℕ). mul binary64 (mul binary64 (pay_date s (suc i)) payment) (discount_of tenors zeros (pay_date s (suc i)))) (payments s) (λ i h. no_test i _))
