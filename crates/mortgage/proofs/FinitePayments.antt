-- Which payments are finite: for a rate above 0, a principal of at most 2^1022, a factor above 1 and a finite P·r·f the payment is. With a factor of 2 or more it divides by 1 or more. Below 2 the sum
-- 1 + r is 1 + k·2^-52 for some k from 1 on, which r misses by at most 2^-53, and the factor is no less than the sum: so r/(f-1) is at most 3/2, and the payment at most 3·2^1022. Assumes nothing.
use mathlib.Core.Path.{◌≡◌, refl, sym, ap, ◌∙◌, subst}
use mathlib.Core.Logic.{inl, inr}
use mathlib.Core.Bool.{Bool, true, false, cond}
use Prim.Native.Nat.{ℕ, suc, ◌+◌, ◌-◌, ◌*◌, ◌^◌, ◌≤◌, ◌<◌}
use native.Mathlib.Nat as nat
use native.Mathlib.Nat.{le_antisymm, mul-le-mul, mul-le-mul_left, mul-le-mul_right, le_of_lt, le-add_right, lt_of_mul-lt-mul_right, add-sub_of_le, mul-pos}
use native.Mathlib.Omega.{arith}
use lib.Dec.{T, ltb}
use lib.Pow.{pow_pos}
use lib.Ieee.{Float, Format, binary64, prec, low, size, round, add, sub, mul, div, lt, le, eq, fits, of_bits}
use lib.Ieee.Bits.{is_true}
use lib.Ieee.Digits.{size-le}
use lib.Ieee.Fits.{add-fits}
use lib.Ieee.Nearest.{closest}
use lib.Ieee.Scale.{finite}
use borrow.Author.Tests.{ltb-true, ltb-false}
use Rattle.numbers.specs.Literals.{one, two}
use Rattle.numbers.specs.Clamps.{plus_zero}
use Rattle.numbers.specs.Units.{count, units}
use Rattle.numbers.proofs.Amounts.{passes, amount, one_count, amount_fits, amount_finite, Held, held}
use Rattle.numbers.proofs.Order.{lt_amount, le_amount, zero_amount, amount_by_tests, above_amount}
use Rattle.numbers.proofs.Comparing.{clash, first_real, second_real, at_or_below_real, at_or_below, not_above_lem, eq_le, equal_between, le_trans, finite_within}
use Rattle.numbers.proofs.Snap.{snap, closest_within_half, round_counts}
use Rattle.numbers.proofs.Differences.{difference}
use Rattle.numbers.proofs.Bounded.{factors_finite, product_amount, product_under, quotient_under, sum_rounded, difference_over, held_digits, round_over}
use Rattle.elementary.proofs.Sizes.{size_above}
use Rattle.records.specs.declared.Terms.{Terms}
use Rattle.elementary.proofs.Unrounded.{equal_same}
use Rattle.refusals.specs.Outcome.{accepted}
use Rattle.refusals.proofs.Causes.{some_term}
use Rattle.mortgage.specs.Payment.{equal_part, level_payment, payment, monthly_payment}
use Rattle.mortgage.proofs.TermsLaws.{amount_passed}
use Rattle.mortgage.proofs.PaymentLaws.{rate_of, factor_of, rate_held, factor_held, one_nonzero, terms_accepted, payment_accepted, sum_from_one, factor_not_below, vanishes_exactly}

-- ---- what rounding makes of n units from 1 to below 2: q steps of 2 ^ (1 - prec), which n misses by at most half a step
steps_above_one : (f : Format) (n : ℕ) → 2 ^ low f ≤ n → n < 2 ^ suc (low f)
    → (q : ℕ) × (snap (prec f) n ≡ q * 2 ^ (suc (low f) - prec f)) × (n * 2 ≤ q * 2 ^ (suc (low f) - prec f) * 2 + 2 ^ (suc (low f) - prec f))
unfolding snap
steps_above_one f n l h =
    let e : size n ≡ suc (low f) = le_antisymm (size-le n (suc (low f)) h) (size_above n (low f) l) in
    let step = 2 ^ (suc (low f) - prec f) in
    (closest n step, ap (λ (z : ℕ). closest n (2 ^ (z - prec f)) * 2 ^ (z - prec f)) e, (closest_within_half n step (pow_pos (suc (low f) - prec f))).1)

-- ---- in units: L is 1, which is c steps of 2·h; the sum is c + k of them; W is 2^1022
module _ (L W c k h : ℕ) (steps : L ≡ c * (2 * h)) where
  rate_bounded : (r : ℕ) → (L + r) * 2 ≤ (c + k) * (2 * h) * 2 + 2 * h → r ≤ (2 * k + 1) * h
  rate_bounded r l = omega arith

  product_bounded : (p r : ℕ) → p ≤ W * L → r ≤ (2 * k + 1) * h → p * r ≤ (2 * k + 1) * (W * h) * L
  product_bounded p r u v = go (mul-le-mul u v)
    where
      go : p * r ≤ W * L * ((2 * k + 1) * h) → p * r ≤ (2 * k + 1) * (W * h) * L
      go l = omega arith

  grown_bounded : (a f : ℕ) → a ≤ (2 * k + 1) * (W * h) → f ≤ 2 * L → a * f ≤ (2 * k + 1) * (2 * (W * h)) * L
  grown_bounded a f u v = go (mul-le-mul u v)
    where
      go : a * f ≤ (2 * k + 1) * (W * h) * (2 * L) → a * f ≤ (2 * k + 1) * (2 * (W * h)) * L
      go l = omega arith

  quotient_bounded : (x g : ℕ) → 0 < k → x ≤ (2 * k + 1) * (2 * (W * h)) → k * (2 * h) ≤ g → x * L ≤ 3 * (W * L) * g
  quotient_bounded x g some u v = omega (arith, mul-le-mul_right L u, mul-le-mul_right (3 * (W * L)) v, mul-le-mul_right (2 * (W * h * L)) some)

-- ---- 1 and 2 as amounts
one_amount : T (amount binary64 one)
unfolding amount fits of_bits
one_amount = tt

two_amount : T (amount binary64 two)
unfolding amount fits of_bits
two_amount = tt

one_units : units one ≡ 2 ^ 1074
unfolding count of_bits
one_units = refl

two_units : units two ≡ units one + units one
unfolding count of_bits
two_units = refl

two_power : units two ≡ 2 ^ 1075
unfolding count of_bits
two_power = refl

zero_under_one : le plus_zero one ≡ true
unfolding le lt eq of_bits
zero_under_one = refl

-- 1 is 2^52 steps of twice 2^1021 units
one_steps : units one ≡ 2 ^ 52 * (2 * 2 ^ 1021)
unfolding count of_bits
one_steps = refl

some_units : 0 < units one
some_units = rw one_units (pow_pos 1074)

-- the largest principal that is spoken of, 2^1022
abbrev pub most : Float
most = round binary64 false (2 ^ 1022) 1

most_amount : T (amount binary64 most)
unfolding amount fits round
most_amount = tt

most_units : units most ≡ 2 ^ 1022 * 2 ^ 1074
unfolding count round
most_units = refl

-- ---- P·r·f over f - 1, for amounts P, r and f
module _ (P r f : Float) (lent : T (amount binary64 P)) (rises : T (amount binary64 r)) (grows : T (amount binary64 f)) where
  -- a factor of 2 or more: the divisor is 1 or more
  from_two : T (finite (mul binary64 (mul binary64 P r) f)) → units two ≤ units f → T (finite (level_payment P r f))
  unfolding level_payment
  from_two whole l =
      let product = mul binary64 (mul binary64 P r) f in
      let first = product_amount binary64 P r lent rises (factors_finite binary64 (mul binary64 P r) f whole).0 in
      let known = product_amount binary64 (mul binary64 P r) f first grows whole in
      let above : units one ≤ units (sub binary64 f one) = difference_over binary64 f one (units one) grows one_amount (held binary64 one one_amount) some_units (twice (units one) (units two) (units f) two_units l) in
      amount_finite binary64 _
      (quotient_under binary64 product (sub binary64 f one) (units product) known (difference binary64 f one grows one_amount (once (units one) (units two) (units f) two_units l)).is_amount (nat.le_trans some_units above) (held binary64 product known)
      (mul-le-mul_left (units product) (rw (← one_units) above))).0
    where
      twice : (i j k : ℕ) → j ≡ i + i → j ≤ k → i + i ≤ k
      twice i j k e l = omega arith

      once : (i j k : ℕ) → j ≡ i + i → j ≤ k → i ≤ k
      once i j k e l = omega arith

  -- a factor below 2, which is no less than the sum 1 + r, itself above 1
  module _ (small : units P ≤ 2 ^ 1022 * 2 ^ 1074) (b : Float) (summed : b ≡ add binary64 one r) (total : T (amount binary64 b)) (above : units one < units b) (under : units b ≤ units f) (below : units f < units two) where
    -- L + r units, rounded
    exact : ℕ
    exact = units one + units r

    sum_is : b ≡ round binary64 false exact (2 ^ 1074)
    unfolding exact
    sum_is = summed ∙ sum_rounded binary64 one r one_amount rises some_units

    two_held : Held binary64 (units two)
    two_held = held binary64 two two_amount

    -- it is below 2 too, since what is 2 or more is rounded to 2 or more
    exact_below : exact < units two
    exact_below = go (ltb exact (units two)) (ltb-true exact (units two)) (ltb-false exact (units two))
      where
        go : (t : Bool) → (t ≡ true → exact < units two) → (t ≡ false → units two ≤ exact) → exact < units two
        go true less more = less refl
        go false less more =
            let l : units two ≤ units b = rw sum_is (round_over binary64 exact (2 ^ 1074) (pow_pos 1074) (units two) two_held (rw sum_is at total) (mul-le-mul_right (2 ^ 1074) (more refl))) in
            absurd (not_both (units two) (units b) (units f) l under below)
          where
            not_both : (i j k : ℕ) → i ≤ j → j ≤ k → k < i → ⊥
            not_both i j k x y z = omega arith

    sum_units : units b ≡ snap 53 exact
    sum_units = ap units sum_is ∙ one_count binary64 (round binary64 false exact (2 ^ 1074)) (snap 53 exact) (round_counts binary64 false exact (units two) (λ t. absurd t) two_held (le_of_lt exact_below)).0

    -- so many steps
    stepped : (q : ℕ) × (snap 53 exact ≡ q * 2 ^ 1022) × (exact * 2 ≤ q * 2 ^ 1022 * 2 + 2 ^ 1022)
    unfolding exact
    stepped = steps_above_one binary64 exact (rw (← one_units) (le-add_right (units one) (units r))) (subst (λ (z : ℕ). exact < z) two_power exact_below)

    -- over a c of 2^52, an h of 2^1021 and a W of 2^1022, which go by these names so that no power is worked out
    module _ (c h W q : ℕ) (one_is : units one ≡ c * (2 * h)) (sum_of : units b ≡ q * (2 * h)) (near : exact * 2 ≤ q * (2 * h) * 2 + 2 * h) (lent_little : units P ≤ W * units one) where
      more : c < q
      more = lt_of_mul-lt-mul_right (2 * h) (subst (λ (z : ℕ). c * (2 * h) < z) sum_of (subst (λ (z : ℕ). z < units b) one_is above))

      fewer : q < c + c
      fewer = lt_of_mul-lt-mul_right (2 * h) (doubled (units one) (units b) (units f) (units two) one_is two_units sum_of under below)
        where
          doubled : (L B F D : ℕ) → L ≡ c * (2 * h) → D ≡ L + L → B ≡ q * (2 * h) → B ≤ F → F < D → q * (2 * h) < (c + c) * (2 * h)
          doubled L B F D a d e u v = omega arith

      k : ℕ
      k = q - c

      in_steps : c + k ≡ q
      unfolding k
      in_steps = add-sub_of_le (le_of_lt more)

      some_steps : 0 < k
      unfolding k
      some_steps = let m = more in omega arith

      few_digits : 2 * k + 1 < c + c
      few_digits = let e = in_steps in let l = fewer in omega arith

      rate_little : units r ≤ (2 * k + 1) * h
      unfolding exact
      rate_little = rate_bounded (units one) W c k h one_is (units r) (subst (λ (z : ℕ). (units one + units r) * 2 ≤ z * (2 * h) * 2 + 2 * h) (sym in_steps) near)

      -- and what the format holds of them
      module _ (first_held : (d : ℕ) → d < c + c → Held binary64 (d * (W * h))) (second_held : (d : ℕ) → d < c + c → Held binary64 (d * (2 * (W * h)))) (steps_held : (d : ℕ) → d < c + c → Held binary64 (d * (2 * h)))
          (top_held : Held binary64 (3 * (W * units one))) (some_step : 0 < 2 * h) where
        product : Float
        product = mul binary64 P r

        first : T (amount binary64 product) × (units product ≤ (2 * k + 1) * (W * h))
        unfolding product
        first =
            product_under binary64 P r ((2 * k + 1) * (W * h)) lent rises (first_held (2 * k + 1) few_digits)
            (subst (λ (z : ℕ). units P * units r ≤ (2 * k + 1) * (W * h) * z) one_units (product_bounded (units one) W c k h one_is (units P) (units r) lent_little rate_little))

        second : T (amount binary64 (mul binary64 product f)) × (units (mul binary64 product f) ≤ (2 * k + 1) * (2 * (W * h)))
        second =
            product_under binary64 product f ((2 * k + 1) * (2 * (W * h))) first.0 grows (second_held (2 * k + 1) few_digits)
            (subst (λ (z : ℕ). units product * units f ≤ (2 * k + 1) * (2 * (W * h)) * z) one_units (grown_bounded (units one) W c k h one_is (units product) (units f) first.1 (at_most (units one) (units f) (units two) two_units below)))
          where
            at_most : (L F D : ℕ) → D ≡ L + L → F < D → F ≤ 2 * L
            at_most L F D e l = omega arith

        divisor : k * (2 * h) ≤ units (sub binary64 f one)
        divisor =
            difference_over binary64 f one (k * (2 * h)) grows one_amount (steps_held k (fewer_still few_digits)) (mul-pos some_steps some_step)
            (reaches (units one) (units b) (units f) one_is sum_of in_steps under)
          where
            fewer_still : 2 * k + 1 < c + c → k < c + c
            fewer_still l = omega arith

            reaches : (L B F : ℕ) → L ≡ c * (2 * h) → B ≡ q * (2 * h) → c + k ≡ q → B ≤ F → L + k * (2 * h) ≤ F
            reaches L B F a e i l = omega (arith, ap (λ (z : ℕ). z * (2 * h)) i)

        finite_quotient : T (finite (div binary64 (mul binary64 product f) (sub binary64 f one)))
        finite_quotient =
            amount_finite binary64 _
            (quotient_under binary64 (mul binary64 product f) (sub binary64 f one) (3 * (W * units one)) second.0 (difference binary64 f one grows one_amount (nat.le_trans (le_of_lt above) under)).is_amount
            (nat.le_trans (mul-pos some_steps some_step) divisor) top_held
            (subst (λ (z : ℕ). units (mul binary64 product f) * z ≤ 3 * (W * units one) * units (sub binary64 f one)) one_units (quotient_bounded (units one) W c k h one_is (units (mul binary64 product f)) (units (sub binary64 f one)) some_steps second.1 divisor))).0

    held_steps : (shift : ℕ) → 53 + shift ≤ 2098 → (d : ℕ) → d < 2 ^ 53 → Held binary64 (d * 2 ^ shift)
    held_steps shift far d l = held_digits binary64 d 53 shift l (omega arith) far

    below_two : T (finite (level_payment P r f))
    unfolding level_payment product
    below_two =
        finite_quotient (2 ^ 52) (2 ^ 1021) (2 ^ 1022) stepped.0 one_steps (sum_units ∙ stepped.1) stepped.2 (subst (λ (z : ℕ). units P ≤ 2 ^ 1022 * z) (sym one_units) small)
        (held_steps 2043 (omega arith)) (held_steps 2044 (omega arith)) (held_steps 1022 (omega arith))
        (subst (λ (z : ℕ). Held binary64 (3 * (2 ^ 1022 * z))) (sym one_units) (held_digits binary64 3 2 2096 (omega arith) (omega arith) (omega arith))) (pow_pos 1022)

-- ---- of terms that are accepted, with a rate above 0 and a factor above 1
module _ (t : Terms) (lent : T (amount binary64 t.principal)) (months : 0 < t.term) (rises : lt plus_zero (rate_of t) ≡ true) (grows : lt one (factor_of t) ≡ true)
    (whole : T (finite (mul binary64 (mul binary64 t.principal (rate_of t)) (factor_of t)))) where
  finite_amount : (x low : Float) → T (amount binary64 low) → T (fits binary64 x) → lt low x ≡ true → T (finite x) → T (amount binary64 x)
  finite_amount x low known holds above no_infinity =
      elim (above_amount binary64 x low known holds (passes above)) [
        | inl a ↦ a
        | inr e ↦ absurd (rw e at no_infinity)
      ]

  rate_amount : T (amount binary64 (rate_of t))
  rate_amount =
      finite_amount (rate_of t) plus_zero (zero_amount binary64) (rate_held t) rises
      (factors_finite binary64 t.principal (rate_of t) (factors_finite binary64 (mul binary64 t.principal (rate_of t)) (factor_of t) whole).0).1

  factor_amount : T (amount binary64 (factor_of t))
  factor_amount = finite_amount (factor_of t) one one_amount (factor_held t) grows (factors_finite binary64 (mul binary64 t.principal (rate_of t)) (factor_of t) whole).1

  -- the sum 1 + r
  abbrev sum : Float
  sum = add binary64 one (rate_of t)

  from_one : le one sum ≡ true
  from_one = sum_from_one (rate_of t) (rate_held t) rises

  to_factor : le sum (factor_of t) ≡ true
  to_factor = factor_not_below (rate_of t) t.term (rate_held t) rises months

  sum_amount : T (amount binary64 sum)
  sum_amount =
      amount_by_tests binary64 sum (is_true _ (add-fits binary64 one (rate_of t)))
      (finite_within one sum (factor_of t) (is_true _ (amount_finite binary64 one one_amount)) (is_true _ (amount_finite binary64 (factor_of t) factor_amount)) from_one to_factor)
      (not_above_lem plus_zero sum (le_trans plus_zero one sum zero_under_one from_one))

  sum_above : units one < units sum
  sum_above = go (lt one sum) refl
    where
      go : (b : Bool) → lt one sum ≡ b → units one < units sum
      go true e = (lt_amount binary64 one sum one_amount sum_amount).0 (passes e)
      go false e =
          let level = equal_between sum one (at_or_below_real sum one (second_real one sum from_one) (first_real one sum from_one) e) from_one in
          let same = equal_same binary64 sum one (add-fits binary64 one (rate_of t)) (amount_fits binary64 one one_amount) one_nonzero level in
          clash (sym (not_above_lem (factor_of t) one (eq_le (factor_of t) one ((vanishes_exactly (rate_of t) t.term (rate_held t) rises months).1 same))) ∙ grows)

  level_finite : le t.principal most ≡ true → T (finite (level_payment t.principal (rate_of t) (factor_of t)))
  level_finite small = go (lt (factor_of t) two) refl
    where
      go : (b : Bool) → lt (factor_of t) two ≡ b → T (finite (level_payment t.principal (rate_of t) (factor_of t)))
      go true e =
          below_two t.principal (rate_of t) (factor_of t) lent rate_amount factor_amount (subst (λ (z : ℕ). units t.principal ≤ z) most_units ((le_amount binary64 t.principal most lent most_amount).0 (passes small))) sum refl sum_amount sum_above
          ((le_amount binary64 sum (factor_of t) sum_amount factor_amount).0 (passes to_factor)) ((lt_amount binary64 (factor_of t) two factor_amount two_amount).0 (passes e))
      go false e =
          from_two t.principal (rate_of t) (factor_of t) lent rate_amount factor_amount whole
          ((le_amount binary64 two (factor_of t) two_amount factor_amount).0
          (passes (at_or_below two (factor_of t) (is_true _ (amount_finite binary64 two two_amount)) (is_true _ (amount_finite binary64 (factor_of t) factor_amount)) e)))

-- "for 0 < r ≤ 1, P at most 2^1022, f above 1 and P·r·f finite the payment is finite", of every accepted loan; what r is above 0 does not matter
pub payment_finite : (t : Terms) (p : Float) → T (fits binary64 t.principal) → monthly_payment t ≡ accepted p → lt plus_zero (rate_of t) ≡ true → le t.principal most ≡ true → lt one (factor_of t) ≡ true
    → T (finite (mul binary64 (mul binary64 t.principal (rate_of t)) (factor_of t))) → T (finite p)
unfolding payment
payment_finite t p fit e rises small grows whole =
    let good = terms_accepted t p e in
    subst (λ (z : Float). T (finite z)) (sym (payment_accepted t p e ∙ level_at (eq (factor_of t) one) (above_one (factor_of t) grows) (equal_part t.principal t.term) (level_payment t.principal (rate_of t) (factor_of t))))
    (level_finite t (amount_passed t.principal fit good.0) (some_term t.term good.1) rises grows whole small)
  where
    level_at : (b : Bool) → b ≡ false → (equal level : Float) → cond b equal level ≡ level
    level_at b e equal level = rw e

    above_one : (f : Float) → lt one f ≡ true → eq f one ≡ false
    above_one f l = go (eq f one) (eq_le f one)
      where
        go : (b : Bool) → (b ≡ true → le f one ≡ true) → b ≡ false
        go false h = refl
        go true h = clash (sym (not_above_lem f one (h refl)) ∙ l)
