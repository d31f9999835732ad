-- The payment's own laws. The machine holds it. Where the factor is 1 it is P/n, rounded once; the factor is 1 at a rate of 0, at a rate of -24 with an even term, and at a rate above 0 exactly where
-- 1 + r rounds to 1. Elsewhere the payment is document 01's. Assumes nothing.
use mathlib.Core.Path.{◌≡◌, refl, ap, ◌∙◌}
use mathlib.Core.Logic.{◌↔◌, inl, inr}
use mathlib.Core.Bool.{Bool, true, false, cond}
use mathlib.Core.List.{[]}
use Prim.Native.Nat.{ℕ, ◌*◌, ◌%◌, ◌≤◌, ◌<◌, ◌^◌}
use native.Mathlib.Nat.{mul-pos}
use native.Mathlib.Omega.{arith}
use lib.IntN.{pos}
use lib.Dec.{T}
use lib.Ieee.{Float, nan, inf, fin, binary64, up, down, unlike, round, neg, add, div, lt, le, eq, fits, of_int, of_bits}
use lib.Ieee.Bits.{is_true}
use lib.Ieee.Back.{round_whole}
use lib.Ieee.Exact.{HasValue}
use lib.Ieee.Fits.{up_pos, down_pos, cond-fits, add-fits, div-fits}
use lib.Ieee.Scale.{finite, round_same}
use borrow.Author.Tests.{ne_eqb}
use Rattle.numbers.specs.Literals.{one, two}
use Rattle.numbers.specs.Clamps.{plus_zero}
use Rattle.numbers.proofs.Amounts.{passes}
use Rattle.numbers.proofs.Order.{zero_amount, above_amount}
use Rattle.numbers.proofs.Comparing.{clash, eq_le, equal_between, le_trans, eq_itself}
use Rattle.numbers.proofs.Growing.{sum_not_below}
use Rattle.elementary.specs.WholePower.{whole_power}
use Rattle.elementary.proofs.Unrounded.{nonzero, equal_same, add_zero, unlike_plus}
use Rattle.elementary.proofs.WholePowers.{power_of_one, even_power_of_minus_one, power_not_below, power_held}
use Rattle.refusals.specs.Outcome.{accepted}
use Rattle.refusals.specs.Table.{bad_amount, bad_term}
use Rattle.refusals.proofs.Causes.{some_term, term_within}
use Rattle.refusals.proofs.Verdicts.{accepted_value}
use Rattle.records.specs.declared.Terms.{Terms}
use Rattle.mortgage.specs.Terms.{terms_lines}
use Rattle.mortgage.proofs.TermsLaws.{terms_passed}
use Rattle.mortgage.specs.Payment.{monthly_rate, growth, equal_part, level_payment, payment, monthly_payment}

-- "r" and "f" of the terms
abbrev pub rate_of : Terms → Float
rate_of t = monthly_rate t.rate

abbrev pub factor_of : Terms → Float
factor_of t = growth (rate_of t) t.term

-- ---- the machine holds it: either way it is a quotient
pub rate_held : (t : Terms) → T (fits binary64 (rate_of t))
unfolding monthly_rate
rate_held t = div-fits binary64 _ _

pub factor_held : (t : Terms) → T (fits binary64 (factor_of t))
unfolding growth
factor_held t = power_held _ t.term

pub payment_held : (t : Terms) → T (fits binary64 (payment t))
unfolding payment equal_part level_payment
payment_held t =
    cond-fits binary64 (eq (factor_of t) one) (equal_part t.principal t.term) (level_payment t.principal (rate_of t) (factor_of t)) (div-fits binary64 _ _) (div-fits binary64 _ _)

-- ---- P/n, rounded once: of all values the one nearest to the exact quotient, with the sign of P
abbrev pub nearest_part : Float → ℕ → Float
nearest_part nan n = nan
nearest_part (inf s) n = inf s
nearest_part (fin s m e) n = round binary64 s (m * up e) (n * down e)

part_of_value : (x y : Float) (n : ℕ) → 0 < n → HasValue y false n 1 → div binary64 x y ≡ nearest_part x n
unfolding div
part_of_value x nan n N v = absurd v
part_of_value x (inf t) n N v = absurd v
part_of_value nan (fin t k d) n N v = refl
part_of_value (inf s) (fin t k d) n N v = ap inf (ap (unlike s) v.0 ∙ unlike_plus s)
part_of_value (fin s m e) (fin t k d) n N v =
    rw (ne_eqb k 0 (λ (z : k ≡ 0). some (up d) (down d) (down_pos d) z v.1))
    (ap (λ (b : Bool). round binary64 b (m * up e * down d) (k * up d * down e)) (ap (unlike s) v.0 ∙ unlike_plus s)
    ∙ round_same binary64 s (m * up e * down d) (k * up d * down e) (m * up e) (n * down e) (mul-pos (mul-pos (above k (λ (z : k ≡ 0). some (up d) (down d) (down_pos d) z v.1)) (up_pos d)) (down_pos e))
    (mul-pos N (down_pos e)) (turn (m * up e) (k * up d) (down e) (down d) v.1))
  where
    some : (u c : ℕ) → 0 < c → k ≡ 0 → k * u * 1 ≡ n * c → ⊥
    some u c C z h = go (rw z at h)
      where
        go : 0 * u * 1 ≡ n * c → ⊥
        go h = let p = mul-pos N C in omega arith

    above : (k : ℕ) → (k ≡ 0 → ⊥) → 0 < k
    above k z = omega (arith, z)

    turn : (M K c i : ℕ) → K * 1 ≡ n * i → M * i * (n * c) ≡ M * (K * c)
    turn M K c i h = omega (arith, ap (λ (j : ℕ). M * c * j) h)

pub equal_part_is_nearest : (x : Float) (n : ℕ) → 0 < n → n ≤ 2 ^ 53 → equal_part x n ≡ nearest_part x n
unfolding equal_part of_int
equal_part_is_nearest x n N l = part_of_value x (of_int binary64 (pos n)) n N (round_whole binary64 false n l)

-- "Whenever the factor equals 1 the payment becomes P/n"
pub equal_part_at_one : (t : Terms) → eq (factor_of t) one ≡ true → payment t ≡ equal_part t.principal t.term
unfolding payment
equal_part_at_one t h = rw h

-- ---- of every accepted loan
module _ (t : Terms) (p : Float) (e : monthly_payment t ≡ accepted p) where
  pub payment_accepted : p ≡ payment t
  unfolding monthly_payment
  payment_accepted = accepted_value (terms_lines t) (payment t) p e

  pub terms_accepted : (bad_amount t.principal ≡ false) × (bad_term t.term ≡ false)
  unfolding monthly_payment
  terms_accepted = let w = terms_passed t [] (payment t) p e in (w.0, w.1)

  pub rounded_once : eq (factor_of t) one ≡ true → p ≡ nearest_part t.principal t.term
  rounded_once h =
      payment_accepted
      ∙ equal_part_at_one t h
      ∙ equal_part_is_nearest t.principal t.term (some_term t.term terms_accepted.1) (few t.term (term_within t.term terms_accepted.1))
    where
      few : (n : ℕ) → n ≤ 1200 → n ≤ 2 ^ 53
      few n l = omega arith

-- ---- where the factor is 1
growth_at_one : (r : Float) (n : ℕ) → add binary64 one r ≡ one → growth r n ≡ one
unfolding growth
growth_at_one r n e = ap (λ (b : Float). whole_power b n) e ∙ power_of_one n

one_held : T (fits binary64 one)
unfolding fits of_bits
one_held = tt

pub one_nonzero : T (nonzero one)
unfolding of_bits
one_nonzero = tt

one_finite : T (finite one)
unfolding of_bits
one_finite = tt

-- what is 1 equals 1
at_one : {x : Float} → x ≡ one → eq x one ≡ true
at_one e = ap (λ (f : Float). eq f one) e ∙ eq_itself one (is_true _ one_finite)

-- a rate of 0
pub zero_rate : (r : Float) (n : ℕ) → eq r plus_zero ≡ true → growth r n ≡ one
zero_rate r n z = growth_at_one r n (add_zero binary64 one r one_held one_nonzero z)

-- so document 01's own test of the rate would change no payment
pub zero_test_idle : (t : Terms) → payment t ≡ cond (eq (rate_of t) plus_zero) (equal_part t.principal t.term) (payment t)
zero_test_idle t = go (eq (rate_of t) plus_zero) (λ (z : eq (rate_of t) plus_zero ≡ true). equal_part_at_one t (at_one (zero_rate (rate_of t) t.term z)))
  where
    go : (b : Bool) → (b ≡ true → payment t ≡ equal_part t.principal t.term) → payment t ≡ cond b (equal_part t.principal t.term) (payment t)
    go true h = h refl
    go false h = refl

-- and where only a rate of 0 makes the factor 1 the payment is document 01's, "if r is 0, P/n; else P·r·f/(f-1)"
pub as_before : (t : Terms) → (eq (factor_of t) one ≡ true → eq (rate_of t) plus_zero ≡ true)
    → payment t ≡ cond (eq (rate_of t) plus_zero) (equal_part t.principal t.term) (level_payment t.principal (rate_of t) (factor_of t))
unfolding payment
as_before t h =
    same (eq (rate_of t) plus_zero) (eq (factor_of t) one) (equal_part t.principal t.term) (level_payment t.principal (rate_of t) (factor_of t)) h
    (λ (z : eq (rate_of t) plus_zero ≡ true). at_one (zero_rate (rate_of t) t.term z))
  where
    same : (z f : Bool) (equal level : Float) → (f ≡ true → z ≡ true) → (z ≡ true → f ≡ true) → cond f equal level ≡ cond z equal level
    same true true equal level a b = refl
    same false false equal level a b = refl
    same true false equal level a b = clash (b refl)
    same false true equal level a b = clash (a refl)

-- r = -2, a rate of -24 a year, with an even term
pub minus_two_even : (n : ℕ) → n % 2 ≡ 0 → growth (neg two) n ≡ one
unfolding growth neg add of_bits
minus_two_even n e = even_power_of_minus_one n e

-- a rate above 0: 1 + r is 1 or more, and so is the factor
pub sum_from_one : (r : Float) → T (fits binary64 r) → lt plus_zero r ≡ true → le one (add binary64 one r) ≡ true
sum_from_one r t h =
    is_true _ (elim (above_amount binary64 r plus_zero (zero_amount binary64) t (passes h)) [
      | inl a ↦ sum_not_below binary64 one r one_finite one_held a
      | inr e ↦ rw e endless
    ])
  where
    endless : T (le one (add binary64 one (inf false)))
    endless = unfold le lt add of_bits in tt

pub factor_not_below : (r : Float) (n : ℕ) → T (fits binary64 r) → lt plus_zero r ≡ true → 0 < n → le (add binary64 one r) (growth r n) ≡ true
unfolding growth
factor_not_below r n t h l = power_not_below (add binary64 one r) n (add-fits binary64 one r) (sum_from_one r t h) l

-- it is 1 exactly where 1 + r rounds to 1
pub vanishes_exactly : (r : Float) (n : ℕ) → T (fits binary64 r) → lt plus_zero r ≡ true → 0 < n → (eq (growth r n) one ≡ true) ↔ (add binary64 one r ≡ one)
vanishes_exactly r n t h l = (
  λ (e : eq (growth r n) one ≡ true). equal_same binary64 (add binary64 one r) one (add-fits binary64 one r) one_held one_nonzero
      (equal_between (add binary64 one r) one (le_trans (add binary64 one r) (growth r n) one (factor_not_below r n t h l) (eq_le (growth r n) one e)) (sum_from_one r t h)),
  λ (e : add binary64 one r ≡ one). at_one (growth_at_one r n e),
)
