-- The four sums over a swap's periods as one loop adds them, period by period. Assumes nothing.
use mathlib.Core.Path.{◌≡◌, refl, sym, subst, ◌∙◌}
use mathlib.Core.Bool.{Bool, cond}
use mathlib.Core.List.{List}
use Prim.Native.Nat.{ℕ, ◌+◌}
use native.Mathlib.Numerals.{add-one}
use lib.Ieee.{Float, binary64, add, sub, mul, div, eq}
use Rattle.numbers.specs.Literals.{one}
use Rattle.numbers.specs.Clamps.{plus_zero}
use Rattle.numbers.specs.Sums.{added_up}
use Rattle.curves.proofs.Adding.{one_more}
use Rattle.swaps.specs.declared.legs.PaymentSums.{PaymentSums}
use Rattle.swaps.specs.declared.legs.BothSums.{BothSums}
use Rattle.swaps.specs.Discount.{discount_of}
use Rattle.swaps.specs.Periods.{Terms}
use Rattle.swaps.specs.Legs.{factor_at, counted, fixed_payment, forward, fixed_term, floating_term, annuity_term, timed_term, last_factor, fixed_leg, floating_leg, annuity, weighted_sum}
use Rattle.swaps.specs.inner.Runs.{Summed, SummedOnBoth, LegsOn}

-- an amount, or 0 where its period counts no day
abbrev pub where_days : Float → Float → Float
where_days part amount = cond (eq part plus_zero) plus_zero amount

abbrev pub nothing_yet : PaymentSums
nothing_yet = record { fixed = plus_zero; floating = plus_zero; annuity = plus_zero; timed = plus_zero; last = one }

module _ (t : Terms) (tenors zeros : List Float) where
  pub at_start : Summed t tenors zeros 0 nothing_yet
  unfolding added_up factor_at
  at_start = record { of_fixed = refl; of_floating = refl; of_annuity = refl; of_timed = refl; of_last = refl }

  module _ (k : ℕ) {notional rate part time factor : Float} (is_notional : notional ≡ t.notional) (is_rate : rate ≡ t.rate) (is_part : part ≡ t.periods.fraction k)
      (is_time : time ≡ t.periods.time k) (is_factor : factor ≡ discount_of tenors zeros (t.periods.time k)) where
    fixed_is : where_days part (mul binary64 (mul binary64 (mul binary64 notional rate) part) factor) ≡ fixed_term t tenors zeros k
    unfolding fixed_term counted fixed_payment factor_at
    fixed_is = rw (is_notional, is_rate, is_part, is_factor)

    floating_is : (before : Float) → before ≡ factor_at t tenors zeros k
        → where_days part (mul binary64 (mul binary64 (mul binary64 notional (div binary64 (sub binary64 (div binary64 before factor) one) part)) part) factor) ≡ floating_term t tenors zeros k
    unfolding floating_term counted forward factor_at
    floating_is before b = rw (is_notional, is_part, is_factor, b)

    annuity_is : where_days part (mul binary64 factor part) ≡ annuity_term t tenors zeros k
    unfolding annuity_term counted factor_at
    annuity_is = rw (is_part, is_factor)

    timed_is : where_days part (mul binary64 (mul binary64 time (mul binary64 (mul binary64 notional rate) part)) factor) ≡ timed_term t tenors zeros k
    unfolding timed_term counted fixed_payment factor_at
    timed_is = rw (is_notional, is_rate, is_part, is_time, is_factor)

    last_is : factor ≡ factor_at t tenors zeros (k + 1)
    unfolding factor_at
    last_is = rw (add-one k) is_factor

    -- one period more, whose four amounts are at hand
    pub one_period_more : (sums : PaymentSums) → Summed t tenors zeros k sums → {a b c d : Float}
        → a ≡ where_days part (mul binary64 (mul binary64 (mul binary64 notional rate) part) factor)
        → b ≡ where_days part (mul binary64 (mul binary64 (mul binary64 notional (div binary64 (sub binary64 (div binary64 sums.last factor) one) part)) part) factor)
        → c ≡ where_days part (mul binary64 factor part)
        → d ≡ where_days part (mul binary64 (mul binary64 time (mul binary64 (mul binary64 notional rate) part)) factor)
        → Summed t tenors zeros (k + 1)
        (record { fixed = add binary64 sums.fixed a; floating = add binary64 sums.floating b; annuity = add binary64 sums.annuity c; timed = add binary64 sums.timed d; last = factor })
    one_period_more sums h {a} {b} {c} {d} is_a is_b is_c is_d = record {
      of_fixed = one_more (fixed_term t tenors zeros) k sums.fixed a h.of_fixed (is_a ∙ fixed_is);
      of_floating = one_more (floating_term t tenors zeros) k sums.floating b h.of_floating (is_b ∙ floating_is sums.last h.of_last);
      of_annuity = one_more (annuity_term t tenors zeros) k sums.annuity c h.of_annuity (is_c ∙ annuity_is);
      of_timed = one_more (timed_term t tenors zeros) k sums.timed d h.of_timed (is_d ∙ timed_is);
      of_last = last_is;
    }

-- the same count in other words
pub so_many : (t : Terms) (tenors zeros : List Float) {k n : ℕ} (sums : PaymentSums) → k ≡ n → Summed t tenors zeros k sums → Summed t tenors zeros n sums
so_many t tenors zeros sums e h = subst (λ (m : ℕ). Summed t tenors zeros m sums) e h

pub so_many_on_both : (t : Terms) (tenors zeros higher : List Float) (both : Bool) {k n : ℕ} (sums : BothSums) → k ≡ n
    → SummedOnBoth t tenors zeros higher both k sums → SummedOnBoth t tenors zeros higher both n sums
so_many_on_both t tenors zeros higher both sums e h = subst (λ (m : ℕ). SummedOnBoth t tenors zeros higher both m sums) e h

pub both_at_start : (t : Terms) (tenors zeros higher : List Float) (both : Bool) {base other : PaymentSums} → base ≡ nothing_yet → other ≡ nothing_yet
    → SummedOnBoth t tenors zeros higher both 0 (record { base = base; higher = other })
both_at_start t tenors zeros higher both b o = record {
  on_base = subst (Summed t tenors zeros 0) (sym b) (at_start t tenors zeros);
  on_higher = λ h. subst (Summed t tenors higher 0) (sym o) (at_start t tenors higher);
}

-- the legs that the sums over all periods make
pub legs_are : (t : Terms) (tenors zeros : List Float) (sums : PaymentSums) → Summed t tenors zeros t.periods.count sums → (principal time last : Float)
    → principal ≡ t.notional → time ≡ t.periods.end → last ≡ discount_of tenors zeros time
    → LegsOn t tenors zeros
    (record {
      fixed = add binary64 sums.fixed (mul binary64 principal last);
      floating = add binary64 sums.floating (mul binary64 principal last);
      annuity = sums.annuity;
      weighted = add binary64 sums.timed (mul binary64 (mul binary64 time principal) last);
      last = last;
    })
unfolding fixed_leg floating_leg annuity weighted_sum last_factor
legs_are t tenors zeros sums h principal time last p e l = record {
  fixed_is = rw (h.of_fixed, p, l, e);
  floating_is = rw (h.of_floating, p, l, e);
  annuity_is = h.of_annuity;
  weighted_is = rw (h.of_timed, p, l, e);
  last_is = rw (l, e);
}
