-- Segments looked for among all knots but the last: where a segment serves that has an end it is the same, and where none does the curve is flat, or the time is a NaN and so is every answer.
-- Assumes nothing.
use mathlib.Core.Path.{◌≡◌, refl, sym, ap, ◌∙◌}
use mathlib.Core.Logic.{◌⊎◌, inl, inr, ⊎_elim}
use mathlib.Core.Bool.{Bool, true, false}
use mathlib.Core.List.{List, [], ◌∷◌}
use Prim.Native.Nat.{ℕ, zero, suc, ◌-◌, ◌<◌, ◌≤◌}
use native.Mathlib.Omega.{arith}
use lib.Dec.{ltb}
use lib.ListN.{length, take}
use lib.Seq.{length-take-le, get_or-take}
use lib.Ieee.{Float, nan, inf, fin, binary64, add, sub, mul, div, lt, le}
use borrow.Author.Tests.{ltb-true, ltb-false}
use Rattle.numbers.proofs.Comparing.{clash, at_or_below, lt_le}
use Rattle.curves.specs.declared.kinds.Kind.{Kind}
use Rattle.curves.specs.declared.kinds.Kind.TheVariants as kind_is
use Rattle.curves.specs.Segments.{knot, last_of, flat_outside, Ends, ends_of, Rising}
use Rattle.curves.specs.Formulas.{along_yields, share, along_zeros, along_rates}
use Rattle.curves.specs.Kinds.{served_by, along, rate_on}
use Rattle.curves.specs.inner.Halving.{Rule, ending, starting, segment_by, passes}
use Rattle.curves.proofs.Serving.{FirstPassing, by_rule, serves_before}

-- the front of times that rise rises
pub front_rises : (times : List Float) (n : ℕ) → n ≤ length times → Rising times → Rising (take n times)
front_rises times n few rises k less =
    let counted : length (take n times) ≡ n = length-take-le n times few in
    rw (get_or-take n times k nan (omega arith), get_or-take n times (suc k) nan (omega arith)) (rises k (omega arith))

-- ---- all knots but the last
module _ {test : Float → Bool} {serving : List Float → ℕ} (rule : FirstPassing test serving) where
  same_segment : (ts : List Float) (n : ℕ) → length ts ≡ suc n → serving ts < n → serving (take n ts) ≡ serving ts
  same_segment [] n e h = absurd (omega arith)
  same_segment (a ∷ []) n e h = absurd (omega arith)
  same_segment (a ∷ b ∷ ts) zero e h = absurd (omega arith)
  same_segment (a ∷ b ∷ []) (suc n) e h =
      let z : n ≡ 0 = omega arith in
      let s : serving (a ∷ b ∷ []) ≡ 0 = omega arith in
      rw z (rule.single a ∙ sym s)
  same_segment (a ∷ b ∷ c ∷ ts) (suc zero) e h = absurd (omega arith)
  same_segment (a ∷ b ∷ c ∷ ts) (suc (suc n)) e h = go (test b) refl (same_segment (b ∷ c ∷ ts) (suc n) (omega arith))
    where
      go : (t : Bool) → test b ≡ t → (serving (b ∷ c ∷ ts) < suc n → serving (b ∷ take n (c ∷ ts)) ≡ serving (b ∷ c ∷ ts))
          → serving (a ∷ b ∷ take n (c ∷ ts)) ≡ serving (a ∷ b ∷ c ∷ ts)
      go true p ih = rule.first a b (take n (c ∷ ts)) ∙ rw p (sym (rule.first a b (c ∷ ts) ∙ rw p))
      go false p ih =
          let s : serving (a ∷ b ∷ c ∷ ts) ≡ suc (serving (b ∷ c ∷ ts)) = rule.first a b (c ∷ ts) ∙ rw p in
          rule.first a b (take n (c ∷ ts)) ∙ rw p (ap suc (ih (omega arith)) ∙ sym s)

  -- where no segment serves that has an end, the last knot does not pass
  last_fails : (ts : List Float) (n : ℕ) → length ts ≡ suc n → 0 < n → n ≤ serving ts → test (knot ts n) ≡ false
  last_fails ts n e some h = go (test (knot ts n)) refl
    where
      go : (b : Bool) → test (knot ts n) ≡ b → b ≡ false
      go false p = refl
      go true p =
          let i : suc (n - 1) ≡ n = omega arith in
          let s : serving ts ≤ n - 1 = serves_before rule ts (n - 1) (omega arith) (ap (λ (k : ℕ). test (knot ts k)) i ∙ p) in
          absurd (omega arith)

-- ---- a time that the last knot does not pass is at or past it, or a NaN
past_last : (t last : Float) → (last ≡ nan → ⊥) → lt t last ≡ false → (le last t ≡ true) ⊎ (t ≡ nan)
unfolding lt le
past_last nan last n h = inr refl
past_last (inf s) nan n h = absurd (n refl)
past_last (inf true) (inf true) n h = inl refl
past_last (inf true) (inf false) n h = clash (sym h)
past_last (inf false) (inf true) n h = inl refl
past_last (inf false) (inf false) n h = inl refl
past_last (inf true) (fin s m e) n h = clash (sym h)
past_last (inf false) (fin s m e) n h = inl refl
past_last (fin s m e) nan n h = absurd (n refl)
past_last (fin s m e) (inf true) n h = inl refl
past_last (fin s m e) (inf false) n h = clash (sym h)
past_last (fin s m e) (fin s' m' e') n h = inl (at_or_below (fin s' m' e') (fin s m e) refl refl h)

by_either : (rule : Rule) (t last : Float) → passes rule t last ≡ false → lt t last ≡ false
unfolding passes
by_either ending t last h = go (lt t last) refl
  where
    go : (b : Bool) → lt t last ≡ b → b ≡ false
    go false e = refl
    go true e = clash (sym h ∙ lt_le t last e)
by_either starting t last h = h

after_another : (x y : Float) → lt x y ≡ true → y ≡ nan → ⊥
unfolding lt
after_another nan y e z = clash e
after_another (inf s) nan e z = clash e
after_another (inf s) (inf s') e z = let w : ◌≡◌ {A = ℕ} 0 1 = cc in omega arith
after_another (inf s) (fin s' m' e') e z = let w : ◌≡◌ {A = ℕ} 0 1 = cc in omega arith
after_another (fin s m d) nan e z = clash e
after_another (fin s m d) (inf s') e z = let w : ◌≡◌ {A = ℕ} 0 1 = cc in omega arith
after_another (fin s m d) (fin s' m' e') e z = let w : ◌≡◌ {A = ℕ} 0 1 = cc in omega arith

-- ---- of a NaN every formula gives a NaN
add_nan : (x : Float) → add binary64 x nan ≡ nan
unfolding add
add_nan nan = refl
add_nan (inf s) = refl
add_nan (fin s m e) = refl

mul_nan : (x : Float) → mul binary64 x nan ≡ nan
unfolding mul
mul_nan nan = refl
mul_nan (inf s) = refl
mul_nan (fin s m e) = refl

nan_sub : (x : Float) → sub binary64 nan x ≡ nan
unfolding sub
nan_sub x = refl

nan_div : (x : Float) → div binary64 nan x ≡ nan
unfolding div
nan_div x = refl

nan_mul : (x : Float) → mul binary64 nan x ≡ nan
unfolding mul
nan_mul x = refl

along_nan : (kind : Kind) (e : Ends) → along kind e nan ≡ nan
unfolding along along_yields along_zeros share along_rates
along_nan kind_is.YieldCurve e = rw (nan_sub e.t0, nan_div (sub binary64 e.t1 e.t0), nan_mul (sub binary64 e.r1 e.r0)) (add_nan e.r0)
along_nan kind_is.DiscountCurve e = rw (nan_sub e.t0, nan_div (sub binary64 e.t1 e.t0), mul_nan e.r1) (add_nan _)
along_nan kind_is.SpreadCurve e = rw (nan_sub e.t0, mul_nan (sub binary64 e.r1 e.r0), nan_div (sub binary64 e.t1 e.t0)) (add_nan e.r0)

-- ---- so the rate is the same
module _ (times rates : List Float) (n : ℕ) (counted : length times ≡ suc n) (some : 0 < n) (rises : Rising times) where
  last_is : last_of times ≡ knot times n
  last_is = let e : length times - 1 ≡ n = omega arith in ap (knot times) e

  last_real : last_of times ≡ nan → ⊥
  last_real z =
      let i : suc (n - 1) ≡ n = omega arith in
      after_another (knot times (n - 1)) (knot times n) (ap (λ (k : ℕ). lt (knot times (n - 1)) (knot times k)) (sym i) ∙ rises (n - 1) (omega arith)) (sym last_is ∙ z)

  module _ (kind : Kind) (t : Float) where
    module _ (rule : Rule) where
      abbrev by : ℕ → Float
      by i = flat_outside times rates t (along kind (ends_of times rates i) t)

      flat_past : le (last_of times) t ≡ true → (i j : ℕ) → by i ≡ by j
      unfolding flat_outside
      flat_past h i j = rw h

      by_nan : t ≡ nan → (i j : ℕ) → by i ≡ by j
      by_nan z i j = ap (flat_outside times rates t) (rw z (along_nan kind (ends_of times rates i) ∙ sym (along_nan kind (ends_of times rates j))))

      same_rate : by (segment_by rule (take n times) t) ≡ by (segment_by rule times t)
      same_rate = go (ltb (segment_by rule times t) n) (ltb-true (segment_by rule times t) n) (ltb-false (segment_by rule times t) n)
        where
          go : (b : Bool) → (b ≡ true → segment_by rule times t < n) → (b ≡ false → n ≤ segment_by rule times t) → by (segment_by rule (take n times) t) ≡ by (segment_by rule times t)
          go true inner none = ap by (same_segment (by_rule rule t) times n counted (inner refl))
          go false inner none =
              ⊎_elim (λ h. flat_past h _ _) (λ z. by_nan z _ _)
              (past_last t (last_of times) last_real (by_either rule t (last_of times) (ap (passes rule t) last_is ∙ last_fails (by_rule rule t) times n counted some (none refl))))

  pub inner_rate : (kind : Kind) (t : Float) → flat_outside times rates t (along kind (ends_of times rates (served_by kind (take n times) t)) t) ≡ rate_on kind times rates t
  unfolding rate_on served_by segment_by
  inner_rate kind_is.YieldCurve t = same_rate kind_is.YieldCurve t ending
  inner_rate kind_is.DiscountCurve t = same_rate kind_is.DiscountCurve t ending
  inner_rate kind_is.SpreadCurve t = same_rate kind_is.SpreadCurve t starting
