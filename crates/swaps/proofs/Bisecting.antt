-- A bisection, for any error: the loop of halvings, the first two of them, and the ends that they begin from. Assumes nothing.
use mathlib.Core.Path.{◌≡◌, refl, sym, ap, ◌∙◌}
use mathlib.Core.Bool.{Bool, true, false, cond}
use mathlib.Core.List.{List, [], ◌∷◌, map}
use Prim.Native.Nat.{ℕ, zero, suc, ◌-◌, ◌<◌}
use native.Mathlib.Omega.{arith}
use lib.Dec.{lit<}
use lib.ListN.{get_or}
use lib.Ieee.{Float, nan, binary64, round, neg, add, sub, mul, lt, of_bits}
use Rattle.numbers.specs.Literals.{one, two, five, minus_one, half, ten_to_minus16}
use Rattle.numbers.specs.Clamps.{plus_zero}
use Rattle.curves.proofs.Choices.{by_first, by_second}
use Rattle.swaps.specs.inner.Knots.{with_rate}
use Rattle.swaps.proofs.Thirds.{lower, upper, ends_are}
use Rattle.swaps.specs.Bootstrap.{par_error, middle, lower_end, upper_end, bisected, no_change, solved_or}

module _ (error : Float → Float) (lo hi : Float) where
  module _ (lo' hi' : Float) (is_lo : lo' ≡ lower_end error lo hi) (is_hi : hi' ≡ upper_end error lo hi) where
    turn : (n : ℕ) (b : Bool) → 0 < n → lt (sub binary64 hi' lo') ten_to_minus16 ≡ b → bisected error n lo hi ≡ cond b (middle lo' hi') (bisected error (n - 1) lo' hi')
    unfolding bisected
    turn zero b h e = absurd (omega arith)
    turn (suc n) b h e =
        let less : n ≡ suc n - 1 = omega arith in
        rw (sym is_lo, sym is_hi, e) (ap (λ (k : ℕ). cond b (middle lo' hi') (bisected error k lo' hi')) less)

    pub stops : (n : ℕ) → 0 < n → lt (sub binary64 hi' lo') ten_to_minus16 ≡ true → bisected error n lo hi ≡ middle lo' hi'
    stops n h e = turn n true h e

    pub goes_on : (n : ℕ) → 0 < n → lt (sub binary64 hi' lo') ten_to_minus16 ≡ false → bisected error n lo hi ≡ bisected error (n - 1) lo' hi'
    goes_on n h e = turn n false h e

  pub all_halved : (n : ℕ) → n ≡ 0 → bisected error n lo hi ≡ middle lo hi
  unfolding bisected
  all_halved n e = rw e

-- ---- the first two leave widths of 3 and 1.5
wide : (b : Bool) → lt (sub binary64 (upper b minus_one five) (lower b minus_one five)) ten_to_minus16 ≡ false
unfolding add sub mul round lt of_bits
wide true = refl
wide false = refl

wide_still : (b d : Bool)
    → lt (sub binary64 (upper d (lower b minus_one five) (upper b minus_one five)) (lower d (lower b minus_one five) (upper b minus_one five))) ten_to_minus16 ≡ false
unfolding add sub mul round lt of_bits
wide_still true true = refl
wide_still true false = refl
wide_still false true = refl
wide_still false false = refl

module _ (error : Float → Float) (e second lo' hi' lo'' hi'' : Float)
    (is_e : e ≡ error (middle minus_one five)) (p : lo' ≡ lower (lt plus_zero e) minus_one five) (q : hi' ≡ upper (lt plus_zero e) minus_one five)
    (is_second : second ≡ error (middle lo' hi')) (p' : lo'' ≡ lower (lt plus_zero second) lo' hi') (q' : hi'' ≡ upper (lt plus_zero second) lo' hi') where
  first_two : bisected error 200 minus_one five ≡ bisected error 198 lo'' hi''
  first_two =
      let f = ends_are error minus_one five e is_e lo' hi' p q in
      let g = ends_are error lo' hi' second is_second lo'' hi'' p' q' in
      goes_on error minus_one five lo' hi' f.0 f.1 200 (lit< tt) (rw (p, q) (wide (lt plus_zero e)))
      ∙ goes_on error lo' hi' lo'' hi'' g.0 g.1 199 (lit< tt) (rw (p', q', p, q) (wide_still (lt plus_zero e) (lt plus_zero second)))

-- the lower end as the code has it
pub minus_one_lem : neg one ≡ minus_one
unfolding neg of_bits
minus_one_lem = refl

-- ---- what is tried first, as the code has it: the ends, the middle, and the middles of its halves; 2, 0.5 and 3.5
abbrev three_and_half : Float
three_and_half = of_bits binary64 0x400c_0000_0000_0000

start_middle : two ≡ middle minus_one five
unfolding add mul round of_bits
start_middle = refl

upper_middle : three_and_half ≡ middle (middle minus_one five) five
unfolding add mul round of_bits
upper_middle = refl

lower_middle : half ≡ middle minus_one (middle minus_one five)
unfolding add mul round of_bits
lower_middle = refl

module _ (error : Float → Float) (errors : List Float) (are : errors ≡ map error (neg one ∷ five ∷ two ∷ half ∷ three_and_half ∷ two ∷ two ∷ two ∷ [])) where
  pub low_end_tried : get_or errors 0 nan ≡ error (neg one)
  low_end_tried = ap (λ (l : List Float). get_or l 0 nan) are

  pub high_end_tried : get_or errors 1 nan ≡ error five
  high_end_tried = ap (λ (l : List Float). get_or l 1 nan) are

  middle_tried : get_or errors 2 nan ≡ error (middle minus_one five)
  middle_tried = ap (λ (l : List Float). get_or l 2 nan) are ∙ ap error start_middle

  quarters : (b : Bool) → cond b (error three_and_half) (error half) ≡ error (middle (lower b minus_one five) (upper b minus_one five))
  quarters true = ap error upper_middle
  quarters false = ap error lower_middle

  module _ (second lo' hi' lo'' hi'' : Float)
      (p : lo' ≡ lower (lt plus_zero (get_or errors 2 nan)) (neg one) five) (q : hi' ≡ upper (lt plus_zero (get_or errors 2 nan)) (neg one) five)
      (is_second : second ≡ cond (lt plus_zero (get_or errors 2 nan)) (get_or errors 4 nan) (get_or errors 3 nan))
      (p' : lo'' ≡ lower (lt plus_zero second) lo' hi') (q' : hi'' ≡ upper (lt plus_zero second) lo' hi') where
    lower_is : lo' ≡ lower (lt plus_zero (get_or errors 2 nan)) minus_one five
    lower_is = p ∙ ap (λ (x : Float). lower (lt plus_zero (get_or errors 2 nan)) x five) minus_one_lem

    upper_is : hi' ≡ upper (lt plus_zero (get_or errors 2 nan)) minus_one five
    upper_is = q ∙ ap (λ (x : Float). upper (lt plus_zero (get_or errors 2 nan)) x five) minus_one_lem

    quarter_tried : second ≡ error (middle lo' hi')
    quarter_tried =
        is_second ∙ ap (λ (l : List Float). cond (lt plus_zero (get_or errors 2 nan)) (get_or l 4 nan) (get_or l 3 nan)) are
        ∙ quarters (lt plus_zero (get_or errors 2 nan)) ∙ rw (lower_is, upper_is)

    pub started : bisected error 200 minus_one five ≡ bisected error 198 lo'' hi''
    started = first_two error (get_or errors 2 nan) second lo' hi' lo'' hi'' middle_tried lower_is upper_is quarter_tried p' q'

module _ (error : Float → Float) where
  pub too_low : (missed : Float) → missed ≡ error (neg one) → lt missed plus_zero ≡ true → true ≡ no_change error
  unfolding no_change
  too_low missed e t = by_first _ _ (ap (λ (x : Float). lt x plus_zero) (ap error (sym minus_one_lem) ∙ sym e) ∙ t)

  pub too_high : (missed above : Float) → missed ≡ error (neg one) → lt missed plus_zero ≡ false → above ≡ error five → lt plus_zero above ≡ no_change error
  unfolding no_change
  too_high missed above e t a = ap (lt plus_zero) a ∙ by_second _ _ (ap (λ (x : Float). lt x plus_zero) (ap error (sym minus_one_lem) ∙ sym e) ∙ t)

  pub not_solved : (other : Float) → no_change error ≡ true → other ≡ solved_or error other
  unfolding solved_or
  not_solved other e = rw e

  pub solved : (other : Float) → no_change error ≡ false → bisected error 200 minus_one five ≡ solved_or error other
  unfolding solved_or
  solved other e = rw e

pub solved_at : (tenors earlier : List Float) (other : Float) {T c T' c' : Float} → T' ≡ T → c' ≡ c
    → solved_or (λ (x : Float). par_error tenors (with_rate earlier x) T' c') other ≡ solved_or (λ (x : Float). par_error tenors (with_rate earlier x) T c) other
solved_at tenors earlier other is_T is_c = rw (is_T, is_c)
