-- `numbers::sizes::absolute_value` meets its contract: what is above zero has no sign, and anything else taken from 0 loses it. Assumes nothing.
use Rattle.std.proofs.Common.{◌≡◌, ℕ, ◌+◌, ◌-◌, ◌*◌, ◌≤◌, true, false, T, ltb, refl, subst, zero-lt-suc, mul-pos, arith, ltb-false}
use lib.Ieee.{Float, nan, inf, fin, binary64, up, down, lt, sub, of_bits, fits}
use lib.Ieee.Fits.{down_pos}
use Rattle.numbers.specs.Clamps.{plus_zero}
use Rattle.numbers.specs.Sizes.{absolute}
use Rattle.numbers.proofs.Amounts.{passes, amount_fits}
use Rattle.numbers.proofs.Values.{unsigned, round_itself}
use Rattle.numbers.proofs.sizes.absolute_value.Goals as goal

above : (x : Float) → lt plus_zero x ≡ true → x ≡ absolute x
unfolding lt absolute of_bits
above nan h = absurd (passes h)
above (inf true) h = absurd (passes h)
above (inf false) h = refl
above (fin true m e) h = absurd (passes h)
above (fin false m e) h = refl

from_zero : (x : Float) → T (fits binary64 x) → lt plus_zero x ≡ false → sub binary64 plus_zero x ≡ absolute x
unfolding lt sub absolute of_bits
from_zero nan t h = refl
from_zero (inf true) t h = refl
from_zero (inf false) t h = absurd (subst T h tt)
from_zero (fin true m e) t h =
    round_itself binary64 false m e _ _ (amount_fits binary64 (fin false m e) (unsigned binary64 true m e t)) (mul-pos (zero-lt-suc 0) (down_pos e)) (turn m (up e) (down e))
  where
    turn : (m u d : ℕ) → (0 * 1 * d + m * u * 1) * d ≡ m * u * (1 * d)
    turn m u d = omega arith
from_zero (fin false m e) t h =
    let g : ltb (0 * down e) (m * up e * 1) ≡ false = h in
    rw g (round_itself binary64 false m e (0 * down e - m * up e * 1) (1 * down e) t (mul-pos (zero-lt-suc 0) (down_pos e)) (nothing (m * up e) (down e) (ltb-false (0 * down e) (m * up e * 1) g)))
  where
    nothing : (M d : ℕ) → M * 1 ≤ 0 * d → (0 * d - M * 1) * d ≡ M * (1 * d)
    nothing M d h = go (0 * d - M * 1) M (omega arith) (omega arith)
      where
        go : (k M : ℕ) → k ≡ 0 → M ≡ 0 → k * d ≡ M * (1 * d)
        go k M a b = rw (a, b) (omega arith)

pub returns-then-x : goal.returns-then-x
returns-then-x c = above _ c.if-x.true

pub returns-else-x : goal.returns-else-x
returns-else-x c = from_zero _ (passes c.well_formed.0.1) c.if-x.false
