-- Zeros: +0 as data, nothing rounds to a zero of its own sign, and x - x is +0 for every finite x. Assumes nothing.
use Rattle.std.proofs.Common.{◌≡◌, ℕ, ◌-◌, ◌*◌, ◌<◌, Bool, true, false, cond, not, ◌&&◌, T, ltb, pos, sym, refl, ap, ◌∙◌, lt_irrefl, zero-lt-suc, mul-pos, zero-mul, ltb→lt}
use native.Mathlib.Nat.{sub_self}
use lib.Ieee.{Float, nan, inf, fin, Format, binary32, binary64, up, down, round, sum, sub, of_bits}
use lib.Ieee.Fits.{down_pos}
use lib.Ieee.Scale.{finite, round_same}
use Rattle.numbers.specs.Clamps.{plus_zero}

pub plus_zero_lem : plus_zero ≡ fin false 0 (pos 0)
unfolding of_bits
plus_zero_lem = refl

round_nothing_over_one : (f : Format) (s : Bool) → round f s 0 1 ≡ fin s 0 (pos 0)
unfolding round
round_nothing_over_one binary32 s = refl
round_nothing_over_one binary64 s = refl

pub round_nothing : (f : Format) (s : Bool) (c : ℕ) → 0 < c → round f s 0 c ≡ fin s 0 (pos 0)
round_nothing f s c C = round_same f s 0 c 0 1 C (zero-lt-suc 0) (zero-mul 1 ∙ sym (zero-mul c)) ∙ round_nothing_over_one f s

-- X / c less itself, of either sign
less_itself : (f : Format) (s : Bool) (X c : ℕ) → 0 < c → sum f s X (not s) X c ≡ fin false 0 (pos 0)
unfolding sum
less_itself f false X c C = go (ltb X X) (ltb→lt X X)
  where
    go : (b : Bool) → (T b → X < X) → cond b (round f true (X - X) c) (round f false (X - X) c) ≡ fin false 0 (pos 0)
    go true k = absurd (lt_irrefl X (k tt))
    go false k = ap (λ (z : ℕ). round f false z c) (sub_self X) ∙ round_nothing f false c C
less_itself f true X c C = go (ltb X X) (ltb→lt X X)
  where
    go : (b : Bool) → (T b → X < X) → cond b (round f false (X - X) c) (round f (true && b) (X - X) c) ≡ fin false 0 (pos 0)
    go true k = absurd (lt_irrefl X (k tt))
    go false k = ap (λ (z : ℕ). round f false z c) (sub_self X) ∙ round_nothing f false c C

pub sub_itself : (f : Format) (x : Float) → T (finite x) → sub f x x ≡ fin false 0 (pos 0)
unfolding sub
sub_itself f nan t = absurd t
sub_itself f (inf s) t = absurd t
sub_itself f (fin s m e) t = less_itself f s (m * up e * down e) (down e * down e) (mul-pos (down_pos e) (down_pos e))
