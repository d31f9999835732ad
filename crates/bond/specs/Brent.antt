-- Brent's method with the Rust's branches in the Rust's order, one pass at a time. Definitions only. Assumes nothing.
use Rattle.std.specs.Prelude.{Bool, cond, ◌&&◌, ◌||◌, Float}
use Rattle.std.specs.Float.{binary64}
use Rattle.std.specs.Float.Ieee.{neg, add, sub, mul, div, lt, le}
use Rattle.numbers.specs.Literals.{one, two, three, half, ten_to_minus8, epsilon}
use Rattle.numbers.specs.Clamps.{plus_zero}
use Rattle.numbers.specs.Sizes.{absolute}
use Rattle.bond.specs.declared.brent.Search.{Search}

-- "tol 1e-8"
abbrev pub tolerance : Float
tolerance = ten_to_minus8

-- a pass begins: where the errors at b and c have one sign, c is the last a
unfoldable pub rebracketed : Search → Search
rebracketed s =
    cond (lt plus_zero (mul binary64 s.fb s.fc))
    (record { a = s.a; b = s.b; c = s.a; d = sub binary64 s.b s.a; e = sub binary64 s.b s.a; fa = s.fa; fb = s.fb; fc = s.fa }) s

-- b is the end with the smaller error
unfoldable pub exchanged : Search → Search
exchanged s =
    cond (lt (absolute s.fc) (absolute s.fb))
    (record { a = s.b; b = s.c; c = s.b; d = s.d; e = s.e; fa = s.fb; fb = s.fc; fc = s.fb }) s

-- the least step that b moves by, below which b is the answer, and half the way to c
unfoldable pub least_step : Search → Float
least_step s = add binary64 (mul binary64 (mul binary64 two epsilon) (absolute s.b)) (mul binary64 half tolerance)

unfoldable pub midway : Search → Float
midway s = mul binary64 half (sub binary64 s.c s.b)

unfoldable pub settled : Search → Bool
settled s = le (absolute (midway s)) (least_step s) || lt (absolute s.fb) epsilon

-- ---- the step: by the secant or by the inverse parabola, p/q, where that is safe; else halving
unfoldable pub secant_only : Search → Bool
secant_only s = lt (absolute (sub binary64 s.a s.c)) epsilon

-- s = fb/fa, q = fa/fc, r = fb/fc
unfoldable pub ratio_b_a : Search → Float
ratio_b_a s = div binary64 s.fb s.fa

unfoldable pub ratio_a_c : Search → Float
ratio_a_c s = div binary64 s.fa s.fc

unfoldable pub ratio_b_c : Search → Float
ratio_b_c s = div binary64 s.fb s.fc

-- p and q of the secant: 2·xm·s and 1 - s; of the parabola: s·(2·xm·q·(q - r) - (b - a)·(r - 1)) and (q - 1)·(r - 1)·(s - 1)
unfoldable pub rise : Search → Float
rise s =
    cond (secant_only s) (mul binary64 (mul binary64 two (midway s)) (ratio_b_a s))
    (mul binary64 (ratio_b_a s)
    (sub binary64 (mul binary64 (mul binary64 (mul binary64 two (midway s)) (ratio_a_c s)) (sub binary64 (ratio_a_c s) (ratio_b_c s)))
    (mul binary64 (sub binary64 s.b s.a) (sub binary64 (ratio_b_c s) one))))

unfoldable pub run : Search → Float
run s =
    cond (secant_only s) (sub binary64 one (ratio_b_a s))
    (mul binary64 (mul binary64 (sub binary64 (ratio_a_c s) one) (sub binary64 (ratio_b_c s) one)) (sub binary64 (ratio_b_a s) one))

-- p at or above 0, its sign moved to q
unfoldable pub rise_up : Search → Float
rise_up s = cond (lt plus_zero (rise s)) (rise s) (neg (rise s))

unfoldable pub run_up : Search → Float
run_up s = cond (lt plus_zero (rise s)) (neg (run s)) (run s)

-- 2p < 3·xm·q - |least·q|, and 2p < |e·q|
unfoldable pub safe : Search → Bool
safe s =
    lt (mul binary64 two (rise_up s)) (sub binary64 (mul binary64 (mul binary64 three (midway s)) (run_up s)) (absolute (mul binary64 (least_step s) (run_up s))))
    && lt (mul binary64 two (rise_up s)) (absolute (mul binary64 s.e (run_up s)))

-- whether p/q is tried at all
unfoldable pub tried : Search → Bool
tried s = le (least_step s) (absolute s.e) && lt (absolute s.fb) (absolute s.fa)

-- the steps d and e of this pass
unfoldable pub chosen : Search → Search
chosen s =
    cond (tried s && safe s)
    (record { a = s.a; b = s.b; c = s.c; d = div binary64 (rise_up s) (run_up s); e = s.d; fa = s.fa; fb = s.fb; fc = s.fc })
    (record { a = s.a; b = s.b; c = s.c; d = midway s; e = midway s; fa = s.fa; fb = s.fb; fc = s.fc })

-- b moves by d, or by the least step toward c where d is shorter
unfoldable pub shift : Search → Float
shift s = cond (lt (least_step s) (absolute s.d)) s.d (cond (lt (midway s) plus_zero) (neg (least_step s)) (least_step s))

-- the next search, whose error at the new b is still to be worked out
unfoldable pub moved : Search → Search
moved s = record { a = s.b; b = add binary64 s.b (shift s); c = s.c; d = s.d; e = s.e; fa = s.fb; fb = s.fb; fc = s.fc }
