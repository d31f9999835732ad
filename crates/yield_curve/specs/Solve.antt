-- Three equations in three unknowns, by elimination with the largest pivot of each column first; a pivot below 1e-14 gives zeros. Definitions only. Assumes nothing.
use Rattle.std.specs.Prelude.{Bool, cond, Float}
use Rattle.std.specs.Float.{binary64}
use Rattle.std.specs.Float.Ieee.{sub, mul, div, lt}
use Rattle.numbers.specs.Literals.{ten_to_minus14}
use Rattle.numbers.specs.Clamps.{plus_zero}
use Rattle.numbers.specs.Sizes.{absolute}
use Rattle.yield_curve.specs.declared.solve.Equation.{Equation}
use Rattle.yield_curve.specs.declared.solve.System.{System}
use Rattle.yield_curve.specs.declared.solve.Unknowns.{Unknowns}

-- "pivot below 1e-14 gives zeros"
abbrev pub singular : Float
singular = ten_to_minus14

-- x is larger in size than y
abbrev pub larger : Float → Float → Bool
larger x y = lt (absolute y) (absolute x)

-- an equation is x·a + y·b + z·c = of; `first`, `second`, `third` are the three of a system.
-- The rows of column a: the largest comes first, the earliest of equals; the other exchanged row takes its place.
unfoldable pub pivoted_a : System → System
pivoted_a s =
    cond (larger s.second.x s.first.x)
    (cond (larger s.third.x s.second.x) (record { first = s.third; second = s.second; third = s.first }) (record { first = s.second; second = s.first; third = s.third }))
    (cond (larger s.third.x s.first.x) (record { first = s.third; second = s.second; third = s.first }) s)

-- an equation less so many times another, from the column a on, and from the column b on
unfoldable pub less_a : Equation → Float → Equation → Equation
less_a p f e = record {
  x = sub binary64 e.x (mul binary64 p.x f);
  y = sub binary64 e.y (mul binary64 p.y f);
  z = sub binary64 e.z (mul binary64 p.z f);
  is = sub binary64 e.is (mul binary64 p.is f);
}

unfoldable pub less_b : Equation → Float → Equation → Equation
less_b p f e = record {
  x = e.x;
  y = sub binary64 e.y (mul binary64 p.y f);
  z = sub binary64 e.z (mul binary64 p.z f);
  is = sub binary64 e.is (mul binary64 p.is f);
}

unfoldable pub cleared_a : System → System
cleared_a s = record {
  first = s.first;
  second = less_a s.first (div binary64 s.second.x s.first.x) s.second;
  third = less_a s.first (div binary64 s.third.x s.first.x) s.third;
}

unfoldable pub pivoted_b : System → System
pivoted_b s = cond (larger s.third.y s.second.y) (record { first = s.first; second = s.third; third = s.second }) s

unfoldable pub cleared_b : System → System
cleared_b s = record {
  first = s.first;
  second = s.second;
  third = less_b s.second (div binary64 s.third.y s.second.y) s.third;
}

abbrev pub small : Float → Bool
small x = lt (absolute x) singular

abbrev pub zeros : Unknowns
zeros = record { x = plus_zero; y = plus_zero; z = plus_zero }

-- back from the last: z, then y, then x, each less what is known
unfoldable pub backed : System → Unknowns
backed s =
    let z : Float = div binary64 s.third.is s.third.z in
    let y : Float = div binary64 (sub binary64 s.second.is (mul binary64 s.second.z z)) s.second.y in
    record {
      x = div binary64 (sub binary64 (sub binary64 s.first.is (mul binary64 s.first.y y)) (mul binary64 s.first.z z)) s.first.x;
      y = y;
      z = z;
    }

-- each pivot is tested before it divides
unfoldable pub solved_b : System → Unknowns
solved_b s = cond (small s.third.z) zeros (backed s)

unfoldable pub solved_a : System → Unknowns
solved_a s = cond (small s.second.y) zeros (solved_b (cleared_b s))

unfoldable pub solved : System → Unknowns
solved s = cond (small (pivoted_a s).first.x) zeros (solved_a (pivoted_b (cleared_a (pivoted_a s))))
