-- Two causes of one line of the table, and what is known where a line has no cause. Assumes nothing.
use mathlib.Core.Path.{◌≡◌, refl}
use mathlib.Core.Bool.{Bool, true, false, not, ◌||◌}
use mathlib.Core.List.{List, [], ◌∷◌}
use Prim.Native.Nat.{ℕ, zero, suc, ◌≤◌, ◌<◌}
use native.Mathlib.Omega.{arith}
use lib.Dec.{eqb, ltb}
use lib.ListN.{get_or}
use lib.Ieee.{Float, lt}
use lib.Ieee.Scale.{finite}
use borrow.Author.Tests.{ltb-false, eqb-false, not-false}
use Rattle.numbers.specs.Clamps.{plus_zero}
use Rattle.refusals.specs.Outcome.{alone}
use Rattle.refusals.specs.Table.{bad_amount, bad_term}

-- of two causes the second is there, or it is not
pub or_true : (a : Bool) → (a || true) ≡ true
or_true true = refl
or_true false = refl

pub or_false : (a : Bool) → (a || false) ≡ a
or_false true = refl
or_false false = refl

-- neither is there
pub neither : (a b : Bool) → (a || b) ≡ false → (a ≡ false) × (b ≡ false)
neither true b e = (e, absurd (let z : ◌≡◌ {A = ℕ} 0 1 = cc in omega arith))
neither false b e = (refl, e)

-- of a single cause beside those of a list, and of a list's: where no place has any
pub alone_clear : (b : Bool) (causes : List Bool) → ((q : ℕ) → get_or (alone b causes) q false ≡ false) → (b ≡ false) × ((q : ℕ) → get_or causes q false ≡ false)
alone_clear b [] none = (none 0, λ q. refl)
alone_clear b (c ∷ causes) none = ((neither b c (none 0)).0, go)
  where
    go : (q : ℕ) → get_or (c ∷ causes) q false ≡ false
    go zero = (neither b c (none 0)).1
    go (suc q) = none (suc q)

pub amount_finite : (x : Float) → bad_amount x ≡ false → finite x ≡ true
unfolding bad_amount
amount_finite x e = not-false (finite x) (neither (not (finite x)) (lt x plus_zero) e).0

pub not_zero : (n : ℕ) (b : Bool) → (eqb n 0 || b) ≡ false → 0 < n
not_zero n b e = let h : n ≡ 0 → ⊥ = eqb-false n 0 (neither (eqb n 0) b e).0 in omega (arith, h)

pub some_term : (n : ℕ) → bad_term n ≡ false → 0 < n
unfolding bad_term
some_term n = not_zero n (ltb 1200 n)

pub term_within : (n : ℕ) → bad_term n ≡ false → n ≤ 1200
unfolding bad_term
term_within n e = ltb-false 1200 n (neither (eqb n 0) (ltb 1200 n) e).1
