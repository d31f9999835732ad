-- exp's definition step by step, and case by case in the order of its tests. Assumes nothing.
use mathlib.Core.Path.{◌≡◌, refl, sym, ap, ◌∙◌, subst}
use mathlib.Core.Bool.{Bool, true, false, not, ◌&&◌, ◌||◌, beq}
use mathlib.Core.List.{List, [], ◌∷◌}
use Prim.Native.Nat.{ℕ, zero, suc, ◌*◌, ◌≤◌, ◌<◌}
use native.Mathlib.Nat.{le_of_suc-le-suc, not-suc-le-zero}
use native.Mathlib.Omega.{arith}
use borrow.Author.Tests.{le-ltb, eq-eqb}
use lib.IntN.{ℤ}
use lib.ListN.{length, get_or}
use lib.Dec.{T, ltb, eqb, ltb→lt, eqb→eq}
use lib.Ieee.{Float, nan, inf, fin, binary64, up, down, neg, mul, lt, le, eq, ne, is_nan, of_bits}
use lib.Ieee.Fits.{and_l, and_r}
use lib.Ieee.Compare.{differs_from_itself, nan_differs}
use Rattle.std.specs.List.{fold}
use Rattle.numbers.specs.Literals.{seven_hundred_nine, minus_seven_hundred_eight}
use Rattle.numbers.specs.Clamps.{plus_zero}
use Rattle.numbers.proofs.Amounts.{passes}
use Rattle.elementary.specs.Horner.{horner}
use Rattle.elementary.specs.Exp.{inverse_factorial, below, halvings, signed, two_to, reduced, exp_within, exp_not_above, exp_of, exp}
use Rattle.elementary.specs.inner.Ends.{Inside}

-- -708 as the program writes it
pub minus_708 : neg (of_bits binary64 0x4086_2000_0000_0000) ≡ minus_seven_hundred_eight
unfolding neg of_bits
minus_708 = refl

-- two tests tell as much: a NaN passes neither
not_less : (a b : ℕ) (same t : Bool) → (T same → a ≡ b) → T (ltb a b || (same && t)) → ltb b a ≡ false
not_less a b same t is h = le-ltb b a (go (ltb a b) (ltb→lt a b) h)
  where
    level : (u : Bool) → (T u → a ≡ b) → T (u && t) → a ≤ b
    level true k g = let e : a ≡ b = k tt in omega (arith, e)
    level false k g = absurd g

    go : (u : Bool) → (T u → a < b) → T (u || (same && t)) → a ≤ b
    go true k g = let l : a < b = k tt in omega (arith, l)
    go false k g = level same is g

equals_itself : (s : Bool) (m : ℕ) (e : ℤ) → ne (fin s m e) (fin s m e) ≡ false
unfolding ne eq
equals_itself s m e = go s (m * up e * down e)
  where
    go : (s : Bool) (a : ℕ) → not (eqb a a && (beq s s || eqb a 0)) ≡ false
    go true a = rw (eq-eqb a a refl) refl
    go false a = rw (eq-eqb a a refl) refl

-- a NaN alone differs from itself
pub nan_alone : (x : Float) → is_nan x ≡ ne x x
unfolding is_nan ne eq
nan_alone nan = refl
nan_alone (inf true) = refl
nan_alone (inf false) = refl
nan_alone (fin s m e) = sym (equals_itself s m e)

within_ends : (x : Float) → T (le x seven_hundred_nine) → T (le minus_seven_hundred_eight x) → Inside x
unfolding le lt eq of_bits
within_ends nan a b = absurd a
within_ends (inf true) a b = absurd b
within_ends (inf false) a b = absurd a
within_ends (fin true m e) a b = (equals_itself true m e, refl, not_less (m * up e * 1) (708 * down e) (eqb (708 * down e) (m * up e * 1)) true (λ u. sym (eqb→eq (708 * down e) (m * up e * 1) u)) b)
within_ends (fin false m e) a b = (equals_itself false m e, not_less (m * up e * 1) (709 * down e) (eqb (m * up e * 1) (709 * down e)) true (eqb→eq (m * up e * 1) (709 * down e)) a, refl)

-- both tests, and the tests before them
pub further_inside : (before : Bool) (x : Float) → ((before && le x seven_hundred_nine) && le minus_seven_hundred_eight x) ≡ true → (before ≡ true) × Inside x
further_inside true x h = (refl, within_ends x (and_l (le x seven_hundred_nine) (le minus_seven_hundred_eight x) (passes h)) (and_r (le x seven_hundred_nine) (le minus_seven_hundred_eight x) (passes h)))
further_inside false x h = absurd (passes h)

-- the same of each number of a row, where one after the other is asked
abbrev pub still_inside : Bool → Float → Bool
still_inside before x = (before && le x seven_hundred_nine) && le (neg (of_bits binary64 0x4086_2000_0000_0000)) x

pub all_inside : (before : Bool) (xs : List Float) → fold still_inside before xs ≡ true → (before ≡ true) × ((k : ℕ) → k < length xs → Inside (get_or xs k nan))
all_inside before [] e = (e, λ k h. absurd (not-suc-le-zero h))
all_inside before (x ∷ xs) e =
    let behind = all_inside (still_inside before x) xs e in
    let here = further_inside before x (rw minus_708 at behind.0) in
    (here.0, each here.1 behind.1)
  where
    each : Inside x → ((k : ℕ) → k < length xs → Inside (get_or xs k nan)) → (k : ℕ) → k < suc (length xs) → Inside (get_or (x ∷ xs) k nan)
    each here behind zero h = here
    each here behind (suc k) h = behind k (le_of_suc-le-suc h)

-- ---- the cases
pub at_nan : (x : Float) → ne x x ≡ true → x ≡ exp x
unfolding exp
at_nan x h = differs_from_itself x (passes h) ∙ sym (ap exp (differs_from_itself x (passes h)))

not_nan : (x : Float) → ne x x ≡ false → exp x ≡ exp_of (lt seven_hundred_nine x) x
unfolding exp
not_nan nan h = absurd (subst T (sym nan_differs ∙ h) tt)
not_nan (inf s) h = refl
not_nan (fin s m e) h = refl

pub above : (x : Float) → ne x x ≡ false → lt seven_hundred_nine x ≡ true → inf false ≡ exp x
unfolding exp_of
above x n h = sym (not_nan x n ∙ ap (λ (b : Bool). exp_of b x) h)

not_above_lem : (x : Float) → ne x x ≡ false → lt seven_hundred_nine x ≡ false → exp x ≡ exp_not_above (lt x minus_seven_hundred_eight) x
unfolding exp_of
not_above_lem x n h = not_nan x n ∙ ap (λ (b : Bool). exp_of b x) h

pub beneath : (x : Float) → ne x x ≡ false → lt seven_hundred_nine x ≡ false → lt x minus_seven_hundred_eight ≡ true → plus_zero ≡ exp x
unfolding exp_not_above
beneath x n h l = sym (not_above_lem x n h ∙ ap (λ (b : Bool). exp_not_above b x) l)

-- the steps, each by what the program has of the one before
pub steps : (x : Float) → Inside x → (r p t : Float)
    → r ≡ reduced x (signed (below x) (halvings x)) → p ≡ horner inverse_factorial r 0 13 → t ≡ two_to (below x) (halvings x) → mul binary64 p t ≡ exp x
unfolding exp_not_above exp_within
steps x inside r p t er ep et = rw (ep, er, et) (sym (not_above_lem x inside.0 inside.1 ∙ ap (λ (b : Bool). exp_not_above b x) inside.2))
