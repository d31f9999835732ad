-- Laws of the row rule over plain numbers, whatever loan they are of: what a month's principal and what is left are in the last month, in any other, and in an ordinary month, whose
-- principal neither bound changes; that a month's principal, or none, is a part of the balance; that none
-- leaves the balance to the bit; and that 0 added is not seen by raising. Assumes nothing.
use mathlib.Core.Path.{◌≡◌, refl, sym, ap, ◌∙◌}
use mathlib.Core.Bool.{Bool, true, false, cond, ◌&&◌}
use Prim.Native.Nat.{ℕ, ◌-◌, ◌*◌, ◌<◌, ◌≤◌}
use native.Mathlib.Nat.{mul-pos, zero-lt-suc}
use native.Mathlib.Omega.{arith}
use lib.Dec.{T, ltb}
use lib.IntN.{ℤ, pos}
use lib.Ieee.{Float, nan, inf, fin, Format, binary64, up, down, round, sum, add, sub, neg, lt, fits, of_bits}
use lib.Ieee.Fits.{sub-fits, down_pos}
use borrow.Author.Tests.{le-ltb, ltb-false}
use Rattle.numbers.specs.Clamps.{plus_zero, raised, lowered}
use Rattle.numbers.proofs.Amounts.{amount}
use Rattle.numbers.proofs.Order.{zero_amount, zero_count}
use Rattle.numbers.proofs.Clamping.{PartOf, raised_zero, whole_part, clamped_part}
use Rattle.numbers.proofs.Differences.{left_above}
use Rattle.numbers.proofs.Values.{round_itself}
use Rattle.numbers.proofs.Zeros.{plus_zero_lem, round_nothing}
use Rattle.mortgage.specs.RowRule.{interest_of, principal_of, left_of}

-- neither bound changes a principal between 0 and the balance
pub within : (p b : Float) → lt plus_zero p ≡ true → lt p b ≡ true → p ≡ lowered (raised p) b
within p b h g = rw (h, g)

-- and what it leaves is above 0, so that the column needs no raising
pub left_as_it_is : (b p : Float) → fits binary64 b ≡ true → fits binary64 p ≡ true → lt plus_zero p ≡ true → lt p b ≡ true → sub binary64 b p ≡ raised (sub binary64 b p)
left_as_it_is b p fb fp h g = rw (left_above binary64 b p fb fp h g)

-- no principal is a part of any balance
pub nothing_part : (b : Float) → PartOf binary64 plus_zero b
nothing_part b = (zero_amount binary64, rw (zero_count binary64) (omega arith))

-- and leaves it as it is
nothing_off : (f : Format) (s : Bool) (A c : ℕ) → sum f s A true 0 c ≡ round f s A c
unfolding sum
nothing_off f true A c = ap (λ (n : ℕ). round f true n c) (omega arith)
nothing_off f false A c = rw (le-ltb A 0 (omega arith)) (ap (λ (n : ℕ). round f false n c) (omega arith))

none : (d : ℕ) → 0 * 1 * d ≡ 0
none d = omega arith

turn : (M d : ℕ) → M * 1 * d ≡ M * (d * 1)
turn M d = omega arith

less_nothing : (f : Format) (x : Float) → T (fits f x) → sub f x (fin false 0 (pos 0)) ≡ x
unfolding sub neg add
less_nothing f nan t = refl
less_nothing f (inf s) t = refl
less_nothing f (fin s m e) t =
    ap (λ (b : ℕ). sum f s (m * up e * 1) true b (down e * 1)) (none (down e))
    ∙ nothing_off f s (m * up e * 1) (down e * 1)
    ∙ round_itself f s m e (m * up e * 1) (down e * 1) t (mul-pos (down_pos e) (zero-lt-suc 0)) (turn (m * up e) (down e))

pub nothing_taken : (b : Float) → T (fits binary64 b) → sub binary64 b plus_zero ≡ b
nothing_taken b t = ap (sub binary64 b) plus_zero_lem ∙ less_nothing binary64 b t

-- ---- nothing added changes nothing but a zero's sign, which raising does not see
below_nothing_on : (f : Format) (A c : ℕ) → 0 < c → sum f true A false 0 c ≡ cond (ltb 0 A) (round f true A c) (fin false 0 (pos 0))
unfolding sum
below_nothing_on f A c C = rw (le-ltb A 0 (omega arith)) (go (ltb 0 A) (ltb-false 0 A))
  where
    go : (b : Bool) → (b ≡ false → A ≤ 0) → round f (true && b) (A - 0) c ≡ cond b (round f true A c) (fin false 0 (pos 0))
    go true h = ap (λ (n : ℕ). round f true n c) (omega arith)
    go false h = let z = h refl in ap (λ (n : ℕ). round f false n c) (omega arith) ∙ round_nothing f false c C

nothing_on : (f : Format) (A c : ℕ) → sum f false A false 0 c ≡ round f false A c
unfolding sum
nothing_on f A c = ap (λ (n : ℕ). round f false n c) (omega arith)

not_above_zero : (m : ℕ) (e : ℤ) → raised (fin true m e) ≡ plus_zero
unfolding lt of_bits
not_above_zero m e = refl

raised_more : (f : Format) (x : Float) → T (fits f x) → raised (add f x (fin false 0 (pos 0))) ≡ raised x
unfolding add
raised_more f nan t = refl
raised_more f (inf s) t = refl
raised_more f (fin false m e) t =
    ap raised
    (ap (λ (b : ℕ). sum f false (m * up e * 1) false b (down e * 1)) (none (down e))
    ∙ nothing_on f (m * up e * 1) (down e * 1)
    ∙ round_itself f false m e (m * up e * 1) (down e * 1) t (mul-pos (down_pos e) (zero-lt-suc 0)) (turn (m * up e) (down e)))
raised_more f (fin true m e) t =
    ap raised
    (ap (λ (b : ℕ). sum f true (m * up e * 1) false b (down e * 1)) (none (down e))
    ∙ below_nothing_on f (m * up e * 1) (down e * 1) (mul-pos (down_pos e) (zero-lt-suc 0))
    ∙ ap (λ (x : Float). cond (ltb 0 (m * up e * 1)) x (fin false 0 (pos 0)))
    (round_itself f true m e (m * up e * 1) (down e * 1) t (mul-pos (down_pos e) (zero-lt-suc 0)) (turn (m * up e) (down e))))
    ∙ either (ltb 0 (m * up e * 1))
  where
    either : (b : Bool) → raised (cond b (fin true m e) (fin false 0 (pos 0))) ≡ raised (fin true m e)
    either true = refl
    either false = ap raised (sym plus_zero_lem) ∙ raised_zero ∙ sym (not_above_zero m e)

pub nothing_added : (x : Float) → T (fits binary64 x) → raised (add binary64 x plus_zero) ≡ raised x
nothing_added x t = ap (λ (z : Float). raised (add binary64 x z)) plus_zero_lem ∙ raised_more binary64 x t

module _ (pay r b : Float) where
  pub last_principal : principal_of true pay r b ≡ b
  unfolding principal_of
  last_principal = refl

  pub other_principal : principal_of false pay r b ≡ lowered (raised (sub binary64 pay (interest_of r b))) b
  unfolding principal_of
  other_principal = refl

  -- what is left, whichever month it is
  pub left_is : (last : Bool) → left_of last pay r b ≡ sub binary64 b (principal_of last pay r b)
  unfolding left_of
  left_is last = refl

  -- an ordinary month
  module _ (p : Float) (is : p ≡ sub binary64 pay (interest_of r b)) (above : lt plus_zero p ≡ true) (below : lt p b ≡ true) where
    pub ordinary_principal : principal_of false pay r b ≡ p
    ordinary_principal = other_principal ∙ ap (λ (x : Float). lowered (raised x) b) (sym is) ∙ sym (within p b above below)

    pub ordinary_left : left_of false pay r b ≡ sub binary64 b p
    ordinary_left = left_is false ∙ ap (sub binary64 b) ordinary_principal

  -- a month's principal is a part of the balance, where that is an amount
  pub principal_part : (last : Bool) → T (amount binary64 b) → PartOf binary64 (principal_of last pay r b) b
  principal_part true h = rw last_principal (whole_part binary64 b h)
  principal_part false h = rw other_principal (clamped_part binary64 (sub binary64 pay (interest_of r b)) b (sub-fits binary64 pay (interest_of r b)) h)
