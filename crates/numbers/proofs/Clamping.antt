-- Clamping: what is raised to zero is an amount or +infinity, and raised to zero and then lowered to a balance it is an amount no more than the balance. Assumes nothing.
use Rattle.std.proofs.Common.{◌≡◌, ℕ, ◌<◌, ◌≤◌, Bool, true, false, cond, T, ◌⊎◌, refl, inl, inr, le_refl, le_of_lt, arith}
use lib.Ieee.{Float, inf, Format, lt, fits}
use Rattle.numbers.specs.Clamps.{plus_zero, raised, lowered}
use Rattle.numbers.specs.Units.{count}
use Rattle.numbers.proofs.Amounts.{amount}
use Rattle.numbers.proofs.Order.{lt_amount, zero_amount, zero_count, above_amount, none_above_infinity}

pub raised_fits : (f : Format) (x : Float) → T (fits f x) → T (amount f (raised x)) ⊎ (raised x ≡ inf false)
raised_fits f x t = go (lt plus_zero x) (above_amount f x plus_zero (zero_amount f) t)
  where
    go : (b : Bool) → (T b → T (amount f x) ⊎ (x ≡ inf false)) → T (amount f (cond b x plus_zero)) ⊎ (cond b x plus_zero ≡ inf false)
    go true h = h tt
    go false h = inl (zero_amount f)

pub raised_zero : raised plus_zero ≡ plus_zero
raised_zero = go (lt plus_zero plus_zero)
  where
    go : (b : Bool) → cond b plus_zero plus_zero ≡ plus_zero
    go true = refl
    go false = refl

-- raising an amount changes nothing but the sign of -0
pub raised_amount : (f : Format) (x : Float) → T (amount f x) → T (amount f (raised x)) × (count f (raised x) ≡ count f x)
raised_amount f x t = go (lt plus_zero x) (lt_amount f plus_zero x (zero_amount f) t).1
  where
    zero_only : {a b : ℕ} → a ≡ 0 → (a < b → ⊥) → a ≡ b
    zero_only z h = omega (arith, h)

    go : (c : Bool) → (count f plus_zero < count f x → T c) → T (amount f (cond c x plus_zero)) × (count f (cond c x plus_zero) ≡ count f x)
    go true h = (t, refl)
    go false h = (zero_amount f, zero_only (zero_count f) h)

-- the part p of the balance b
abbrev pub PartOf : Format → Float → Float → Type 0
PartOf f p b = T (amount f p) × (count f p ≤ count f b)

pub whole_part : (f : Format) (b : Float) → T (amount f b) → PartOf f b b
whole_part f b t = (t, le_refl (count f b))

lowered_part : (f : Format) (p b : Float) → T (amount f p) ⊎ (p ≡ inf false) → T (amount f b) → PartOf f (lowered p b) b
lowered_part f p b (inl q) t = go (lt p b) (lt_amount f p b q t).0
  where
    go : (c : Bool) → (T c → count f p < count f b) → PartOf f (cond c p b) b
    go true l = (q, le_of_lt (l tt))
    go false l = whole_part f b t
lowered_part f p b (inr e) t = rw e (go (lt (inf false) b) (none_above_infinity b))
  where
    go : (c : Bool) → (T c → ⊥) → PartOf f (cond c (inf false) b) b
    go true l = absurd (l tt)
    go false l = whole_part f b t

pub clamped_part : (f : Format) (x b : Float) → T (fits f x) → T (amount f b) → PartOf f (lowered (raised x) b) b
clamped_part f x b t = lowered_part f (raised x) b (raised_fits f x t)
