-- An array that is filled from its first place on holds what is said of each place passed. Assumes nothing.
use mathlib.Core.Path.{◌≡◌, refl, ◌∙◌}
use mathlib.Core.Bool.{Bool, true, false}
use mathlib.Core.List.{List}
use Prim.Native.Nat.{ℕ, ◌+◌, ◌<◌}
use native.Mathlib.Omega.{arith}
use lib.Dec.{eqb}
use lib.ListN.{length, get_or, set}
use lib.Seq.{get_or-set_same, get_or-set_other}
use lib.Ieee.{Float, nan}
use borrow.Author.Tests.{eqb-true, eqb-false}

abbrev pub Holds : List Float → (ℕ → Float) → ℕ → Type 0
Holds l f n = (j : ℕ) → j < n → get_or l j nan ≡ f j

pub placed : (l : List Float) (f : ℕ → Float) (n : ℕ) (v : Float) → n < length l → Holds l f n → v ≡ f n → Holds (set l n v) f (n + 1)
placed l f n v h held e j less = go (eqb j n) (eqb-true j n) (eqb-false j n)
  where
    go : (t : Bool) → (t ≡ true → j ≡ n) → (t ≡ false → j ≡ n → ⊥) → get_or (set l n v) j nan ≡ f j
    go true same other = let z : j ≡ n = same refl in rw z (get_or-set_same l n v nan h ∙ e)
    go false same other =
        let apart : j ≡ n → ⊥ = other refl in
        get_or-set_other l n j v nan apart ∙ held j (omega (arith, apart))
