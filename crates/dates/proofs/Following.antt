-- What rules a date out, and what two dates are that line 15 lets pass. Assumes nothing.
use mathlib.Core.Path.{◌≡◌, refl, sym}
use mathlib.Core.Logic.{⊎_elim}
use mathlib.Core.Bool.{Bool, true, false}
use Prim.Native.Nat.{ℕ}
use native.Mathlib.Omega.{arith}
use Rattle.refusals.specs.Table.{no_such_date, bad_dates}
use Rattle.dates.specs.declared.Date.{Date}
use Rattle.dates.specs.Calendar.{is_date}
use Rattle.dates.proofs.Tests.{decided}
use Rattle.dates.proofs.Parts.{Parts, parts}

-- ---- a date, by its parts
module _ (d : Date) where
  pub no_date : (Parts d → ⊥) → false ≡ is_date d
  no_date f = ⊎_elim (λ e. absurd (f (parts d e))) (λ e. sym e) (decided (is_date d))

-- ---- line 15 of two dates
pub three_good : (f s a : Bool) → bad_dates f s a ≡ false → (f ≡ true) × (s ≡ true) × (a ≡ true)
unfolding bad_dates no_such_date
three_good true true true e = (refl, refl, refl)
three_good true true false e = absurd (let z : ◌≡◌ {A = ℕ} 0 1 = cc in omega arith)
three_good true false a e = absurd (let z : ◌≡◌ {A = ℕ} 0 1 = cc in omega arith)
three_good false s a e = absurd (let z : ◌≡◌ {A = ℕ} 0 1 = cc in omega arith)
