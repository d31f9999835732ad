-- `swaps::knots::settled_at` meets its contract. Assumes nothing.
use mathlib.Core.Path.{refl}
use native.Mathlib.Omega.{arith}
use Rattle.swaps.proofs.knots.settled_at.Goals as goal

pub returns-then-tenors-lt2 : goal.returns-then-tenors-lt2
returns-then-tenors-lt2 c = (omega arith, λ k h. absurd (omega arith), λ h. refl)

pub returns : goal.returns
returns c =
    let many = c.if-tenors-lt2.false in
    (c.settled_dates.ensures.0, c.settled_dates.ensures.1, λ h. absurd (omega arith))
