-- A draw in the order in which the code goes: the lines of the table, one after the other, and then the rows that are due and that the room holds, by the kind. Assumes nothing.
use mathlib.Core.Path.{◌≡◌}
use mathlib.Core.List.{List}
use Prim.Native.Nat.{ℕ, ◌≤◌}
use native.Mathlib.Omega.{arith}
use lib.ListN.{length}
use lib.Ieee.{Float}
use Rattle.refusals.proofs.Causes.{term_within}
use Rattle.steps.specs.Steps.{fitting}
use Rattle.mortgage.specs.declared.Loan.{Loan}
use Rattle.mortgage.specs.Row.{width}
use Rattle.mortgage.specs.Kinds.{Way}
use Rattle.mortgage.specs.Month.{end_month, due}
use Rattle.mortgage.specs.inner.Coming.{Listed}
use Rattle.mortgage.specs.inner.Laying.{MayDraw, Layable}
use Rattle.mortgage.proofs.DrawCases.{draw_clear, fits_listed}

module _ (way : Way) (l : Loan) (room : ℕ) where
  -- where no line has a cause, the rows may be laid
  pub may_lay : MayDraw way l room → ((l.done ≤ end_month way l) × Listed way l.term) × (l.term ≤ 1200)
  may_lay e = let d = draw_clear way l room e in ((d.within, fits_listed way l.term d.kind_fits), term_within l.term d.good_term)

-- the rows that are due and that a room holds
pub due_layable : (way : Way) (l : Loan) (room : List Float) (owed n : ℕ) → owed ≡ due way l → n ≡ fitting owed (length room) width → l.done ≤ end_month way l → Layable (end_month way l) l n room
unfolding due
due_layable way l room owed n eo en h = record { held = omega arith; due = omega arith }
