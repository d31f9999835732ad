-- Rows on a course of months as pieces of a room, for the laws of portions, and where the course of a kind ends. Assumes nothing.
use mathlib.Core.Path.{◌≡◌, refl, ap, ◌∙◌}
use mathlib.Core.List.{List, ◌++◌}
use Prim.Native.Nat.{ℕ, ◌+◌, ◌-◌, ◌*◌, ◌≤◌}
use lib.ListN.{length, take, drop}
use lib.Ieee.{Float}
use Rattle.steps.proofs.Portions.{room_left}
use Rattle.steps.proofs.Laying.{joined_laid}
use native.Mathlib.Omega.{arith}
use Rattle.mortgage.specs.declared.Loan.{Loan}
use Rattle.mortgage.specs.declared.kinds.Course.{Course}
use Rattle.mortgage.specs.Row.{width, places}
use Rattle.mortgage.specs.Kinds.{Way, course_of}
use Rattle.mortgage.specs.Month.{row_on, next_on, end_month}
use Rattle.mortgage.specs.inner.Laying.{Layable, LaysOn}
use Rattle.mortgage.proofs.RowLaws.{done_on, rest_due}

-- the numbers of a loan's next row on a course
abbrev pub places_on : Course → Loan → List Float
places_on c l = places (row_on c l)

pub wide_on : (c : Course) (l : Loan) → length (places_on c l) ≡ width
wide_on c l = refl

-- so many of n rows, and the rest in what is left of the room
module _ (c : Course) {k n : ℕ} {l l₁ : Loan} {room room₁ : List Float} (first : LaysOn c k l room l₁ room₁) (h : k ≤ n) (f : Layable c.end l n room) where
  abbrev Left : List Float
  Left = take (length room₁ - k * width) (drop (k * width) room₁)

  pub rest_layable : length room₁ ≡ length room → Layable c.end l₁ (n - k) Left
  rest_layable e = record { held = room_left (next_on c) (places_on c) width (wide_on c) room room₁ k n e h f.held; due = rest_due c k n l l₁ first.state h f.due }

  pub rows_joined : {l₂ : Loan} {part : List Float} → LaysOn c (n - k) l₁ Left l₂ part → LaysOn c n l room l₂ (take (k * width) room₁ ++ (part ++ drop (length room₁ - k * width) (drop (k * width) room₁)))
  rows_joined {l₂} {part} then = joined_laid (wide_on c) first then h f.held

-- the months done tell how many rows were laid
pub counted : (c : Course) {k most : ℕ} {l l' : Loan} {room room' : List Float} → LaysOn c k l room l' room' → k ≤ most
    → LaysOn c (l'.done - l.done) l room l' room' × ((l.done ≤ l'.done) × (l'.done ≤ l.done + most))
counted c {k} {most} {l} {l'} on h =
    let done : l'.done ≡ l.done + k = ap (λ (m : Loan). m.done) on.state ∙ done_on c k l in
    let many : l'.done - l.done ≡ k = omega arith in
    (rw many on, (omega arith, omega arith))

-- the end of a kind's course is the month that ends the loan
pub end_is : (way : Way) (l : Loan) (c : Course) → c ≡ course_of way l.term → c.end ≡ end_month way l
unfolding end_month
end_is way l c e = ap (λ (d : Course). d.end) e
