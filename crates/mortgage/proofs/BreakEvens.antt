-- The last line that a break-even meets, cause by cause: a saving at or below zero, a month later than the new term, or neither. Assumes nothing.
use mathlib.Core.Path.{◌≡◌}
use mathlib.Core.Bool.{true, false, cond}
use Prim.Native.Nat.{ℕ, ◌<◌, ◌≤◌}
use lib.Ieee.{Float, le}
use borrow.Author.Tests.{lt-ltb, le-ltb}
use Rattle.numbers.specs.Clamps.{plus_zero}
use Rattle.refusals.specs.Outcome.{Outcome, refused, accepted}
use Rattle.refusals.specs.Table.{no_break_even}
use Rattle.records.specs.declared.Terms.{Terms}
use Rattle.mortgage.specs.BreakEven.{saving, break_even_month}

-- the answer where lines 1, 2 and 9 have no cause
abbrev pub last_answer : Terms → Terms → Float → Outcome ℕ
last_answer old new cost =
    cond (no_break_even (saving old new) (break_even_month old new cost) new.term) (refused 13 0) (accepted (break_even_month old new cost))

module _ (old new : Terms) (cost s : Float) (m : ℕ) (saves : s ≡ saving old new) where
  pub saves_nothing : le s plus_zero ≡ true → refused 13 0 ≡ last_answer old new cost
  unfolding no_break_even
  saves_nothing h = let e : le (saving old new) plus_zero ≡ true = rw saves at h in rw e

  pub too_late : m ≡ break_even_month old new cost → le s plus_zero ≡ false → new.term < m → refused 13 0 ≡ last_answer old new cost
  unfolding no_break_even
  too_late e h g = rw (← saves, h, ← e, lt-ltb new.term m g)

  pub in_time : m ≡ break_even_month old new cost → le s plus_zero ≡ false → m ≤ new.term → accepted m ≡ last_answer old new cost
  unfolding no_break_even
  in_time e h g = rw (← saves, h, ← e, le-ltb new.term m g)
