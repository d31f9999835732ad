-- `bond::worked::Worked::macaulay_at` meets its contract: the test picks the case. Assumes nothing.
use mathlib.Core.Path.{sym}
use Rattle.bond.specs.Durations.{worthless, macaulay_of}
use Rattle.bond.proofs.worked.Worked.macaulay_at.Goals as goal

pub returns-then-next_to_nothing : goal.returns-then-next_to_nothing
unfolding macaulay_of worthless
returns-then-next_to_nothing c = rw (sym c.price_at-price.ensures, sym c.next_to_nothing.ensures, c.if-next_to_nothing.true)

pub returns : goal.returns
unfolding macaulay_of worthless
returns c =
    rw (
      c.weighted_times.ensures,
      c.period_rate.ensures,
      sym c.price_at-price.ensures,
      sym c.next_to_nothing.ensures,
      c.if-next_to_nothing.false,
    )
