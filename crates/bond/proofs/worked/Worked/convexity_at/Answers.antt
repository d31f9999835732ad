-- `bond::worked::Worked::convexity_at` meets its contract: the test picks the case. Assumes nothing.
use mathlib.Core.Path.{sym}
use Rattle.bond.specs.Durations.{worthless, convexity_of}
use Rattle.bond.proofs.worked.Worked.convexity_at.Goals as goal

pub returns-then-next_to_nothing : goal.returns-then-next_to_nothing
unfolding convexity_of worthless
returns-then-next_to_nothing c = rw (sym c.price_at-price.ensures, sym c.next_to_nothing.ensures, c.if-next_to_nothing.true)

pub returns : goal.returns
unfolding convexity_of worthless
returns c =
    rw (
      c.whole_power.ensures,
      c.weighted_squares.ensures,
      c.args.self.yearly,
      c.period_rate-r.ensures,
      sym c.price_at-price.ensures,
      sym c.next_to_nothing.ensures,
      c.if-next_to_nothing.false,
    )
