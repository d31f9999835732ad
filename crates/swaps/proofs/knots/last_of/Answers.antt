-- `swaps::knots::last_of` meets its contract: the settled coupons are the same whatever rate is tried. Assumes nothing.
use mathlib.Core.Path.{refl, ◌∙◌}
use Rattle.swaps.specs.Bootstrap.{dates}
use Rattle.swaps.proofs.Coupons.{settled_sum, settled_whole}
use Rattle.swaps.proofs.knots.last_of.Goals as goal

pub coupon_sum-sum-requires : goal.coupon_sum-sum-requires
coupon_sum-sum-requires c = (c.requires.1, settled_whole _ _ _ c.settled_at-settled.ensures.1)

pub returns : goal.returns
unfolding dates
returns c =
    let a = c.args in (
      c.last_knot-tenor.ensures,
      refl,
      record {
        rising = c.requires.1;
        counted = c.ceiling_to_u32-dates.ensures;
        within = c.settled_at-settled.ensures.0;
        summed = λ r. c.coupon_sum-sum.ensures
            ∙ settled_sum a.tenors.now a.earlier.now _ _ _ c.requires.0 c.last_knot-tenor.ensures c.settled_at-settled.ensures.1 c.settled_at-settled.ensures.2 r;
      },
    )
