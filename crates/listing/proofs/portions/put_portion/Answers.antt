-- `listing::portions::put_portion` meets its contract: the draw is accepted, and the room's lines are the loan's. Assumes nothing.
use mathlib.Core.Path.{refl, sym, ap, ◌∙◌}
use native.Mathlib.Omega.{arith}
use Rattle.listing.proofs.PortionLaws.{never_refused, portion_fits, portion_counts, portion_listed}
use Rattle.listing.proofs.portions.put_portion.Goals as goal
use Rattle.refusals.specs.Answers.{outcome}

pub returns-in_default : goal.returns-in_default
returns-in_default c =
    absurd (never_refused c.args.listed.loan _ c.requires.drawable.term c.requires.drawable.done (omega arith) _ _ (sym c.draw.ensures.result_value ∙ ap outcome c.in_default.is))

pub put_rows-at-requires : goal.put_rows-at-requires
put_rows-at-requires c = portion_fits c.args.listed _ c.requires _ refl _ (sym c.draw.ensures.result_value ∙ ap outcome c.in-Ok.is) c.draw.new.room c.draw.auto.room

pub overflow_add-result : goal.overflow_add-result
overflow_add-result c = record { fits = portion_counts c.args.listed _ c.requires _ refl _ (sym c.draw.ensures.result_value ∙ ap outcome c.in-Ok.is) }

pub returns : goal.returns
returns c =
    let whole = portion_listed c.args.listed _ c.requires _ refl _ (sym c.draw.ensures.result_value ∙ ap outcome c.in-Ok.is) _ _ _ _ c.draw.ensures.room_after c.put_rows-at.ensures in
    record { lists = whole.0; left_value = whole.1 }
