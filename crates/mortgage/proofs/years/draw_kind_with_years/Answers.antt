-- `mortgage::years::draw_kind_with_years` meets its contract: what was written is within the lent lines, and is entered. Assumes nothing.
use mathlib.Core.Path.{sym, ap, ◌∙◌}
use Rattle.refusals.specs.Answers.{outcome}
use Rattle.mortgage.specs.Kinds.{way_of}
use Rattle.mortgage.proofs.YearCases.{enters_within, entered_as_summed}
use Rattle.mortgage.proofs.years.draw_kind_with_years.Goals as goal

pub enter_rows-requires : goal.enter_rows-requires
enter_rows-requires c =
    let a = c.args in
    let drawn = c.draw_kind.ensures in
    enters_within (way_of a.kind a.index.now) a.loan a.room.now a.years.now (sym c.bad_term.ensures ∙ c.if-bad_term.false) (sym c.too_few.ensures ∙ c.if-too_few.false) _ _ (sym (ap outcome c.in-Ok.is) ∙ drawn.result_value)
    drawn.room_after c.draw_kind.auto.room

pub returns-in-Ok-clause-years_after : goal.returns-in-Ok-clause-years_after
returns-in-Ok-clause-years_after c =
    let a = c.args in
    let drawn = c.draw_kind.ensures in
    entered_as_summed (way_of a.kind a.index.now) a.loan a.room.now a.years.now (sym c.bad_term.ensures ∙ c.if-bad_term.false) (sym c.too_few.ensures ∙ c.if-too_few.false) _ _ (sym (ap outcome c.in-Ok.is) ∙ drawn.result_value)
    drawn.room_after c.enter_rows.ensures
