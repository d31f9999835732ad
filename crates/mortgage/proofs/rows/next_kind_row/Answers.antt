-- `mortgage::rows::next_kind_row` meets its contract: where no line has a cause, the kind fits the term. Assumes nothing.
use mathlib.Core.Path.{sym, ap, ◌∙◌}
use native.Mathlib.Omega.{arith}
use Rattle.refusals.specs.Answers.{outcome}
use Rattle.mortgage.specs.Kinds.{way_of}
use Rattle.mortgage.specs.Month.{due}
use Rattle.mortgage.proofs.DrawCases.{state_clear, fits_listed, fits_ends}
use Rattle.mortgage.proofs.rows.next_kind_row.Goals as goal

pub month_due-requires : goal.month_due-requires
unfolding due
month_due-requires c =
    let a = c.args in
    let way = way_of a.kind a.index.now in
    let fits = (state_clear way a.loan (sym (ap outcome c.in_ok-judge_state.was) ∙ c.judge_state.ensures)).kind_fits in
    record { done_bound = (omega (arith, c.kind_rows_due.ensures a.index.now), fits_ends way a.loan fits); listed = fits_listed way a.loan.term fits }
