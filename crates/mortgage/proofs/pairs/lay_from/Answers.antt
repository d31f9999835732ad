-- `mortgage::pairs::lay_from` meets its contract: rows laid into what follows a place are stores at that place. Assumes nothing.
use mathlib.Core.Path.{ap}
use native.Mathlib.Omega.{arith}
use lib.ListN.{length-take, length-drop}
use Rattle.steps.proofs.Laying.{written_at}
use Rattle.mortgage.specs.Row.{width}
use Rattle.mortgage.specs.declared.kinds.Course.{Course}
use Rattle.mortgage.specs.Kinds.{level}
use Rattle.mortgage.specs.Month.{next_of}
use Rattle.mortgage.proofs.RowsLaid.{end_is}
use Rattle.mortgage.proofs.SteadyKinds.{steady_laid, level_steady}
use Rattle.mortgage.proofs.DrawCases.{row_places, wide}
use Rattle.mortgage.proofs.pairs.lay_from.Goals as goal

pub lay_rows-requires : goal.lay_rows-requires
lay_rows-requires c =
    let course = c.level_course-course in
    let ends = end_is level c.args.loan course.result course.ensures in
    let alone = ap (λ (d : Course). d.only) course.ensures in
    record { layable = record { held = simp (length-take, length-drop) (omega arith); due = omega (arith, ends) }; ordinary = (omega arith, omega (arith, alone), omega (arith, ends)) }

pub returns : goal.returns
returns c =
    let a = c.args in
    let whole = steady_laid level level_steady _ c.level_course-course.ensures c.lay_rows.ensures in
    record { value = whole.state; room_after = written_at (next_of level) (row_places level) width (wide level) a.room.now a.at a.count a.loan _ c.requires.1 whole.stand }
