-- `mortgage::draws::lay_kind` meets its contract: every kind but the adjustable one has the rows of its course. Assumes nothing.
use Rattle.mortgage.specs.Kinds.{way_of}
use Rattle.mortgage.proofs.SteadyKinds.{steady_laid, others_steady}
use Rattle.mortgage.proofs.draws.lay_kind.Goals as goal

pub returns-in_default : goal.returns-in_default
returns-in_default c =
    let a = c.args in
    steady_laid (way_of a.kind a.index.now) (others_steady a.kind a.index.now c.in_default.not-Adjustable) _ (c.course_of-course.ensures a.index.now) c.lay_course.ensures
