-- `mortgage::kinds::level_course` meets its contract: a level loan reads no list. Assumes nothing.
use mathlib.Core.List.{[]}
use Rattle.mortgage.proofs.kinds.level_course.Goals as goal

pub returns : goal.returns
returns c = c.course_of.ensures []
