-- `elementary::power::is_whole` meets its contract: the nearest whole number of the size, as a float, is the size exactly where it is whole. Assumes nothing.
use Rattle.std.proofs.Common.{◌∙◌}
use Rattle.elementary.proofs.WholeExponents.{within, beyond}
use Rattle.elementary.proofs.power.is_whole.Goals as goal

pub returns-then-size : goal.returns-then-size
returns-then-size c =
    let size = c.absolute_value-size.ensures in
    rw (c.from.ensures, size) (within _ c.usually_whole.result (rw size at c.if-size.true) (rw size at c.usually_whole.ensures))

pub returns-else-size : goal.returns-else-size
returns-else-size c = c.if-size.false ∙ beyond _ (rw c.absolute_value-size.ensures at c.if-size.false)
