-- `replay_answers::replay` is safe and ends: each case takes a part of what is left of the list. Assumes nothing.
use Rattle.std.proofs.Common.{length}
use Rattle.replay_answers.proofs.replay.Given as goal

abbrev pub decreases-loop-left : goal.decreases-loop-left
decreases-loop-left l = length l.left
