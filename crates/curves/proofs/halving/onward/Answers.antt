-- `curves::halving::onward` meets its contract: the time is past every segment before the one in hand. Assumes nothing.
use Rattle.std.proofs.Common.{◌≡◌, sym, ◌∙◌, arith}
use Rattle.curves.proofs.Onward.{found_last}
use Rattle.curves.proofs.halving.onward.Goals as goal

pub returns : goal.returns
returns g c = λ past.
    let last : c.loop-i.i ≡ c.saturating_sub-last.result = grind arith in
    sym last ∙ found_last _ _ _ c.loop-i.i (omega arith) (λ h. omega arith) (omega arith) (c.loop-i.invariant past)
