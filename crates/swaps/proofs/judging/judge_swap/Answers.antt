-- `swaps::judging::judge_swap` meets its contract. Assumes nothing.
use Rattle.swaps.proofs.TermLines.{in_other_words}
use Rattle.swaps.proofs.judging.judge_swap.Goals as goal

pub returns : goal.returns
returns c =
    let a = c.args in
    in_other_words a.swap.notional a.swap.fixed_rate a.tenors.now a.zeros.now c.bad_tenor-line7.ensures c.bad_frequency-line8.ensures c.judge_priced.ensures
