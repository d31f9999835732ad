-- `swaps::judging::judge_but_dates` meets its contract. Assumes nothing.
use Rattle.swaps.proofs.TermLines.{in_other_words}
use Rattle.swaps.proofs.judging.judge_but_dates.Goals as goal

pub returns : goal.returns
returns c =
    let a = c.args in
    in_other_words a.swap.notional a.swap.fixed_rate a.tenors.now a.zeros.now c.too_many_dated-line7.ensures c.bad_dated_frequency-line8.ensures c.judge_priced.ensures
