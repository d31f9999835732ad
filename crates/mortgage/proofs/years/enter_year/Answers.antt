-- `mortgage::years::enter_year` meets its contract: the rows of a year are entered at once, those of a whole year from nothing. Assumes nothing.
use Rattle.mortgage.proofs.EnteringRows.{year_entered, whole_year_begins}
use Rattle.mortgage.proofs.years.enter_year.Goals as goal

pub returns-then-count-eq12 : goal.returns-then-count-eq12
returns-then-count-eq12 c =
    let a = c.args in
    let whole = whole_year_begins a.done a.count a.years.now c.if-count-eq12.true c.requires.count_nonzero.1 in
    year_entered a.room.now a.at a.done a.count a.years.now _ _ c.requires.count_nonzero.0 c.requires.count_nonzero.1 c.requires.year_width_in_bounds (cc) c.put_line.ensures

pub returns-else-count-eq12 : goal.returns-else-count-eq12
returns-else-count-eq12 c =
    let a = c.args in
    year_entered a.room.now a.at a.done a.count a.years.now _ _ c.requires.count_nonzero.0 c.requires.count_nonzero.1 c.requires.year_width_in_bounds (cc) c.put_line-else-count-eq12.ensures
