-- `dates::day_numbers::year_at` meets its contract. Assumes nothing.
use Rattle.std.proofs.Common.{◌+◌, ◌/◌, arith}
use Rattle.dates.proofs.YearDays.{starts_early, ends_soon, before_2200}
use Rattle.dates.proofs.day_numbers.year_at.Goals as goal

pub returns-then-days-days_before_year : goal.returns-then-days-days_before_year
returns-then-days-days_before_year c =
    let s = starts_early c.args.days in
    (omega arith, before_2200 _ _ s c.requires, s, omega arith)

pub returns-else-days-days_before_year : goal.returns-else-days-days_before_year
returns-else-days-days_before_year c =
    (omega arith, before_2200 (1900 + c.args.days / 366 + 1) c.args.days (omega arith) c.requires, omega arith, ends_soon c.args.days c.requires)
