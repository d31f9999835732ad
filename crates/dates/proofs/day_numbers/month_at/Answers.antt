-- `dates::day_numbers::month_at` meets its contract. Assumes nothing.
use Rattle.std.proofs.Common.{◌≤◌, ◌+◌, ◌/◌, arith}
use Rattle.dates.specs.DayNumbers.{days_before_month}
use Rattle.dates.proofs.Parts.{days_in_bounds}
use Rattle.dates.proofs.MonthDays.{at_most_372, next_month, starts_early, ends_soon, in_the_year}
use Rattle.dates.proofs.day_numbers.month_at.Goals as goal

pub days_before_month-requires : goal.days_before_month-requires
days_before_month-requires c = (omega arith, in_the_year _ _ _ (starts_early c.args.year c.args.days) c.requires)

pub overflow_add-days_before_month : goal.overflow_add-days_before_month
overflow_add-days_before_month c =
    let m = c.args.days / 31 + 1 in
    let b = at_most_372 c.args.year m (in_the_year _ _ _ (starts_early c.args.year c.args.days) c.requires) in
    let l = days_in_bounds c.args.year m in
    omega arith

pub returns-then-days-days_before_month : goal.returns-then-days-days_before_month
returns-then-days-days_before_month c =
    let s = starts_early c.args.year c.args.days in
    let n = next_month c.args.year (c.args.days / 31 + 1) (omega arith) in
    (omega arith, in_the_year _ _ _ s c.requires, s, omega arith)

pub returns-else-days-days_before_month : goal.returns-else-days-days_before_month
returns-else-days-days_before_month c =
    let m = c.args.days / 31 + 1 in
    let n = next_month c.args.year m (omega arith) in
    let h : days_before_month c.args.year (m + 1) ≤ c.args.days = omega arith in
    let i = in_the_year c.args.year (m + 1) c.args.days h c.requires in
    (omega arith, i, h, ends_soon c.args.year c.args.days (omega arith))
