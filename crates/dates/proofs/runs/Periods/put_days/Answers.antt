-- `dates::runs::Periods::put_days` meets its contract: ranks, numbers and days, one list from the other. Assumes nothing.
use Rattle.std.proofs.Common.{◌≡◌, ℕ, ◌+◌, length, sym, subst, length-take, arith}
use Rattle.dates.proofs.RankDates.{InYears, bound_in_years}
use Rattle.dates.proofs.RunDays.{ranks_in_years, listed_by_thirties, listed_by_actual_days}
use Rattle.dates.proofs.runs.Periods.put_days.Goals as goal

pub put_numbers-requires : goal.put_numbers-requires
put_numbers-requires c =
    let long : length c.put_ranks.new.ranks ≡ length c.args.elapsed.now + 1 = omega (arith, c.put_ranks.auto.ranks, length-take {A = ℕ}, c.requires.1) in
    (omega (arith, length-take {A = ℕ}, c.requires.1), λ j h. ranks_in_years _ c.args.self.in_order _ _ c.put_ranks.new.ranks c.put_ranks.ensures j (omega (arith, h, length-take {A = ℕ}, c.requires.1)))

pub number_at-from-requires : goal.number_at-from-requires
number_at-from-requires c = subst InYears (sym c.rank_at.ensures) (bound_in_years _ c.args.self.in_order 0)

pub returns-then-thirties : goal.returns-then-thirties
returns-then-thirties c =
    listed_by_thirties c.args.self.span c.args.self.in_order c.args.first (length c.args.elapsed.now) c.put_ranks.new.ranks c.put_numbers.new.numbers
    (omega (arith, c.put_ranks.auto.ranks, length-take {A = ℕ}, c.requires.1)) (omega (arith, c.put_numbers.auto.numbers, length-take {A = ℕ}, c.requires.1))
    c.put_ranks.ensures c.put_numbers.ensures _ _ c.rank_at.ensures c.number_at-from.ensures c.put_elapsed.new.elapsed c.put_thirties.new.counted
    (omega (arith, c.put_elapsed.auto.elapsed)) (omega (arith, c.put_thirties.auto.counted, c.requires.2)) c.put_elapsed.ensures _ c.if-thirties.true c.put_thirties.ensures

pub returns-else-thirties : goal.returns-else-thirties
returns-else-thirties c =
    listed_by_actual_days c.args.self.span c.args.self.in_order c.args.first (length c.args.elapsed.now) c.put_ranks.new.ranks c.put_numbers.new.numbers
    (omega (arith, c.put_ranks.auto.ranks, length-take {A = ℕ}, c.requires.1)) (omega (arith, c.put_numbers.auto.numbers, length-take {A = ℕ}, c.requires.1))
    c.put_ranks.ensures c.put_numbers.ensures _ _ c.rank_at.ensures c.number_at-from.ensures c.put_elapsed.new.elapsed c.put_actual.new.counted
    (omega (arith, c.put_elapsed.auto.elapsed)) (omega (arith, c.put_actual.auto.counted, c.requires.2)) c.put_elapsed.ensures _ c.if-thirties.false c.put_actual.ensures
