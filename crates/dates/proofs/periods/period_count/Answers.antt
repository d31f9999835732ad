-- `dates::periods::period_count` meets its contract: no span has periods of 0 months. Assumes nothing.
use Rattle.std.proofs.Common.{arith}
use Rattle.dates.proofs.Tiling.{span_parts}
use Rattle.dates.proofs.periods.period_count.Goals as goal

pub returns-then-span-eq0 : goal.returns-then-span-eq0
returns-then-span-eq0 c = λ e. absurd (let p = (span_parts _ e).step_low in omega arith)
