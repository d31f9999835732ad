-- `pool::flows::Pool::fill` meets its contract: a cleared room to which the loans were added holds the pool's months. Assumes nothing.
use mathlib.Core.Path.{◌≡◌, ◌∙◌, ap}
use Prim.Native.Nat.{◌*◌}
use native.Mathlib.Omega.{arith}
use lib.ListN.{replicate, length-take}
use Rattle.std.proofs.Common.{rules}
use Rattle.numbers.specs.Clamps.{plus_zero}
use Rattle.pool.specs.Flows.{month_width}
use Rattle.pool.proofs.Filling.{filled_months}
use Rattle.pool.proofs.flows.Pool.fill.Goals as goal

pub returns-clause-room_after : goal.returns-clause-room_after
returns-clause-room_after c =
    let zeros : c.fill.new.self ≡ replicate (c.months-months.result * month_width) plus_zero =
    c.fill.ensures.after (λ y e. search rules) ∙ ap (λ n. replicate n plus_zero) (simp length-take (omega (arith, c.months-months.ensures.longest, c.requires))) in
    c.add_loans.ensures ∙ filled_months _ _ _ _ _ _ _ (omega (arith, c.months-months.ensures.longest)) c.set_speeds.ensures zeros
