-- `senyolanda::pools::speed_for` meets its contract. Assumes nothing.
use Rattle.std.proofs.Common.{rules}
use Rattle.senyolanda.proofs.SpeedCodes.{speed_or}
use Rattle.senyolanda.proofs.pools.speed_for.Goals as goal

pub returns : goal.returns
returns c = speed_or _ _ _ _ _ _ c.speed_of.ensures c.map_err.ensures.cases (λ r q p e. search rules)
