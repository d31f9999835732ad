-- `senyolanda::bonds::frequency_in` meets its contract. Assumes nothing.
use Rattle.std.proofs.Common.{rules}
use Rattle.bond.specs.Codes.{frequency_of}
use Rattle.senyolanda.proofs.Coded.{waits}
use Rattle.senyolanda.proofs.bonds.frequency_in.Goals as goal

pub returns : goal.returns
unfolding frequency_of
returns c = waits _ _ _ _ _ c.frequency_of.ensures c.or_else.ensures (λ x p. p) (λ r p. search rules)
