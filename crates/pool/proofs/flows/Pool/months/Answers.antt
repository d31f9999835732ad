-- `pool::flows::Pool::months` meets its contract: no term is bad, so that the longest is not. Assumes nothing.
use native.Mathlib.Omega.{arith}
use Rattle.pool.proofs.Accepted.{longest_right}
use Rattle.pool.proofs.flows.Pool.months.Goals as goal

pub returns-clause-most : goal.returns-clause-most
returns-clause-most c = omega (arith, c.longest_term.ensures, longest_right _ c.args.self.terms)
