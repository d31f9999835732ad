-- `pool::loans::Loans::judge_each` meets its contract: the first bad loan decides. Assumes nothing.
use native.Mathlib.Omega.{arith}
use Rattle.std.proofs.Common.{inl}
use Rattle.std.proofs.lemmas.Iterator.Search.{position_from_yields_List}
use Rattle.records.proofs.EndToEnd.{length_each}
use Rattle.pool.specs.Loans.{loan_count, loan_at}
use Rattle.pool.proofs.Placing.{found_at, found_none}
use Rattle.pool.proofs.LoanOrder.{in_order}
use Rattle.pool.proofs.loans.Loans.judge_each.Goals as goal

pub position-requires-clause-fits : goal.position-requires-clause-fits
position-requires-clause-fits g c = inl (omega (arith, c.ranges.self, length_each (loan_at c.args.self.bytes.now) (loan_count c.args.self.bytes.now)))

pub returns-in-Some : goal.returns-in-Some
returns-in-Some g c h acts = found_at _ h _ _ (position_from_yields_List h c.position.new.self _ _ c.position.ensures.ran (in_order c.args.self) acts) _ _ c.in-Some.is c.refuse_at.ensures

pub returns-in-None : goal.returns-in-None
returns-in-None g c h acts = found_none _ h _ _ (position_from_yields_List h c.position.new.self _ _ c.position.ensures.ran (in_order c.args.self) acts) c.in-None.is
