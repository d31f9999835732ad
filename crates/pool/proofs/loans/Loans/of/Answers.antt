-- `pool::loans::Loans::of` meets its contract: the total length first, then the kinds. Assumes nothing.
use mathlib.Core.Path.{◌∙◌, ap}
use Rattle.refusals.specs.Places.{placed}
use Rattle.refusals.proofs.Verdicts.{refused_as}
use Rattle.pool.proofs.Placing.{none_caused, found_at, found_none}
use Rattle.pool.proofs.Records.{another_kind, of_another_length, by_kinds}
use Rattle.pool.proofs.loans.Loans.of.Goals as goal

pub returns-then-bytes-ne0-clause-verdict : goal.returns-then-bytes-ne0-clause-verdict
unfolding placed
returns-then-bytes-ne0-clause-verdict c = refused_as 11 _ _ c.refuse_at.ensures (ap placed (of_another_length _ c.if-bytes-ne0.true))

pub invariant_of-result : goal.invariant_of-result
invariant_of-result c = record { alone = none_caused 11 0 _ (found_none 11 another_kind _ _ c.first_other_kind.ensures c.in-None.is ∙ by_kinds _ c.if-bytes-ne0.false) }

pub returns-in-Some-clause-verdict : goal.returns-in-Some-clause-verdict
returns-in-Some-clause-verdict c = found_at 11 another_kind _ _ c.first_other_kind.ensures _ _ c.in-Some.is c.refuse_at-in-Some.ensures ∙ by_kinds _ c.if-bytes-ne0.false

pub returns-in-None-clause-verdict : goal.returns-in-None-clause-verdict
returns-in-None-clause-verdict c = found_none 11 another_kind _ _ c.first_other_kind.ensures c.in-None.is ∙ by_kinds _ c.if-bytes-ne0.false
