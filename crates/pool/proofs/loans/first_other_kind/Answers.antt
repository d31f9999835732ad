-- `pool::loans::first_other_kind` meets its contract. Assumes nothing.
use Rattle.std.proofs.Common.{rules, sym}
use borrow.Author.Tests.{tests}
use Rattle.std.proofs.lemmas.Iterator.Search.{position_from_yields_List}
use Rattle.pool.proofs.Records.{another_kind}
use Rattle.pool.proofs.LoanOrder.{records_in_order}
use Rattle.pool.proofs.loans.first_other_kind.Goals as goal

pub returns : goal.returns
returns c =
    let given = records_in_order c.chunks_exact.result c.chunks_exact.ensures.size in
    let found = position_from_yields_List another_kind _ _ _ c.position.ensures.ran given (λ x b q k. search (rules, tests)) in
    rw (sym c.chunks_exact.ensures.rest) found
