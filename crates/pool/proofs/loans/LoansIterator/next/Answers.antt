-- `pool::loans::Loans::next` meets its contract: the first record is read, and what is left holds loans alone. Assumes nothing.
use mathlib.Core.Path.{◌≡◌, refl, ◌∙◌, ap, sym}
use mathlib.Core.List.{◌∷◌}
use Rattle.std.proofs.Common.{arith}
use Rattle.std.proofs.lemmas.Grind.{common_steps}
use Rattle.pool.specs.Loans.{loan_at, loans_in}
use Rattle.pool.proofs.Records.{none_left, loan_first, alone_behind, reads_first}
use Rattle.pool.proofs.loans.LoansIterator.next.Goals as goal

pub returns-in_err-record-clause-steps : goal.returns-in_err-record-clause-steps
returns-in_err-record-clause-steps c = rw c.from_residual.ensures (none_left _ c.in_err-record.ensures.cases, none_left _ c.in_err-record.ensures.cases)

pub invariant_of-self : goal.invariant_of-self
invariant_of-self c =
    let cut = c.in_ok-record.ensures.cases in
    record { alone = alone_behind _ c.args.self.now.alone cut.0 _ cut.2 }

pub unwrap-requires : goal.unwrap-requires
unwrap-requires c =
    let cut = c.in_ok-record.ensures.cases in
    rw (reads_first _ c.args.self.now.alone cut.0 _ _ cut.1 c.read_terms.ensures) refl

pub returns-clause-steps : goal.returns-clause-steps
returns-clause-steps c =
    let cut = c.in_ok-record.ensures.cases in
    let read = reads_first _ c.args.self.now.alone cut.0 _ _ cut.1 c.read_terms.ensures in
    let same : c.unwrap.result ≡ loan_at c.args.self.now.bytes.now 0 = cc in
    loan_first _ _ cut.0 cut.2 ∙ ap (λ t. t ∷ loans_in c.in_ok-record.rest.now) (sym same)

pub returns-clause-goes : goal.returns-clause-goes
returns-clause-goes c =
    let cut = c.in_ok-record.ensures.cases in
    let first = loan_first c.args.self.now.bytes.now _ cut.0 cut.2 in
    grind (arith, common_steps)
