-- `listing::list_loan` meets its contract: a refusal is handed on, and the lines are put from the start. Assumes nothing.
use mathlib.Core.Path.{sym, ap, ◌∙◌}
use native.Mathlib.Omega.{arith}
use Rattle.refusals.specs.Answers.{outcome}
use Rattle.refusals.proofs.Verdicts.{handed_on}
use Rattle.listing.proofs.Whole.{opened_in_hand, loan_fits, refused_record, refused_loan, accepted_loan, gives_refusal, gives_lines}
use Rattle.listing.proofs.list_loan.Goals as goal

pub put_loan-requires : goal.put_loan-requires
put_loan-requires c = (opened_in_hand _ _ (sym c.open.ensures ∙ ap outcome c.in-Ok.is), omega arith)

pub overflow_cast-result : goal.overflow_cast-result
overflow_cast-result c =
    let h = opened_in_hand _ _ (sym c.open.ensures ∙ ap outcome c.in-Ok.is) in
    omega (arith, loan_fits _ h, c.put_loan.ensures.place)

pub returns-in_err-terms : goal.returns-in_err-terms
returns-in_err-terms c =
    let whole = gives_refusal _ _ _ _ (refused_record _ _ _ (sym c.read_terms.ensures ∙ ap outcome c.in_err-terms.was)) in
    record { result_value = ap outcome (handed_on _ c.from_residual.ensures.1) ∙ whole.0; out_after = whole.1 }

pub returns-in-Err : goal.returns-in-Err
returns-in-Err c =
    let e = sym c.read_terms.ensures ∙ ap outcome c.in_ok-terms.was in
    let whole = gives_refusal _ _ _ _ (refused_loan _ _ _ _ e (sym c.open.ensures ∙ ap outcome c.in-Err.is)) in
    record { result_value = whole.0; out_after = whole.1 }

pub returns-in-Ok : goal.returns-in-Ok
returns-in-Ok c =
    let e = sym c.read_terms.ensures ∙ ap outcome c.in_ok-terms.was in
    let f = sym c.open.ensures ∙ ap outcome c.in-Ok.is in
    let whole = gives_lines _ _ _ _ _ (accepted_loan _ _ _ e f) (opened_in_hand _ _ f) (omega arith) c.put_loan.ensures in
    record { result_value = whole.0; out_after = whole.1 }
