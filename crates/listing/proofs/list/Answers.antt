-- `listing::list` meets its contract: the lines stay as they were put, and a refusal leaves the memory to its line. Assumes nothing.
use mathlib.Core.Path.{sym, ap, ◌∙◌}
use native.Mathlib.Omega.{arith}
use Rattle.listing.proofs.Lengths.{length_refused}
use Rattle.listing.proofs.Whole.{says_refusal, says_lines}
use Rattle.listing.proofs.list.Goals as goal
use Rattle.refusals.specs.Answers.{number, outcome}

pub put_refused-requires : goal.put_refused-requires
put_refused-requires c = let r = c.in-Err.refusal in omega (arith, length_refused (number r.cause) r.place)

pub returns-in-Err : goal.returns-in-Err
returns-in-Err c =
    let whole = says_refusal _ _ _ _ _ _ _ (sym (ap outcome c.in-Err.is) ∙ c.list_loan.ensures.result_value) c.list_loan.ensures.out_after (omega arith) c.put_refused.ensures in
    record { value = whole.0; out_after = whole.1 }

pub returns-in-Ok : goal.returns-in-Ok
returns-in-Ok c =
    let whole = says_lines _ _ _ _ (sym (ap outcome c.in-Ok.is) ∙ c.list_loan.ensures.result_value) c.list_loan.ensures.out_after in
    record { value = whole.0; out_after = whole.1 }
