-- `pool::loans::Loans::judge` meets its contract: line 1, then 2, then 3 and 7. Assumes nothing.
use mathlib.Core.Path.{◌∙◌, ap, sym}
use Rattle.std.proofs.Common.{rules}
use Rattle.refusals.specs.Answers.{outcome}
use Rattle.refusals.specs.Table.{bad_amount, bad_term}
use Rattle.refusals.proofs.Verdicts.{handed_on}
use Rattle.pool.proofs.Lines.{refused_1, refused_2, by_sizes}
use Rattle.pool.proofs.loans.Loans.judge.Goals as goal

pub returns-in_err-judge_each : goal.returns-in_err-judge_each
returns-in_err-judge_each c =
    let principals = c.judge_each.ensures (λ t. bad_amount t.principal) (λ x r f k. search rules) in
    ap outcome (handed_on _ c.from_residual.ensures.1) ∙ refused_1 _ _ c.args.self.alone _ _ (sym (ap outcome c.in_err-judge_each.was) ∙ principals)

pub returns-in_err-judge_each-2 : goal.returns-in_err-judge_each-2
returns-in_err-judge_each-2 c =
    let principals = c.judge_each.ensures (λ t. bad_amount t.principal) (λ x r f k. search rules) in
    let terms = c.judge_each-2.ensures (λ t. bad_term t.term) (λ x r f k. search rules) in
    ap outcome (handed_on _ c.from_residual-in_err-judge_each-2.ensures.1)
    ∙ refused_2 _ _ c.args.self.alone (sym (ap outcome c.in_ok-judge_each.was) ∙ principals) _ _ (sym (ap outcome c.in_err-judge_each-2.was) ∙ terms)

pub returns : goal.returns
returns c =
    let principals = c.judge_each.ensures (λ t. bad_amount t.principal) (λ x r f k. search rules) in
    let terms = c.judge_each-2.ensures (λ t. bad_term t.term) (λ x r f k. search rules) in
    c.judge_sizes.ensures ∙ by_sizes _ _ c.args.self.alone (sym (ap outcome c.in_ok-judge_each.was) ∙ principals) (sym (ap outcome c.in_ok-judge_each-2.was) ∙ terms)
