-- `records::record::read` meets its contract. Assumes nothing.
use Rattle.std.proofs.Common.{sym, ap, ◌∙◌}
use Rattle.refusals.specs.Answers.{outcome}
use Rattle.refusals.proofs.Verdicts.{handed_on, refused_by}
use Rattle.records.proofs.Judged.{its_length, refused_still, refuses_code, accepts_code, not_bad}
use Rattle.records.proofs.record.read.Goals as goal

pub returns-in_err-judge_record : goal.returns-in_err-judge_record
returns-in_err-judge_record g c =
    ap outcome (handed_on _ c.from_residual.ensures.1)
    ∙ refused_still g.R.Record.layout c.args.bytes.now _ _ (refused_by _ _ _ _ c.in_err-judge_record.was c.judge_record.ensures)

pub held-value-requires : goal.held-value-requires
held-value-requires g c = its_length g.R.Record.layout c.args.bytes.now c.in_ok-judge_record.ensures

pub returns-then-has_bad_code : goal.returns-then-has_bad_code
returns-then-has_bad_code g c =
    refuses_code g.R.Record.layout c.args.bytes.now g.met.R.Record.held_again _ c.held-value.ensures c.refuse.ensures (sym c.has_bad_code.ensures ∙ c.if-has_bad_code.true)

pub returns : goal.returns
returns g c =
    let l = g.R.Record.layout in
    accepts_code l c.args.bytes.now g.met.R.Record.held_again _ c.held-value.ensures (not_bad l _ c.in_ok-judge_record.ensures) (sym c.has_bad_code.ensures ∙ c.if-has_bad_code.false)
