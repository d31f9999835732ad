-- `records::record::read_uncoded` meets its contract. Assumes nothing.
use Rattle.refusals.proofs.Verdicts.{refused_on}
use Rattle.records.proofs.Judged.{its_length, accepts_uncoded, not_bad}
use Rattle.records.proofs.record.read_uncoded.Goals as goal

pub returns-in_err-judge_record : goal.returns-in_err-judge_record
returns-in_err-judge_record g c = refused_on _ _ _ c.from_residual.ensures.1 c.in_err-judge_record.was c.judge_record.ensures

pub held-requires : goal.held-requires
held-requires g c = its_length g.R.Record.layout c.args.bytes.now c.in_ok-judge_record.ensures

pub returns : goal.returns
returns g c = accepts_uncoded g.R.Record.layout _ c.held.ensures (not_bad g.R.Record.layout _ c.in_ok-judge_record.ensures)
