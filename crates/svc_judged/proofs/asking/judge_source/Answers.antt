use Rattle.std.proofs.Common.{ap, ◌∙◌}
use Rattle.svc_judged.specs.Judgements.{judgement_by}
use Rattle.svc_judged.proofs.CauseLemmas.{judgement_is_cause}
use Rattle.svc_judged.proofs.asking.judge_source.Goals as goal

pub returns-in-Ok-judge_record-clause-cause : goal.returns-in-Ok-judge_record-clause-cause
returns-in-Ok-judge_record-clause-cause g c =
    judgement_is_cause c.args.plan.now (g.S.Source.left c.args.source.now) c.in-Ok.read.entries.items c.in-Ok.read.end c.in-Ok-judge_record.judged _
    c.in-Ok.ensures.read (c.in-Ok-judge_record.ensures.said ∙ ap (judgement_by c.in-Ok.read.end c.args.plan.now) c.as_slice-entries.ensures.value)
    c.tell.ensures
