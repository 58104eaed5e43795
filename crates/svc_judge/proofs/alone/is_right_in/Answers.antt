use Rattle.std.proofs.Common.{Bool, ap, ◌∙◌, length}
use Rattle.svc_record.specs.declared.plan.Plan.{Plan}
use Rattle.svc_record.specs.Record.{Record, before_runtimes}
use Rattle.svc_judge.specs.Chains.{connection_right_by}
use Rattle.svc_judge.specs.ConnectionSteps.{arrival, is_kept}
use Rattle.svc_judge.specs.Pasts.{plan_of, record_of}
use Rattle.svc_judge.proofs.ChainLemmas.{right_in}
use Rattle.svc_judge.proofs.alone.is_right_in.Goals as goal

pub returns : goal.returns
unfolding is_kept
returns c =
    let p = plan_of c.args.past.now in
    let q = record_of c.args.past.now in
    let x = arrival c.args.s c.args.i c.args.c c.args.peer in
    let cut = c.is_there_in-cut.result in
    c.connection_right_by.ensures
    ∙ ap (λ (y : Plan). connection_right_by cut y (record_of c.along.result) x) c.along.ensures.plan
    ∙ ap (λ (r : Record). connection_right_by cut p r x) (c.along.ensures.entries ∙ c.of.ensures q c.requires.chains)
    ∙ right_in p (length c.args.chains.now.parts) q cut x
    ∙ ap (λ (b : Bool). connection_right_by b p q x) (c.is_there_in-cut.ensures (before_runtimes q) c.requires.at)
