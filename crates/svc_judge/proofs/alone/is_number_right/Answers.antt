use Rattle.std.proofs.Common.{ap, ◌∙◌, length}
use Rattle.svc_record.specs.declared.plan.Plan.{Plan}
use Rattle.svc_record.specs.Record.{Record}
use Rattle.svc_judge.specs.Chains.{are_numbered_right, is_number_right}
use Rattle.svc_judge.specs.Pasts.{plan_of, record_of}
use Rattle.svc_judge.proofs.ChainLemmas.{numbered_in}
use Rattle.svc_judge.proofs.alone.is_number_right.Goals as goal

pub returns : goal.returns
unfolding is_number_right
returns c =
    let p = plan_of c.args.past.now in
    let q = record_of c.args.past.now in
    c.are_numbered_right.ensures
    ∙ ap (λ (x : Plan). are_numbered_right x (record_of c.along.result) c.args.c) c.along.ensures.plan
    ∙ ap (λ (r : Record). are_numbered_right p r c.args.c) (c.along.ensures.entries ∙ c.of.ensures q c.requires)
    ∙ numbered_in p (length c.args.chains.now.parts) c.args.c q
