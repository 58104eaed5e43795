use Rattle.std.proofs.Common.{sym, ◌∙◌}
use Rattle.svc_record.specs.Plans.{endpoint_numbers}
use Rattle.svc_judge.specs.Pasts.{plan_of, record_of}
use Rattle.svc_judge.proofs.EndpointLemmas.{first_missing_is}
use Rattle.svc_judge.proofs.endpoints.first_missing.Goals as goal

pub returns : goal.returns
returns c =
    let p = plan_of c.args.past.now in
    c.first_unheld.ensures ∙ sym (first_missing_is p (record_of c.args.past.now) c.args.s (endpoint_numbers p c.args.s))
