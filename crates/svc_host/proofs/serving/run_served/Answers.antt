use Rattle.std.proofs.Common.{subst}
use Rattle.svc_record.specs.declared.plan.Plan.{Plan}
use Rattle.svc_record.specs.Right.{Served}
use Rattle.svc_services.proofs.ServerLemmas.{same_filtered_plan}
use Rattle.svc_host.proofs.serving.run_served.Goals as goal

pub returns-clause-script_served : goal.returns-clause-script_served
returns-clause-script_served g c = λ opt parts is ok.
    subst (λ (p : Plan). Served p c.run-answer.new.host.entries) (same_filtered_plan opt parts _ _ _ _ _ _ is) (c.run-answer.ensures.served ok)
