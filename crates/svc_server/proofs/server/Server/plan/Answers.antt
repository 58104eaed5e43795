use Rattle.std.proofs.Common.{sym, ap, subst, ◌∙◌, length, List}
use Rattle.svc_record.specs.declared.plan.Plan.{Plan}
use Rattle.svc_record.specs.Validity.{IsValid}
use Rattle.svc_server.specs.Servers.{answers_of, with_depends}
use Rattle.svc_server.proofs.PlanLemmas.{count-sound, plan-is, whole-valid}
use Rattle.svc_server.proofs.server.Server.plan.Goals as goal

pub service_plans-requires : goal.service_plans-requires
service_plans-requires g c =
    ap length c.deref.ensures.value
    ∙ count-sound g.B.ServiceWithDependents c.args.self.now.services.items c.args.self.now.dependencies (length c.args.self.now.filters) c.requires.sound

pub returns-clause-plan : goal.returns-clause-plan
returns-clause-plan g c =
    let server = c.args.self.now in
    plan-is server.configuration server.options server.eager server.dependencies (answers_of g.B.ServiceWithDependents server.services.items) _ _ _ _ _ _ _
    (c.in_ok-services.ensures.plans
    ∙ ap (λ (bs : List g.row.B.Denot). with_depends server.dependencies 0 (answers_of g.B.ServiceWithDependents bs)) c.deref.ensures.value)
    c.unwrap_or.ensures c.unwrap_or-2.ensures c.unwrap_or-3.ensures c.is_upgrade.ensures c.is_test.ensures c.unwrap_or-4.ensures

pub returns-clause-valid : goal.returns-clause-valid
returns-clause-valid g c = λ accepted.
    let server = c.args.self.now in
    subst (λ (p : Plan). IsValid p) (sym (returns-clause-plan g c))
    (whole-valid server.configuration server.options server.eager server.dependencies (length server.filters)
    (answers_of g.B.ServiceWithDependents server.services.items) c.in_ok-services.ensures.graph c.requires.sound accepted)
