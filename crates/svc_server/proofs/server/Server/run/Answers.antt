use Rattle.std.proofs.Common.{sym, ap, subst, length, ◌∙◌}
use Rattle.svc_record.specs.declared.plan.Plan.{Plan}
use Rattle.svc_record.specs.Plans.{service_count}
use Rattle.svc_record.specs.Building.{IsGraphUpTo}
use Rattle.svc_server.specs.Runs.{names_of}
use Rattle.svc_server.specs.Judges.{NamesFilters}
use Rattle.svc_server.specs.Servers.{answers_of}
use Rattle.svc_server.proofs.PlanLemmas.{names-plan_of, names-filters, whole-graph}
use Rattle.svc_server.proofs.CompleteLemmas.{through-account}
use Rattle.svc_server.proofs.server.Server.run.Goals as goal

pub run_plan-requires-clause-valid : goal.run_plan-requires-clause-valid
run_plan-requires-clause-valid g c =
    c.in-Ok.ensures.valid (sym c.validate.ensures ∙ c.in_default.is)

pub run_plan-requires-clause-graph : goal.run_plan-requires-clause-graph
run_plan-requires-clause-graph g c =
    let server = c.args.self in
    subst (λ (p : Plan). IsGraphUpTo p (service_count p) server.dependencies) (sym c.in-Ok.ensures.plan)
    (whole-graph server.configuration server.options server.eager server.dependencies (length server.filters)
    (answers_of g.B.ServiceWithDependents server.services.items) c.in-Ok.ensures.graph c.requires.sound)

pub run_plan-requires-clause-known : goal.run_plan-requires-clause-known
run_plan-requires-clause-known g c =
    let server = c.args.self in
    subst (λ (p : Plan). NamesFilters p (length server.filters)) (sym c.in-Ok.ensures.plan)
    (names-filters server.configuration server.options server.eager server.dependencies (length server.filters)
    (answers_of g.B.ServiceWithDependents server.services.items) c.requires.sound)

pub run_plan-requires-clause-names : goal.run_plan-requires-clause-names
run_plan-requires-clause-names g c =
    let server = c.args.self in
    names-plan_of g.B.ServiceWithDependents server.services.items server.configuration server.options server.eager server.dependencies
    ∙ ap (λ (p : Plan). names_of p) (sym c.in-Ok.ensures.plan)

pub returns-in-Ok-clause-complete : goal.returns-in-Ok-clause-complete
returns-in-Ok-clause-complete g c =
    through-account _ _ _ _ c.run_plan.result (g.H.Host.account c.run_plan.new.host) c.in-Ok.ensures.plan c.run_plan.ensures.tells
