use Rattle.std.proofs.Common.{ap, ◌∙◌, Ok, Err}
use Rattle.svc_server.specs.declared.run.Outcome.TheVariants as outcomes
use Rattle.svc_server.specs.declared.run.RunError.TheVariants as errors
use Rattle.svc_text.specs.Filters.{blocked_lists}
use Rattle.svc_services.proofs.ServerLemmas.{same_plan}
use Rattle.svc_main.proofs.RunLemmas.{ends_by, one_verdict, tells_by, takes_by, turns_left}
use Rattle.svc_main.proofs.runs.run_items.Goals as goal

pub unreachable-requires : goal.unreachable-requires
unreachable-requires g c =
    let is = c.in-Err-TurnsSpent.is ∙ ap Err c.in-Err-TurnsSpent.field-0-is in
    turns_left _ c.args.turns _ _ _ (ends_by _ c.args.turns c.run.result (Err errors.TurnsSpent) _ is c.run.ensures.tells.ends)
    (takes_by c.run.result (Err errors.TurnsSpent) _ _ _ is c.run.ensures.takes) c.requires.few

pub returns-in-Err-Config-clause-judged : goal.returns-in-Err-Config-clause-judged
returns-in-Err-Config-clause-judged g c = (c.run.ensures.config c.in-Err-Config.key).0 (c.in-Err-Config.is ∙ ap Err c.in-Err-Config.field-0-is)

pub returns-in-Ok-Served-clause-tells : goal.returns-in-Ok-Served-clause-tells
returns-in-Ok-Served-clause-tells g c = λ opt parts server.
    tells_by opt parts _ c.args.server.filters _ c.args.turns c.run.result (Ok outcomes.Served) _ (c.in-Ok-Served.is ∙ ap Ok c.in-Ok-Served.field-0-is)
    (same_plan opt parts _ _ _ _ _ _ server)
    (λ number asked x. one_verdict (blocked_lists parts.services) c.args.server.filters number x server.lines.filters_are) c.run.ensures.tells

pub returns-in-Ok-TestPassed-clause-tells : goal.returns-in-Ok-TestPassed-clause-tells
returns-in-Ok-TestPassed-clause-tells g c = λ opt parts server.
    tells_by opt parts _ c.args.server.filters _ c.args.turns c.run.result (Ok outcomes.TestPassed) _
    (c.in-Ok-TestPassed.is ∙ ap Ok c.in-Ok-TestPassed.field-0-is)
    (same_plan opt parts _ _ _ _ _ _ server)
    (λ number asked x. one_verdict (blocked_lists parts.services) c.args.server.filters number x server.lines.filters_are) c.run.ensures.tells

pub returns-in-Ok-Parent-clause-tells : goal.returns-in-Ok-Parent-clause-tells
returns-in-Ok-Parent-clause-tells g c = λ opt parts server.
    tells_by opt parts _ c.args.server.filters _ c.args.turns c.run.result (Ok (outcomes.Parent c.in-Ok-Parent.n)) _
    (c.in-Ok-Parent.is ∙ ap Ok c.in-Ok-Parent.field-0-is)
    (same_plan opt parts _ _ _ _ _ _ server)
    (λ number asked x. one_verdict (blocked_lists parts.services) c.args.server.filters number x server.lines.filters_are) c.run.ensures.tells

pub returns-in-Err-Config-clause-tells : goal.returns-in-Err-Config-clause-tells
returns-in-Err-Config-clause-tells g c = λ opt parts server.
    tells_by opt parts _ c.args.server.filters _ c.args.turns c.run.result (Err (errors.Config c.in-Err-Config.key)) _
    (c.in-Err-Config.is ∙ ap Err c.in-Err-Config.field-0-is)
    (same_plan opt parts _ _ _ _ _ _ server)
    (λ number asked x. one_verdict (blocked_lists parts.services) c.args.server.filters number x server.lines.filters_are) c.run.ensures.tells

pub returns-in-Err-Bootstrap-clause-tells : goal.returns-in-Err-Bootstrap-clause-tells
returns-in-Err-Bootstrap-clause-tells g c = λ opt parts server.
    tells_by opt parts _ c.args.server.filters _ c.args.turns c.run.result (Err (errors.Bootstrap c.in-Err-Bootstrap.error)) _
    (c.in-Err-Bootstrap.is ∙ ap Err c.in-Err-Bootstrap.field-0-is)
    (same_plan opt parts _ _ _ _ _ _ server)
    (λ number asked x. one_verdict (blocked_lists parts.services) c.args.server.filters number x server.lines.filters_are) c.run.ensures.tells

pub returns-in-Err-HostFault-clause-tells : goal.returns-in-Err-HostFault-clause-tells
returns-in-Err-HostFault-clause-tells g c = λ opt parts server.
    tells_by opt parts _ c.args.server.filters _ c.args.turns c.run.result (Err errors.HostFault) _
    (c.in-Err-HostFault.is ∙ ap Err c.in-Err-HostFault.field-0-is)
    (same_plan opt parts _ _ _ _ _ _ server)
    (λ number asked x. one_verdict (blocked_lists parts.services) c.args.server.filters number x server.lines.filters_are) c.run.ensures.tells

pub returns-in-Err-Stray-clause-tells : goal.returns-in-Err-Stray-clause-tells
returns-in-Err-Stray-clause-tells g c = λ opt parts server.
    tells_by opt parts _ c.args.server.filters _ c.args.turns c.run.result (Err (errors.Stray c.in-Err-Stray.k)) _
    (c.in-Err-Stray.is ∙ ap Err c.in-Err-Stray.field-0-is)
    (same_plan opt parts _ _ _ _ _ _ server)
    (λ number asked x. one_verdict (blocked_lists parts.services) c.args.server.filters number x server.lines.filters_are) c.run.ensures.tells

pub returns-in-Err-OutOfEvents-clause-tells : goal.returns-in-Err-OutOfEvents-clause-tells
returns-in-Err-OutOfEvents-clause-tells g c = λ opt parts server.
    tells_by opt parts _ c.args.server.filters _ c.args.turns c.run.result (Err errors.OutOfEvents) _
    (c.in-Err-OutOfEvents.is ∙ ap Err c.in-Err-OutOfEvents.field-0-is)
    (same_plan opt parts _ _ _ _ _ _ server)
    (λ number asked x. one_verdict (blocked_lists parts.services) c.args.server.filters number x server.lines.filters_are) c.run.ensures.tells
