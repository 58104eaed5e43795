use Rattle.std.proofs.Common.{ap, sym, ◌∙◌, ◌++◌, map}
use Rattle.std.proofs.lemmas.List.{append-nil}
use Rattle.svc_base.specs.Items.{list_of}
use Rattle.svc_record.specs.declared.action.Action.TheVariants.{Close}
use Rattle.svc_endpoints.proofs.FailingLemmas.{one-left, one-gone, none-left, none-gone}
use Rattle.svc_endpoints.proofs.endpoints.Endpoints.close_if_gone.Goals as goal

pub returns-then-goes-clause-left : goal.returns-then-goes-clause-left
returns-then-goes-clause-left c =
    c.close_number.ensures.after
    ∙ one-left c.args.plan.now c.args.kept.now c.args.self.now.parts c.args.fd c.goes.ensures.once (sym c.goes.ensures.is ∙ c.if-goes.true)

pub returns-then-goes-clause-told : goal.returns-then-goes-clause-told
returns-then-goes-clause-told c =
    c.close_number.ensures.told
    ∙ ap (λ ns. list_of c.args.actions.now ++ map Close ns)
    (one-gone c.args.plan.now c.args.kept.now c.args.self.now.parts c.args.fd c.goes.ensures.once (sym c.goes.ensures.is ∙ c.if-goes.true))

pub returns-else-goes-clause-left : goal.returns-else-goes-clause-left
returns-else-goes-clause-left c =
    none-left c.args.plan.now c.args.kept.now c.args.self.now.parts c.args.fd (sym c.goes.ensures.is ∙ c.if-goes.false)

pub returns-else-goes-clause-told : goal.returns-else-goes-clause-told
returns-else-goes-clause-told c =
    sym (append-nil (list_of c.args.actions.now))
    ∙ ap (λ ns. list_of c.args.actions.now ++ map Close ns)
    (none-gone c.args.plan.now c.args.kept.now c.args.self.now.parts c.args.fd (sym c.goes.ensures.is ∙ c.if-goes.false))
