use Rattle.std.proofs.Common.{sym, subst, ◌∙◌, ◌≡◌, Option, List, ℕ, true, false, ap}
use Rattle.svc_endpoints.specs.EndpointsState.{is_asking}
use Rattle.svc_endpoints.specs.Effects.{has_open}
use Rattle.svc_endpoints.proofs.DueLemmas.{never-asked, always-asked, asked-once}
use Rattle.svc_endpoints.proofs.endpoints.Endpoints.next_ask_for.Goals as goal

pub returns-then-is_asking : goal.returns-then-is_asking
returns-then-is_asking c =
    never-asked c.args.plan.now c.args.self.now.parts c.args.s c.args.j c.requires.free c.requires.first
    (ap is_asking (sym c.last.ensures) ∙ (sym c.is_asking.ensures ∙ c.if-is_asking.true))

pub returns-then-is_open : goal.returns-then-is_open
returns-then-is_open c =
    always-asked c.args.plan.now c.args.self.now.parts c.args.s c.args.j c.requires.free c.requires.first
    (ap is_asking (sym c.last.ensures) ∙ (sym c.is_asking.ensures ∙ c.if-is_asking.false))
    (subst (λ (a : Option (List ℕ)). has_open c.args.self.now.parts.table a ≡ true) c.address_of.ensures (sym c.is_open.ensures ∙ c.if-is_open.true))

pub returns : goal.returns
returns c =
    asked-once c.args.plan.now c.args.self.now.parts c.args.s c.args.j c.requires.free c.requires.first c.kept_busy_end.result
    (ap is_asking (sym c.last.ensures) ∙ (sym c.is_asking.ensures ∙ c.if-is_asking.false))
    (subst (λ (a : Option (List ℕ)). has_open c.args.self.now.parts.table a ≡ false) c.address_of.ensures (sym c.is_open.ensures ∙ c.if-is_open.false))
    c.kept_busy_end.ensures
