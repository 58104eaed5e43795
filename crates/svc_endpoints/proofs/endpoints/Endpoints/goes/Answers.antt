use Rattle.std.proofs.Common.{ap, sym, ◌∙◌, ◌||◌, ◌&&◌, not}
use Rattle.svc_base.specs.NumberSets.{is_in}
use Rattle.svc_endpoints.specs.Effects.{goes}
use Rattle.svc_endpoints.proofs.FailingLemmas.{goes-is, none-there}
use Rattle.svc_endpoints.proofs.endpoints.Endpoints.goes.Goals as goal
use Rattle.svc_endpoints.proofs.endpoints.Endpoints.goes.Goals.{then-is_left, else-is_left}

pub returns-in-None-clause-is : goal.returns-in-None-clause-is
returns-in-None-clause-is c =
    sym (none-there c.args.fd (goes c.args.plan.now c.args.kept.now c.args.self.now.parts) c.args.self.now.parts.table c.in-None.ensures.absent)

pub returns-else-not-contains-clause-is : goal.returns-else-not-contains-clause-is
returns-else-not-contains-clause-is c =
    let whole = goes-is c.args.plan.now c.args.kept.now c.args.self.now.parts c.args.fd c.in-Some.entry.now c.in-Some.ensures.found c.in-Some.ensures.once
    c.is_left.result c.is_drained.result c.is_left.ensures c.is_drained.ensures in
    elim c.if-is_left.branch [
      | then-is_left w ↦
          sym (ap (λ b. (b && not (is_in c.args.fd c.args.kept.now)) || c.is_drained.result) w.if-is_left.true
          ∙ ap (λ b. b || c.is_drained.result) (ap not (sym w.contains.ensures) ∙ sym w.value-is ∙ c.if-not-contains.false)) ∙ whole
      | else-is_left w ↦ sym (ap (λ b. (b && not (is_in c.args.fd c.args.kept.now)) || c.is_drained.result) w.if-is_left.false) ∙ whole
    ]
