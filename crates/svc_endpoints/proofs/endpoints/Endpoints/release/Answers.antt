use Rattle.std.proofs.Common.{[], ap, not}
use Rattle.svc_base.specs.Items.{list_of}
use Rattle.svc_endpoints.proofs.ReleaseLemmas.{tells-release, few-release}
use Rattle.svc_endpoints.proofs.StaysLemmas.{held-same, gains-filter}
use Rattle.svc_endpoints.specs.EndpointsData.{EndpointsData}
use Rattle.svc_endpoints.specs.declared.table.Open.{Open}
use Rattle.svc_endpoints.specs.Effects.{goes}
use Rattle.svc_endpoints.proofs.endpoints.Endpoints.release.Goals as goal

pub returns-clause-stands : goal.returns-clause-stands
returns-clause-stands c =
    tells-release c.args.plan.now c.args.self.now.parts c.clear.new.self.parts (list_of c.args.actions.now)
    (list_of c.clear.new.actions) c.clear.ensures.after c.clear.ensures.told

pub returns-clause-few : goal.returns-clause-few
returns-clause-few c =
    few-release c.args.plan.now c.args.self.now.parts c.clear.new.self.parts (list_of c.args.actions.now)
    (list_of c.clear.new.actions) c.clear.ensures.after c.clear.ensures.told

pub returns-clause-held : goal.returns-clause-held
returns-clause-held c = held-same c.args.self.now.parts c.clear.new.self.parts (ap (λ (m : EndpointsData). m.rows) c.clear.ensures.after)

pub returns-clause-gains : goal.returns-clause-gains
returns-clause-gains c =
    gains-filter c.args.self.now.parts c.clear.new.self.parts (λ (o : Open). not (goes c.args.plan.now [] c.args.self.now.parts o))
    (ap (λ (m : EndpointsData). m.table) c.clear.ensures.after)
