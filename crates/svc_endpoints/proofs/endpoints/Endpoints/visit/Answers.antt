use Rattle.std.proofs.Common.{sym, subst}
use Rattle.svc_base.specs.Items.{list_of}
use Rattle.svc_endpoints.proofs.VisitedLemmas.{tells-visit}
use Rattle.svc_endpoints.proofs.StaysLemmas.{held-visit, unheld-visit, others-visit}
use Rattle.svc_endpoints.specs.EndpointsData.{EndpointsData}
use Rattle.svc_endpoints.specs.Stays.{StaysHeld, StaysUnheld, OthersStay}
use Rattle.svc_endpoints.proofs.endpoints.Endpoints.visit.Goals as goal

pub returns-clause-visited : goal.returns-clause-visited
returns-clause-visited c =
    tells-visit c.args.plan.now c.args.self.now.parts c.tell_visit.new.self.parts c.args.s c.args.started c.args.moment c.decide-visit.result
    (list_of c.args.actions.now) (list_of c.tell_visit.new.actions)
    c.requires.sized c.requires.service c.decide-visit.ensures.is c.tell_visit.ensures.after c.tell_visit.ensures.told

pub returns-clause-held : goal.returns-clause-held
returns-clause-held c = subst (λ (m : EndpointsData). StaysHeld c.args.self.now.parts m) (sym c.tell_visit.ensures.after)
    (held-visit c.args.plan.now c.args.self.now.parts c.args.s c.requires.sized c.requires.service c.args.started c.args.moment c.decide-visit.result
    c.decide-visit.ensures.is)

pub returns-clause-others : goal.returns-clause-others
returns-clause-others c = subst (λ (m : EndpointsData). OthersStay c.args.s c.args.self.now.parts m) (sym c.tell_visit.ensures.after)
    (others-visit c.args.plan.now c.args.self.now.parts c.args.s c.requires.sized c.requires.service c.decide-visit.result c.decide-visit.ensures.within)

pub returns-clause-unheld : goal.returns-clause-unheld
returns-clause-unheld c = subst (λ (m : EndpointsData). StaysUnheld c.args.self.now.parts m) (sym c.tell_visit.ensures.after)
    (unheld-visit c.args.plan.now c.args.self.now.parts c.args.s c.requires.sized c.requires.service c.decide-visit.result c.decide-visit.ensures.within)
