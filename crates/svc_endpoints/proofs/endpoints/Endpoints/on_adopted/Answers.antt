use Rattle.std.proofs.Common.{subst, sym, ◌∷◌}
use Rattle.svc_record.specs.declared.entry.Entry.TheVariants.{Got}
use Rattle.svc_record.specs.declared.event.Event.TheVariants.{Adopted}
use Rattle.svc_endpoints.specs.EndpointsData.{EndpointsData}
use Rattle.svc_endpoints.specs.EndpointsState.{EndpointsStand}
use Rattle.svc_endpoints.proofs.AnswerLemmas.{after-adopted}
use Rattle.svc_endpoints.proofs.StaysLemmas.{held-adopted, others-adopted}
use Rattle.svc_endpoints.specs.Stays.{StaysHeld, OthersStay}
use Rattle.svc_endpoints.proofs.endpoints.Endpoints.on_adopted.Goals as goal

pub returns-clause-stands : goal.returns-clause-stands
returns-clause-stands c = λ q stand. subst (λ (e : EndpointsData). EndpointsStand c.args.plan.now e (Got (Adopted c.args.s c.args.i) ∷ q)) (sym c.hold.ensures)
    (after-adopted c.args.plan.now c.args.self.now.parts q c.args.s c.args.i c.requires.sized c.requires.service c.requires.endpoint stand c.requires.asks)

pub returns-clause-held : goal.returns-clause-held
returns-clause-held c =
    subst (λ (m : EndpointsData). StaysHeld c.args.self.now.parts m) (sym c.hold.ensures)
    (held-adopted c.args.plan.now c.args.self.now.parts c.args.s c.args.i c.requires.sized c.requires.service c.requires.endpoint c.requires.asks)

pub returns-clause-others : goal.returns-clause-others
returns-clause-others c =
    subst (λ (m : EndpointsData). OthersStay c.args.s c.args.self.now.parts m) (sym c.hold.ensures)
    (others-adopted c.args.plan.now c.args.self.now.parts c.args.s c.args.i c.requires.sized c.requires.service c.requires.endpoint)
