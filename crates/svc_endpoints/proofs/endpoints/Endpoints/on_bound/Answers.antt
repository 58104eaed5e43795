use Rattle.std.proofs.Common.{refl, sym, subst, arith, ap, ◌∙◌, ℕ, List, Option, length, length-append, Some}
use Rattle.svc_base.specs.Items.{list_of}
use Rattle.svc_endpoints.specs.EndpointsData.{EndpointsData}
use Rattle.svc_endpoints.specs.Effects.{has_open, close_told}
use Rattle.svc_endpoints.proofs.BoundStands.{tells-bound, bound-few}
use Rattle.svc_endpoints.proofs.StaysLemmas.{failed-bound, gains-bound, held-bound, others-bound}
use Rattle.svc_endpoints.specs.Stays.{StaysHeld, OthersStay, GainsOnly}
use Rattle.svc_endpoints.proofs.endpoints.Endpoints.on_bound.Goals as goal

pub returns-clause-stands : goal.returns-clause-stands
returns-clause-stands c =
    tells-bound c.args.plan.now c.args.self.now.parts c.bind_or_close.new.self.parts c.args.s c.args.i c.args.fd c.args.text (list_of c.args.actions.now)
    (list_of c.bind_or_close.new.actions)
    c.requires.sized c.requires.service c.requires.endpoint c.requires.asks c.requires.text c.requires.new c.bind_or_close.ensures.after
    c.bind_or_close.ensures.told

pub returns-clause-few : goal.returns-clause-few
returns-clause-few c =
    let few = bound-few (has_open c.args.self.now.parts.table (Some c.args.text)) c.args.self.now.parts c.args.s c.args.i c.args.fd c.args.text in
    let told = ap length c.bind_or_close.ensures.told
    ∙ length-append (list_of c.args.actions.now) (close_told (has_open c.args.self.now.parts.table (Some c.args.text)) c.args.fd) in
    let rest = ap (λ (m : EndpointsData). length m.table) c.bind_or_close.ensures.after in
    omega (arith, few, told, rest)

pub returns-clause-room : goal.returns-clause-room
returns-clause-room c =
    let few = bound-few (has_open c.args.self.now.parts.table (Some c.args.text)) c.args.self.now.parts c.args.s c.args.i c.args.fd c.args.text in
    let rest = ap (λ (m : EndpointsData). length m.table) c.bind_or_close.ensures.after in
    let room = c.bind_or_close.ensures.room in
    omega (arith, few, rest, room)

pub returns-clause-failed : goal.returns-clause-failed
returns-clause-failed c =
    ap (λ (m : EndpointsData). m.failed) c.bind_or_close.ensures.after
    ∙ failed-bound (has_open c.args.self.now.parts.table (Some c.args.text)) c.args.self.now.parts c.args.s c.args.i c.args.fd c.args.text

pub returns-clause-held : goal.returns-clause-held
returns-clause-held c = subst (λ (m : EndpointsData). StaysHeld c.args.self.now.parts m) (sym c.bind_or_close.ensures.after)
    (held-bound c.args.plan.now c.args.self.now.parts c.args.s c.args.i c.requires.sized c.requires.service c.requires.endpoint
    (has_open c.args.self.now.parts.table (Some c.args.text)) c.args.fd c.args.text c.requires.asks)

pub returns-clause-gains : goal.returns-clause-gains
returns-clause-gains c =
    subst (λ (a : Option (List ℕ)). GainsOnly a c.args.self.now.parts c.bind_or_close.new.self.parts) c.requires.text
    (subst (λ (m : EndpointsData). GainsOnly (Some c.args.text) c.args.self.now.parts m) (sym c.bind_or_close.ensures.after)
    (gains-bound (has_open c.args.self.now.parts.table (Some c.args.text)) c.args.self.now.parts c.args.s c.args.i c.args.fd c.args.text refl))

pub returns-clause-others : goal.returns-clause-others
returns-clause-others c = subst (λ (m : EndpointsData). OthersStay c.args.s c.args.self.now.parts m) (sym c.bind_or_close.ensures.after)
    (others-bound c.args.plan.now c.args.self.now.parts c.args.s c.args.i c.requires.sized c.requires.service c.requires.endpoint
    (has_open c.args.self.now.parts.table (Some c.args.text)) c.args.fd c.args.text)
