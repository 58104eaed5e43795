use Rattle.std.proofs.Common.{true, ◌≡◌, ◌∙◌, sym, subst, slice_index}
use Rattle.svc_endpoints.specs.Rests.{WaitsBehind}
use Rattle.svc_core.specs.StartsState.{is_flagged}
use Rattle.svc_core.specs.WaitsState.{ParksBehind}
use Rattle.svc_core.proofs.PlaceLemmas.{known-behind}
use Rattle.svc_core.proofs.pass.VisitedPlace.settle_behind.Goals as goal

pub returns-then-is_started : goal.returns-then-is_started
returns-then-is_started c =
    known-behind c.args.self.now.plan.now c.args.self.now.order.now c.args.self.now.starts.now c.args.self.now.endpoints.now.parts c.args.self.now.complete
    c.args.self.now.moment c.args.self.now.place c.args.waits.now
    c.last_asked-e.result c.park_behind.new.self c.if-e-self.false c.requires.started
    (subst (λ t. is_flagged c.args.self.now.starts.now.started t ≡ true) (sym c.if-self-e.false) (sym c.is_started.ensures ∙ c.if-is_started.true))
    (subst (λ t. WaitsBehind c.args.self.now.plan.now c.args.self.now.endpoints.now.parts (slice_index c.args.self.now.order.now c.args.self.now.place) t)
    (sym c.if-self-e.false) c.requires.waits)
    (subst (λ t. ParksBehind c.args.self.now.place t c.args.waits.now c.park_behind.new.self) (sym c.if-self-e.false) c.park_behind.ensures) c.requires.known
