use Rattle.std.proofs.Common.{refl, sym, arith}
use Rattle.svc_connections.specs.ConnectionsEffects.{arrived_told}
use Rattle.svc_core.proofs.ConnectionLemmas.{arrived-deals, fits-arrived, filterless}
use Rattle.svc_core.proofs.CopyLemmas.{arrived-copied}
use Rattle.svc_core.proofs.RoomLemmas.{arrived-length}
use Rattle.svc_core.proofs.StepForms.{opened, dealt}
use Rattle.svc_core.proofs.machine.Core.step_arrived.Goals as goal

pub returns-clause-steps : goal.returns-clause-steps
returns-clause-steps c = opened c.self.view_is c.requires (λ may.
    dealt c.on_arrived.new.self.parts (arrived_told c.args.c c.args.peer.now c.verdict_on-verdict.result c.in_ok-settings.settings) may.on refl
    (arrived-deals c.args.c c.args.peer.now c.verdict_on-verdict.result c.in_ok-settings.settings)
    (rw (sym c.in_ok-settings.ensures) (arrived-copied c.args.c c.args.peer.now c.verdict_on-verdict.result c.in_ok-settings.settings))
    c.on_arrived.ensures.told
    (arrived-length c.args.c c.args.peer.now c.verdict_on-verdict.result c.self.inside.connections.parts c.on_arrived.new.self.parts
    (rw c.in_ok-reserve.ensures.parts at c.on_arrived.ensures.after))
    (record { few = omega arith; room = omega arith })
    (λ q stands. fits-arrived _ q c.args.s c.args.i c.args.c c.args.peer.now c.self.invariant.formed.endpoints may.on stands may.may)
    (λ q. (rw c.in_ok-reserve.ensures.parts at c.on_arrived.ensures.stands) c.self.inside.plan c.args.s c.args.i q c.in_ok-settings.ensures
    (filterless c.self.inside.plan c.args.s c.args.i c.args.said c.verdict_on-verdict.result c.verdict_on-verdict.ensures)))
