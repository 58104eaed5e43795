use Rattle.std.proofs.Common.{refl, arith}
use Rattle.svc_connections.specs.ConnectionsEffects.{rest_told}
use Rattle.svc_core.proofs.ConnectionLemmas.{rest-deals, endpoint-there, fits-accept}
use Rattle.svc_core.proofs.CopyLemmas.{bare-copied, rest-bare}
use Rattle.svc_core.proofs.StepForms.{opened-same, dealt}
use Rattle.svc_core.proofs.machine.Core.step_accept_failed.Goals as goal

pub returns : goal.returns
returns c = opened-same c.self.view_is c.requires
    (λ may. dealt c.self.inside.connections.parts (rest_told c.args.s c.args.i c.args.number) may.on refl (rest-deals c.args.s c.args.i c.args.number)
    (bare-copied _ (rest_told c.args.s c.args.i c.args.number) (rest-bare c.args.s c.args.i c.args.number)) c.on_accept_failed.ensures.told (omega arith)
    (record { few = omega arith; room = omega arith })
    (λ q stands. fits-accept _ q c.args.s c.args.i c.args.number c.self.invariant.formed.endpoints may.on stands may.may)
    (λ q. c.on_accept_failed.ensures.stands c.self.inside.plan c.self.inside.connections.parts q (endpoint-there _ c.args.s c.args.i may.may)))
