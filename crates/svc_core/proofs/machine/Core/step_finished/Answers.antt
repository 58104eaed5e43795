use Rattle.std.proofs.Common.{refl, sym, [], append-nil, arith}
use Rattle.svc_base.specs.Items.{list_of}
use Rattle.svc_core.proofs.ConnectionLemmas.{fits-finished}
use Rattle.svc_core.proofs.RoomLemmas.{finished-length}
use Rattle.svc_core.proofs.StepForms.{opened, dealt}
use Rattle.svc_core.proofs.machine.Core.step_finished.Goals as goal

pub returns : goal.returns
returns c = opened c.self.view_is c.requires (λ may. dealt c.on_finished.new.self.parts [] may.on refl refl refl (sym (append-nil (list_of c.args.actions.now)))
    (finished-length c.args.c c.self.inside.connections.parts c.on_finished.new.self.parts c.on_finished.ensures.after)
    (record { few = omega arith; room = omega arith })
    (λ q stands. fits-finished _ q c.args.c may.on stands may.may) (λ q. c.on_finished.ensures.stands c.self.inside.plan q))
