use Rattle.std.proofs.Common.{refl, arith}
use Rattle.svc_connections.specs.declared.stage.Stage.TheVariants.{Shaking}
use Rattle.svc_connections.specs.ConnectionsEffects.{set_told}
use Rattle.svc_core.proofs.ConnectionLemmas.{set-deals, fits-set}
use Rattle.svc_core.proofs.CopyLemmas.{bare-copied, set-bare}
use Rattle.svc_core.proofs.RoomLemmas.{gone-length}
use Rattle.svc_core.proofs.StepForms.{opened, dealt}
use Rattle.svc_core.proofs.machine.Core.step_set.Goals as goal

pub returns : goal.returns
returns c = opened c.self.view_is c.requires
    (λ may. dealt c.on_set.new.self.parts (set_told c.args.c c.args.ok) may.on refl (set-deals c.args.c c.args.ok)
    (bare-copied _ (set_told c.args.c c.args.ok) (set-bare c.args.c c.args.ok))
    c.on_set.ensures.told (gone-length c.args.c c.args.ok Shaking c.self.inside.connections.parts c.on_set.new.self.parts c.on_set.ensures.after)
    (record { few = omega arith; room = omega arith })
    (λ q stands. fits-set _ q c.args.c c.args.ok may.on stands may.may) (λ q. c.on_set.ensures.stands c.self.inside.plan q))
