use Rattle.std.proofs.Common.{refl, arith}
use Rattle.svc_connections.specs.declared.stage.Stage.TheVariants.{Serving}
use Rattle.svc_connections.specs.ConnectionsEffects.{shaken_told}
use Rattle.svc_core.proofs.ConnectionLemmas.{shaken-deals, fits-shaken}
use Rattle.svc_core.proofs.CopyLemmas.{bare-copied, shaken-bare}
use Rattle.svc_core.proofs.RoomLemmas.{gone-length}
use Rattle.svc_core.proofs.StepForms.{opened, dealt}
use Rattle.svc_core.proofs.machine.Core.step_shaken.Goals as goal

pub returns : goal.returns
returns c = opened c.self.view_is c.requires
    (λ may. dealt c.on_shaken.new.self.parts (shaken_told c.args.c c.args.ok) may.on refl (shaken-deals c.args.c c.args.ok)
    (bare-copied _ (shaken_told c.args.c c.args.ok) (shaken-bare c.args.c c.args.ok))
    c.on_shaken.ensures.told (gone-length c.args.c c.args.ok Serving c.self.inside.connections.parts c.on_shaken.new.self.parts c.on_shaken.ensures.after)
    (record { few = omega arith; room = omega arith })
    (λ q stands. fits-shaken _ q c.args.c c.args.ok may.on stands may.may) (λ q. c.on_shaken.ensures.stands c.self.inside.plan q))
