use Rattle.std.proofs.Common.{length}
use Rattle.svc_base.specs.Items.{list_of}
use Rattle.svc_shared.proofs.told.empty.Given as goal

abbrev pub decreases-loop-action : goal.decreases-loop-action
decreases-loop-action l = length (list_of l.stage)
