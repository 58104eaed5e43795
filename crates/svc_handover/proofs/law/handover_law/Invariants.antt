use Rattle.std.proofs.Common.{take}
use Rattle.svc_handover.specs.Runs.{Runs}
use Rattle.svc_handover.proofs.law.handover_law.Given as goal

abbrev pub invariant-loop-index : goal.invariant-loop-index
invariant-loop-index l = Runs l.fn.old l.fn.new (take l.index l.schedule) l.servers
