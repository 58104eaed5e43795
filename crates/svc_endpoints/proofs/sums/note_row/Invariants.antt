use Rattle.svc_base.specs.Items.{list_of}
use Rattle.svc_endpoints.specs.Sums.{AreNoted}
use Rattle.svc_endpoints.proofs.sums.note_row.Given as goal

abbrev pub invariant-loop-i : goal.invariant-loop-i
invariant-loop-i l = AreNoted l.plan l.s l.i (list_of l.seen) (list_of l.shared)
