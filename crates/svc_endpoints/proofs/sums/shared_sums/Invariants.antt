use Rattle.svc_base.specs.Items.{list_of}
use Rattle.svc_endpoints.specs.Sums.{AreNoted}
use Rattle.svc_endpoints.proofs.sums.shared_sums.Given as goal

abbrev pub invariant-loop-s : goal.invariant-loop-s
invariant-loop-s l = AreNoted l.plan l.s 0 (list_of l.seen) (list_of l.shared)
