use Rattle.std.proofs.Common.{◌≤◌, ◌-◌}
use Rattle.svc_listen.proofs.BindLemmas.{HasTried}
use Rattle.svc_listen.proofs.listeners.l4.binding.bind_all.Given as goal

abbrev pub invariant-loop-fd : goal.invariant-loop-fd
invariant-loop-fd g l = HasTried (g.B.Binder.seen l.fn.binder) (g.B.Binder.seen l.binder) l.addr l.rested × (l.rested ≤ l.rests)

abbrev pub decreases-loop-fd : goal.decreases-loop-fd
decreases-loop-fd g l = l.rests - l.rested
