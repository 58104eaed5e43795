use Rattle.std.proofs.Common.{◌≡◌, length, filter}
use Rattle.std.specs.List.{range_with_len}
use Rattle.svc_text.specs.Dependencies.{edges_up_to}
use Rattle.svc_plans.proofs.plan_parts.depends_of.Given as goal

abbrev pub invariant-loop-b : goal.invariant-loop-b
invariant-loop-b l = l.depends ≡ filter (edges_up_to l.services (length l.services) l.s) (range_with_len 0 l.b-counter)
