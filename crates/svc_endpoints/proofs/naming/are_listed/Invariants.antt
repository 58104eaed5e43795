use Rattle.std.proofs.Common.{ℕ, ◌≡◌, ◌<◌, true, [], get_or}
use Rattle.svc_endpoints.specs.Sums.{is_listed}
use Rattle.svc_endpoints.proofs.naming.are_listed.Given as goal

abbrev pub invariant-loop-k : goal.invariant-loop-k
invariant-loop-k l = (j : ℕ) → j < l.k → is_listed l.list (get_or l.texts j []) ≡ true
