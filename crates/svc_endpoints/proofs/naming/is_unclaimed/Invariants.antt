use Rattle.std.proofs.Common.{◌≡◌, ◌<◌, ℕ, true, not, ◌&&◌}
use Rattle.svc_record.specs.Plans.{declares_list, names}
use Rattle.svc_endpoints.proofs.naming.is_unclaimed.Given as goal

abbrev pub invariant-loop-s : goal.invariant-loop-s
invariant-loop-s l = (u : ℕ) → u < l.s → (declares_list l.plan u && not (names l.plan u l.address)) ≡ true
