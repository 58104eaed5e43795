use Rattle.std.proofs.Common.{◌≡◌, ◌<◌, ℕ, ◌&&◌, false, slice_index_or}
use Rattle.svc_record.specs.Plans.{names}
use Rattle.svc_endpoints.proofs.naming.is_named_by_failed.Given as goal

abbrev pub invariant-loop-s : goal.invariant-loop-s
invariant-loop-s l = (u : ℕ) → u < l.s → (slice_index_or l.failed u false && names l.plan u l.address) ≡ false
