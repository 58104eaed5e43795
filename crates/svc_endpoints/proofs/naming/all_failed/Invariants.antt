use Rattle.std.proofs.Common.{◌≡◌, ◌<◌, ℕ, true, false, not, ◌||◌, slice_index_or}
use Rattle.svc_record.specs.Plans.{names}
use Rattle.svc_endpoints.proofs.naming.all_failed.Given as goal

abbrev pub invariant-loop-s : goal.invariant-loop-s
invariant-loop-s l = (u : ℕ) → u < l.s → (not (names l.plan u l.address) || slice_index_or l.failed u false) ≡ true
