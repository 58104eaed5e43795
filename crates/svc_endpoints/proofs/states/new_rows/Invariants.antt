use Rattle.std.proofs.Common.{◌≡◌, ◌<◌, ℕ, [], length, slice_index_or}
use Rattle.std.specs.Prelude.{vec_len}
use Rattle.svc_record.specs.Plans.{endpoints}
use Rattle.svc_endpoints.specs.EndpointsState.{idle}
use Rattle.svc_endpoints.proofs.states.new_rows.Given as goal

abbrev pub invariant-loop-s : goal.invariant-loop-s
invariant-loop-s l = record {
  blank : (s i : ℕ) → slice_index_or (slice_index_or l.rows.items s []) i idle ≡ idle;
  services : vec_len l.rows ≡ l.s;
  each : (s : ℕ) → s < l.s → length (slice_index_or l.rows.items s []) ≡ length (endpoints l.plan s);
}
