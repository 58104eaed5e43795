use Rattle.std.proofs.Common.{◌≡◌, ◌≤◌, ◌+◌, drop, filter, not, length, true}
use Rattle.svc_base.specs.Items.{list_of, spare}
use Rattle.svc_base.specs.NumberSets.{is_in}
use Rattle.svc_endpoints.specs.EndpointsState.{all_new}
use Rattle.svc_endpoints.specs.Counts.{put_unused, counted_numbers}
use Rattle.svc_endpoints.proofs.endpoints.add_counts.Given as goal

-- what is left makes the same
abbrev pub invariant-loop-k : goal.invariant-loop-k
invariant-loop-k l = record {
  room : length l.fds ≤ spare l.uses + l.k;
  new : all_new (counted_numbers (list_of l.uses)) (drop l.k l.fds) ≡ true;
  counts : put_unused (filter (λ n. not (is_in n (list_of l.out))) (drop l.k l.fds)) (list_of l.uses)
      ≡ put_unused (filter (λ n. not (is_in n (list_of l.out))) l.fds) (list_of l.initial.uses);
}
