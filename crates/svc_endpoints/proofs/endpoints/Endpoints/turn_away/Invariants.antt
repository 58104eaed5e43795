use Rattle.std.proofs.Common.{◌≡◌, ◌≤◌, ◌+◌, length, drop, true}
use Rattle.svc_base.specs.Items.{list_of, spare}
use Rattle.svc_endpoints.specs.EndpointsState.{all_new}
use Rattle.svc_endpoints.specs.Effects.{turns_away, numbers_out, opens_of, put_numbers}
use Rattle.svc_endpoints.proofs.endpoints.Endpoints.turn_away.Given as goal

abbrev pub invariant-loop-k : goal.invariant-loop-k
invariant-loop-k l = record {
  new : all_new (list_of l.out) (drop l.k l.fds) ≡ true;
  room : length l.fds ≤ spare l.out + l.k;
  numbers : put_numbers (numbers_out (turns_away l.plan l.self.parts) (opens_of (drop l.k l.fds) (drop l.k l.words))) (list_of l.out)
      ≡ put_numbers (numbers_out (turns_away l.plan l.self.parts) (opens_of l.fds l.words)) (list_of l.initial.out);
}
