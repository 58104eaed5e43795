use Rattle.std.proofs.Common.{◌≡◌, ◌+◌, ◌-◌, ◌≤◌, take, length, vec_len}
use Rattle.std.specs.Prelude.{vec_capacity}
use Rattle.svc_fds.proofs.peer.opened.Given as goal

abbrev pub invariant-loop-number : goal.invariant-loop-number
invariant-loop-number l = record {
  made : l.fds.items ≡ take l.number-index l.numbers;
  room : vec_len l.fds + (length l.numbers - l.number-index) ≤ vec_capacity l.fds;
}
