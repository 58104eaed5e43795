use Rattle.std.proofs.Common.{◌≡◌, ◌+◌, ◌-◌, ◌≤◌, ◌++◌, take, drop, vec_len}
use Rattle.std.specs.Prelude.{vec_capacity}
use Rattle.svc_fds.specs.Tables.{kept, unclaimed}
use Rattle.svc_fds.proofs.server.transfer_fd.take_unclaimed.Given as goal

-- those before the index are kept, and what is left tells the rest
abbrev pub invariant-loop-at : goal.invariant-loop-at
invariant-loop-at l = record {
  inside : l.at ≤ vec_len l.entries;
  left : take l.at l.entries.items ++ kept l.keep.keys (drop l.at l.entries.items) ≡ kept l.keep.keys l.initial.entries.items;
  out : l.out.items ++ unclaimed l.keep.keys (drop l.at l.entries.items) ≡ unclaimed l.keep.keys l.initial.entries.items;
  room : (vec_len l.entries - l.at) + vec_len l.out ≤ vec_capacity l.out;
  spare : vec_capacity l.initial.entries - vec_len l.initial.entries ≤ vec_capacity l.entries - vec_len l.entries;
}

abbrev pub decreases-loop-at : goal.decreases-loop-at
decreases-loop-at l = vec_len l.entries - l.at
