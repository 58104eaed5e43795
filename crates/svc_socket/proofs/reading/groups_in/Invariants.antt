use Rattle.std.proofs.Common.{◌≡◌, ◌==◌, length, take}
use Rattle.std.specs.List.{slice_split}
use Rattle.svc_socket.specs.ReadPeers.{group_of}
use Rattle.svc_socket.proofs.ManyLemmas.{HasRead}
use Rattle.svc_socket.proofs.reading.groups_in.Given as goal

abbrev pub invariant-loop-i : goal.invariant-loop-i
invariant-loop-i l = record {
  stored : HasRead group_of (slice_split (λ b. b == 58) l.text) l.i (take l.i l.groups) (slice_split (λ b. b == 58) l.rest);
  long : length l.groups ≡ 8;
}
