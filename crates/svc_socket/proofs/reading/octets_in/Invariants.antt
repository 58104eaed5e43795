use Rattle.std.proofs.Common.{◌≡◌, ◌==◌, length, ◌^◌, take}
use Rattle.std.specs.List.{slice_split}
use Rattle.svc_base.specs.Words.{number_of}
use Rattle.svc_socket.proofs.ManyLemmas.{HasRead}
use Rattle.svc_socket.proofs.reading.octets_in.Given as goal

abbrev pub invariant-loop-i : goal.invariant-loop-i
invariant-loop-i l = record {
  stored : HasRead (number_of (2 ^ 8)) (slice_split (λ b. b == 46) l.text) l.i (take l.i l.octets) (slice_split (λ b. b == 46) l.rest);
  long : length l.octets ≡ 4;
}
