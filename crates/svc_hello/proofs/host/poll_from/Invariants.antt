use Rattle.std.proofs.Common.{◌≡◌, map}
use Rattle.svc_hello.specs.Handed.{handed_over}
use Rattle.svc_hello.proofs.host.poll_from.Given as goal

abbrev pub invariant-loop-place : goal.invariant-loop-place
invariant-loop-place l = map handed_over l.services ≡ map handed_over l.initial.services
