use Rattle.std.proofs.Common.{◌≡◌, length}
use Rattle.svc_conf.specs.Values.{behind, single}
use Rattle.svc_conf.proofs.server.configuration.values.single.Given as goal

abbrev pub invariant-loop-rest : goal.invariant-loop-rest
invariant-loop-rest l = behind l.bytes.items (single l.rest) ≡ single l.text

abbrev pub decreases-loop-rest : goal.decreases-loop-rest
decreases-loop-rest l = length l.rest
