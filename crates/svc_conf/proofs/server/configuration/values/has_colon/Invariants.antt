use Rattle.std.proofs.Common.{◌≡◌, length}
use Rattle.svc_conf.specs.Values.{has_colon}
use Rattle.svc_conf.proofs.server.configuration.values.has_colon.Given as goal

abbrev pub invariant-loop-rest : goal.invariant-loop-rest
invariant-loop-rest l = has_colon l.rest ≡ has_colon l.text

abbrev pub decreases-loop-rest : goal.decreases-loop-rest
decreases-loop-rest l = length l.rest
