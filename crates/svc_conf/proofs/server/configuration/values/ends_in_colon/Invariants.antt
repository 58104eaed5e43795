use Rattle.std.proofs.Common.{◌≡◌, length}
use Rattle.svc_conf.specs.Values.{ends_in_colon}
use Rattle.svc_conf.proofs.ValueLemmas.{ends_or}
use Rattle.svc_conf.proofs.server.configuration.values.ends_in_colon.Given as goal

abbrev pub invariant-loop-rest : goal.invariant-loop-rest
invariant-loop-rest l = ends_or l.last l.rest ≡ ends_in_colon l.text

abbrev pub decreases-loop-rest : goal.decreases-loop-rest
decreases-loop-rest l = length l.rest
