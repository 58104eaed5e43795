use Rattle.std.proofs.Common.{◌+◌, ◌≤◌, length}
use Rattle.svc_conf.proofs.ConfigurationLemmas.{IsReading}
use Rattle.svc_conf.proofs.server.configuration.ServerConf.parse.Given as goal

abbrev pub invariant-loop-line : goal.invariant-loop-line
invariant-loop-line l = IsReading l.text l.rest l.place l.conf × (l.place.passed + length l.rest ≤ length l.text)

abbrev pub decreases-loop-line : goal.decreases-loop-line
decreases-loop-line l = length l.rest
