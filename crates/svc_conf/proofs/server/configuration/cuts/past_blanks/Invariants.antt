use Rattle.std.proofs.Common.{◌≡◌, length}
use Rattle.svc_conf.specs.TextLines.{past_blanks}
use Rattle.svc_conf.proofs.server.configuration.cuts.past_blanks.Given as goal

abbrev pub invariant-loop-rest : goal.invariant-loop-rest
invariant-loop-rest l = past_blanks l.rest ≡ past_blanks l.line

abbrev pub decreases-loop-rest : goal.decreases-loop-rest
decreases-loop-rest l = length l.rest
