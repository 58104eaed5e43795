use Rattle.std.proofs.Common.{◌≡◌, length}
use Rattle.svc_conf.specs.TextLines.{without_end}
use Rattle.svc_conf.proofs.server.configuration.cuts.without_end.Given as goal

abbrev pub invariant-loop-front : goal.invariant-loop-front
invariant-loop-front l = without_end l.front ≡ without_end l.text

abbrev pub decreases-loop-front : goal.decreases-loop-front
decreases-loop-front l = length l.front
