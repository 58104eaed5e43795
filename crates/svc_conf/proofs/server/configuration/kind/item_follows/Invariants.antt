use Rattle.std.proofs.Common.{◌≡◌, length}
use Rattle.std.specs.Str.Lines.{lines}
use Rattle.svc_conf.specs.ConfigurationText.{item_follows}
use Rattle.svc_conf.proofs.server.configuration.kind.item_follows.Given as goal

abbrev pub invariant-loop-line : goal.invariant-loop-line
invariant-loop-line l = item_follows (lines l.rest) ≡ item_follows (lines l.text)

abbrev pub decreases-loop-line : goal.decreases-loop-line
decreases-loop-line l = length l.rest
