use Rattle.std.proofs.Common.{◌≡◌, ◌-◌, [], drop, length}
use Rattle.std.specs.Str.Lines.{lines}
use Rattle.svc_messages.specs.Messages.{last_or}
use Rattle.svc_messages.proofs.ending_line.last_line.Given as goal

abbrev pub invariant-loop-line : goal.invariant-loop-line
invariant-loop-line l = last_or l.last (lines l.rest) ≡ last_or [] (lines (drop (length l.text - 128) l.text))

abbrev pub decreases-loop-line : goal.decreases-loop-line
decreases-loop-line l = length l.rest
