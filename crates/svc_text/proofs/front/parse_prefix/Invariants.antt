use Rattle.std.proofs.Common.{◌≡◌, ◌+◌, ◌≤◌, true, length, take}
use Rattle.std.specs.Str.{IsUtf8}
use Rattle.std.specs.Str.Lines.{lines}
use Rattle.svc_text.specs.Script.{AreLines}
use Rattle.svc_text.proofs.ConfTextLemmas.{HasText}
use Rattle.svc_text.proofs.ScriptLemmas.{HasRead}
use Rattle.svc_text.proofs.front.parse_prefix.Given as goal

abbrev pub invariant-loop-line : goal.invariant-loop-line
invariant-loop-line l =
    HasRead l.bytes l.rest l.number l.reading
    × (l.number + length l.rest ≤ length l.bytes)
    × AreLines (lines l.bytes) (length l.reading.services.items) l.lines.items
    × HasText l.bytes l.rest (take l.number (lines l.bytes)) l.conf
    × (l.known ≡ true → IsUtf8 l.rest)

abbrev pub decreases-loop-line : goal.decreases-loop-line
decreases-loop-line l = length l.rest
