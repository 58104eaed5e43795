use Rattle.std.proofs.Common.{◌≡◌, take}
use Rattle.std.specs.String.{string_bytes}
use Rattle.svc_fds.specs.Messages.{AreTexts, framed}
use Rattle.svc_fds.proofs.encoding.framed.Given as goal

-- the text so far
abbrev pub invariant-loop-entry : goal.invariant-loop-entry
invariant-loop-entry l = record {
  text : string_bytes l.text ≡ framed (take l.entry-index l.entries);
  read : AreTexts (take l.entry-index l.entries);
}
