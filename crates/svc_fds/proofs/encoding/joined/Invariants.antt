use Rattle.std.proofs.Common.{◌≡◌, take}
use Rattle.std.specs.String.{string_bytes}
use Rattle.svc_fds.specs.Messages.{joined}
use Rattle.svc_fds.proofs.encoding.joined.Given as goal

abbrev pub invariant-loop-index : goal.invariant-loop-index
invariant-loop-index l = string_bytes l.text ≡ joined (take l.index l.entries)
