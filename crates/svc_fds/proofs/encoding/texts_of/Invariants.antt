use Rattle.std.proofs.Common.{◌≡◌, take}
use Rattle.svc_fds.specs.Tables.{addresses}
use Rattle.svc_fds.proofs.encoding.texts_of.Given as goal

abbrev pub invariant-loop-entry : goal.invariant-loop-entry
invariant-loop-entry l = l.texts.items ≡ addresses (take l.entry-index l.entries)
