use Rattle.std.proofs.Common.{◌≡◌, take}
use Rattle.svc_fds.specs.Tables.{numbers}
use Rattle.svc_fds.proofs.encoding.numbers_of.Given as goal

abbrev pub invariant-loop-entry : goal.invariant-loop-entry
invariant-loop-entry l = l.fds ≡ numbers (take l.entry-index l.entries)
