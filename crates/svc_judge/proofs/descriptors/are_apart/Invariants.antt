use Rattle.std.proofs.Common.{◌≡◌, filter, length}
use Rattle.svc_judge.specs.Facts.{is_unclosed}
use Rattle.svc_record.specs.Descriptors.{apart}
use Rattle.svc_judge.proofs.descriptors.are_apart.Given as goal

abbrev pub invariant-opened : goal.invariant-opened
invariant-opened l = apart (filter (is_unclosed l.entries) l.opened) ≡ apart (filter (is_unclosed l.entries) l.rest)

abbrev pub decreases-opened : goal.decreases-opened
decreases-opened l = length l.rest
