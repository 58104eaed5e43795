use Rattle.std.proofs.Common.{◌≡◌, length}
use Rattle.svc_judge.specs.Marks.{has_no_mark}
use Rattle.svc_judge.proofs.marks.has_no_mark.Given as goal

abbrev pub invariant-entries : goal.invariant-entries
invariant-entries l = has_no_mark l.entries ≡ has_no_mark l.rest

abbrev pub decreases-entries : goal.decreases-entries
decreases-entries l = length l.rest
