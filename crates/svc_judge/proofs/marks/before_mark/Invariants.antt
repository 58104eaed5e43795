use Rattle.std.proofs.Common.{◌≡◌, length}
use Rattle.svc_judge.specs.Marks.{before_mark, mark_of}
use Rattle.svc_judge.proofs.marks.before_mark.Given as goal

abbrev pub invariant-entries : goal.invariant-entries
invariant-entries l = before_mark (mark_of l.sign) l.entries ≡ before_mark (mark_of l.sign) l.rest

abbrev pub decreases-entries : goal.decreases-entries
decreases-entries l = length l.rest
