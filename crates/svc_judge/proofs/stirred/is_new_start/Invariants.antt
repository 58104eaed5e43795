use Rattle.std.proofs.Common.{◌≡◌, length}
use Rattle.svc_judge.specs.Stirred.{has_new}
use Rattle.svc_record.specs.Starts.{is_start}
use Rattle.svc_judge.proofs.stirred.is_new_start.Given as goal

abbrev pub invariant-entries : goal.invariant-entries
invariant-entries l = has_new (is_start l.s) l.entries ≡ has_new (is_start l.s) l.rest

abbrev pub decreases-entries : goal.decreases-entries
decreases-entries l = length l.rest
