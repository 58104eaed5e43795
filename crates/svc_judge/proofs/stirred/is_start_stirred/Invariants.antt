use Rattle.std.proofs.Common.{◌≡◌, length}
use Rattle.svc_judge.specs.Stirred.{has_new, stirs_start}
use Rattle.svc_judge.proofs.stirred.is_start_stirred.Given as goal

abbrev pub invariant-entries : goal.invariant-entries
invariant-entries l = has_new (stirs_start l.plan l.s) l.entries ≡ has_new (stirs_start l.plan l.s) l.rest

abbrev pub decreases-entries : goal.decreases-entries
decreases-entries l = length l.rest
