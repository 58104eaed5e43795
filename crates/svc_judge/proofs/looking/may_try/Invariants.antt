use Rattle.std.proofs.Common.{◌≡◌, length}
use Rattle.svc_record.specs.Boot.{may_try}
use Rattle.svc_judge.proofs.looking.may_try.Given as goal

abbrev pub invariant-entries : goal.invariant-entries
invariant-entries l = may_try l.moment l.entries ≡ may_try l.moment l.rest

abbrev pub decreases-entries : goal.decreases-entries
decreases-entries l = length l.rest
