use Rattle.std.proofs.Common.{◌≡◌, length}
use Rattle.svc_record.specs.Boot.{try_rests}
use Rattle.svc_judge.proofs.looking.try_rests.Given as goal

abbrev pub invariant-entries : goal.invariant-entries
invariant-entries l = try_rests l.moment l.entries ≡ try_rests l.moment l.rest

abbrev pub decreases-entries : goal.decreases-entries
decreases-entries l = length l.rest
