use Rattle.std.proofs.Common.{◌≡◌, length}
use Rattle.svc_record.specs.Endpoints.{in_use_within}
use Rattle.svc_judge.proofs.looking.in_use_within.Given as goal

abbrev pub invariant-entries : goal.invariant-entries
invariant-entries l = in_use_within l.moment l.entries l.service l.endpoint ≡ in_use_within l.moment l.rest l.service l.endpoint

abbrev pub decreases-entries : goal.decreases-entries
decreases-entries l = length l.rest
