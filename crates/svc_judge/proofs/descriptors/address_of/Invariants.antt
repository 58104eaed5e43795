use Rattle.std.proofs.Common.{◌≡◌, length}
use Rattle.svc_judge.specs.Steps.{first_address}
use Rattle.svc_judge.specs.Pasts.{plan_of, record_of}
use Rattle.svc_record.specs.Descriptors.{address_of}
use Rattle.svc_judge.proofs.descriptors.address_of.Given as goal

abbrev pub invariant-opened : goal.invariant-opened
invariant-opened l = address_of (plan_of l.past) (record_of l.past) l.fd ≡ first_address l.fd l.rest

abbrev pub decreases-opened : goal.decreases-opened
decreases-opened l = length l.rest
