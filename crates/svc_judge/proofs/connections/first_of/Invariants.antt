use Rattle.std.proofs.Common.{◌≡◌, length}
use Rattle.svc_record.specs.Connections.{first_of}
use Rattle.svc_judge.specs.ConnectionSteps.{sort_test}
use Rattle.svc_judge.proofs.connections.first_of.Given as goal

abbrev pub invariant-options : goal.invariant-options
invariant-options l = first_of (sort_test l.sort) l.options ≡ first_of (sort_test l.sort) l.rest

abbrev pub decreases-options : goal.decreases-options
decreases-options l = length l.rest
