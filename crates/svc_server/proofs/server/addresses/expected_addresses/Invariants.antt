use Rattle.std.proofs.Common.{◌≡◌, ℕ, List, take}
use Rattle.std.specs.Prelude.{Some}
use Rattle.svc_server.specs.Servers.{answers_of}
use Rattle.svc_server.specs.Addresses.{declared_by_all, each_once}
use Rattle.svc_server.proofs.server.addresses.expected_addresses.Given as goal

abbrev pub invariant-loop-service : goal.invariant-loop-service
invariant-loop-service g l =
    (seen : List (List ℕ)) × (declared_by_all (answers_of g.B.ServiceWithDependents (take l.service-index l.services)) ≡ Some seen)
    × (l.expected.items ≡ each_once seen)
