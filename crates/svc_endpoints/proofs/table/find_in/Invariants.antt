use Rattle.std.proofs.Common.{◌≡◌, Some, drop}
use Rattle.svc_endpoints.specs.EndpointsState.{numbers_with}
use Rattle.svc_endpoints.proofs.table.find_in.Given as goal

abbrev pub invariant-loop-entry : goal.invariant-loop-entry
invariant-loop-entry l = numbers_with (drop l.entry-index l.table) (Some l.address) ≡ numbers_with l.table (Some l.address)
