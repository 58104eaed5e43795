use Rattle.std.proofs.Common.{◌≡◌, length}
use Rattle.svc_judge.specs.Anew.{only_connections}
use Rattle.svc_judge.proofs.anew.only_connections.Given as goal

abbrev pub invariant-entries : goal.invariant-entries
invariant-entries l = only_connections l.entries ≡ only_connections l.rest

abbrev pub decreases-entries : goal.decreases-entries
decreases-entries l = length l.rest
