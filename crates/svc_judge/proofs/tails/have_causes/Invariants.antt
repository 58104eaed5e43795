use Rattle.std.proofs.Common.{◌≡◌, length}
use Rattle.std.specs.List.{list_all}
use Rattle.svc_judge.specs.Tails.{has_cause}
use Rattle.svc_judge.proofs.tails.have_causes.Given as goal

abbrev pub invariant-entries : goal.invariant-entries
invariant-entries l = list_all (has_cause l.finished l.before) l.tail ≡ list_all (has_cause l.finished l.before) l.rest

abbrev pub decreases-entries : goal.decreases-entries
decreases-entries l = length l.rest
