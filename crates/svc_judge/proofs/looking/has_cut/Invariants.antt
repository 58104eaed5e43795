use Rattle.std.proofs.Common.{◌≡◌, length}
use Rattle.svc_record.specs.Record.{has_cut}
use Rattle.svc_judge.proofs.looking.has_cut.Given as goal

abbrev pub invariant-entries : goal.invariant-entries
invariant-entries l = has_cut l.entries ≡ has_cut l.rest

abbrev pub decreases-entries : goal.decreases-entries
decreases-entries l = length l.rest
