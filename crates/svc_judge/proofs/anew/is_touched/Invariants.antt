use Rattle.std.proofs.Common.{◌≡◌, length}
use Rattle.svc_judge.specs.Anew.{is_touched}
use Rattle.svc_judge.proofs.anew.is_touched.Given as goal

abbrev pub invariant-entries : goal.invariant-entries
invariant-entries l = is_touched l.c l.entries ≡ is_touched l.c l.rest

abbrev pub decreases-entries : goal.decreases-entries
decreases-entries l = length l.rest
