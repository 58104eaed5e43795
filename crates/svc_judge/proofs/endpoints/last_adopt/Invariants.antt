use Rattle.std.proofs.Common.{◌≡◌, length}
use Rattle.svc_record.specs.Asks.{last_adopt}
use Rattle.svc_judge.proofs.endpoints.last_adopt.Given as goal

abbrev pub invariant-entries : goal.invariant-entries
invariant-entries l = last_adopt l.entries l.s l.i ≡ last_adopt l.rest l.s l.i

abbrev pub decreases-entries : goal.decreases-entries
decreases-entries l = length l.rest
