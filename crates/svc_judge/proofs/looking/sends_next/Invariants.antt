use Rattle.std.proofs.Common.{◌≡◌, length}
use Rattle.svc_record.specs.Offer.{sends_next}
use Rattle.svc_judge.proofs.looking.sends_next.Given as goal

abbrev pub invariant-entries : goal.invariant-entries
invariant-entries l = sends_next l.entries ≡ sends_next l.rest

abbrev pub decreases-entries : goal.decreases-entries
decreases-entries l = length l.rest
