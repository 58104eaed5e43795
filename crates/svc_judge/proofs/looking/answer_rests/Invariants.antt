use Rattle.std.proofs.Common.{◌≡◌, length}
use Rattle.svc_record.specs.Offer.{answer_rests}
use Rattle.svc_judge.proofs.looking.answer_rests.Given as goal

abbrev pub invariant-entries : goal.invariant-entries
invariant-entries l = answer_rests l.moment l.entries ≡ answer_rests l.moment l.rest

abbrev pub decreases-entries : goal.decreases-entries
decreases-entries l = length l.rest
