use Rattle.std.proofs.Common.{◌≡◌, length}
use Rattle.svc_judge.specs.Still.{awaits_sender}
use Rattle.svc_judge.proofs.still.awaits_sender.Given as goal

abbrev pub invariant-entries : goal.invariant-entries
invariant-entries l = awaits_sender l.entries ≡ awaits_sender l.rest

abbrev pub decreases-entries : goal.decreases-entries
decreases-entries l = length l.rest
