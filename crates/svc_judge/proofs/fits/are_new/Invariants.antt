use Rattle.std.proofs.Common.{◌≡◌, length}
use Rattle.svc_record.specs.Fits.{are_new}
use Rattle.svc_judge.proofs.fits.are_new.Given as goal

abbrev pub invariant-numbers : goal.invariant-numbers
invariant-numbers l = are_new l.entries l.fds ≡ are_new l.entries l.rest

abbrev pub decreases-numbers : goal.decreases-numbers
decreases-numbers l = length l.rest
