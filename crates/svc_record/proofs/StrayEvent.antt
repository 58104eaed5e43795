-- A run that an event ends which doesn't fit: what stands before it is right, and nothing is told of it but closes.
use Rattle.std.proofs.Common.{true, false, [], ◌∷◌, Some, ◌≡◌, refl}
use Rattle.svc_record.specs.declared.entry.Entry.TheVariants.{Got}
use Rattle.svc_record.specs.declared.event.Event.TheVariants.{Ready}
use Rattle.svc_record.specs.declared.action.StepEnd.TheVariants.{On}
use Rattle.svc_record.specs.Ends.{step_end}
use Rattle.svc_record.specs.Fits.{fits}
use Rattle.svc_record.specs.Right.{Right, is_right}
use Rattle.svc_record.specs.Tail.{closing_actions, tail_right}
use Rattle.svc_record.proofs.Sound.{right_from_test}
use Rattle.svc_record.proofs.TwoServices.{plan, asked}

right : Right plan asked
right = right_from_test plan asked refl

goes_on : step_end plan asked ≡ On
goes_on = refl

-- the service was ready before
stray : fits plan asked (Ready 0) ≡ false
stray = refl

stray-right : is_right plan (Got (Ready 0) ∷ asked) ≡ false
stray-right = refl

-- nothing is open, so nothing is closed
stray-closes : closing_actions plan asked (Some (Ready 0)) ≡ []
stray-closes = refl

stray-tail : tail_right asked (Some (Ready 0)) [] ≡ true
stray-tail = refl
