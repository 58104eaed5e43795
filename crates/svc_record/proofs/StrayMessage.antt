-- Runs that a message ends which doesn't fit, since a number in it isn't new: what stands before it is right, and each number is closed once.
use Rattle.std.proofs.Common.{true, false, [], ◌∷◌, Some, codes, ◌≡◌, refl}
use Rattle.std.specs.Str.{is_utf8, chars}
use lib.Utf8.{encode}
use Rattle.svc_fds.specs.Messages.{is_well_formed, words}
use Rattle.svc_record.specs.declared.plan.Plan.{Plan}
use Rattle.svc_record.specs.declared.entry.Entry.TheVariants.{Got}
use Rattle.svc_record.specs.declared.event.Event.{Event}
use Rattle.svc_record.specs.declared.event.Event.TheVariants.{Bound, Received}
use Rattle.svc_record.specs.declared.action.Action.TheVariants.{Close}
use Rattle.svc_record.specs.declared.action.StepEnd.TheVariants.{On}
use Rattle.svc_record.specs.Record.{Record}
use Rattle.svc_record.specs.Ends.{step_end}
use Rattle.svc_record.specs.Fits.{fits}
use Rattle.svc_record.specs.Right.{Right, is_right}
use Rattle.svc_record.specs.Tail.{closing_actions, tail_right}
use Rattle.svc_record.proofs.Sound.{right_from_test}
use Rattle.svc_record.proofs.TwoServices.{plan_of, listening}
use Rattle.svc_record.proofs.InheritedSockets.{one_address, begun}
use Rattle.svc_record.proofs.BootstrapService.{bootstrapping, begun as both_begun}

-- one number twice
abbrev twice : Event
twice = Received (codes "a:1 b:2") (5 ∷ 5 ∷ [])

begun-right : Right one_address begun
begun-right = right_from_test one_address begun refl

begun-goes_on : step_end one_address begun ≡ On
begun-goes_on = refl

twice-stray : fits one_address begun twice ≡ false
twice-stray = refl

twice-right : is_right one_address (Got twice ∷ begun) ≡ false
unfolding is_utf8 chars encode is_well_formed words
twice-right = refl

twice-closes : closing_actions one_address begun (Some twice) ≡ Close 5 ∷ []
twice-closes = refl

twice-tail : tail_right begun (Some twice) (Close 5 ∷ []) ≡ true
twice-tail = refl

twice-closed_twice : tail_right begun (Some twice) (Close 5 ∷ Close 5 ∷ []) ≡ false
twice-closed_twice = refl

-- a service that listens, beside one that bootstraps
abbrev plan : Plan
plan = record (plan_of (listening [] (codes "b:2") ∷ bootstrapping ∷ [])) { upgrade = true }

abbrev bound : Record
bound = Got (Bound 0 0 7) ∷ both_begun

-- the number of a descriptor that is open
abbrev again : Event
again = Received (codes "a:1") (7 ∷ [])

bound-right : Right plan bound
bound-right = right_from_test plan bound refl

again-stray : fits plan bound again ≡ false
again-stray = refl

again-closes : closing_actions plan bound (Some again) ≡ Close 7 ∷ []
again-closes = refl

again-tail : tail_right bound (Some again) (Close 7 ∷ []) ≡ true
again-tail = refl
