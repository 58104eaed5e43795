-- What each call makes of the part on bootstrapping, and what it tells.
use Rattle.std.specs.Prelude.{ℕ, Bool, true, false, ◌-◌, ◌/◌, not, ◌&&◌, ◌||◌, ◌++◌, List, [], ◌∷◌, nat_lt, nat_le, if◌then◌else◌}
use Rattle.svc_record.specs.declared.plan.Plan.{Plan}
use Rattle.svc_record.specs.declared.action.Action.{Action}
use Rattle.svc_record.specs.declared.action.Action.TheVariants.{Phase, NotifyParent, OpenReceiver, TryReceive}
use Rattle.svc_record.specs.declared.action.ExecutionPhase.TheVariants.{Bootstrap, BootstrapComplete}
use Rattle.svc_record.specs.declared.action.StepEnd.{StepEnd}
use Rattle.svc_record.specs.declared.action.StepEnd.TheVariants.{On, Tested, Parent, Ended}
use Rattle.svc_record.specs.declared.action.BootstrapError.TheVariants.{Transfer, NoSender, BadMessage}
use Rattle.svc_record.specs.declared.event.Side.{Side}
use Rattle.svc_record.specs.declared.event.Side.TheVariants as sides
use Rattle.svc_boot.specs.declared.fork.Fork.{Fork}
use Rattle.svc_boot.specs.declared.fork.Fork.TheVariants.{Unforked, Child, Waiting, Over}
use Rattle.svc_boot.specs.declared.receiving.Receiving.{Receiving}
use Rattle.svc_boot.specs.declared.receiving.Receiving.TheVariants.{Unasked, Trying, Missed, Came, Refused}
use Rattle.svc_boot.specs.BootData.{BootData}
use Rattle.svc_boot.specs.ForkState.{is_parent_over}
use Rattle.svc_boot.specs.BootState.{is_refused, has_come, notifies}

-- nothing has happened, and so many missing senders are borne
abbrev pub unbegun : ℕ → BootData
unbegun limit = record { fork = Unforked; begun = false; complete = false; receiving = Unasked; retries = limit }

-- the part with this fork
abbrev pub forked : Fork → BootData → BootData
forked f d = record { fork = f; begun = d.begun; complete = d.complete; receiving = d.receiving; retries = d.retries }

-- which side of the fork the process is, at this moment: the child goes on, and the parent waits for it or ends
abbrev pub side_taken : Bool → Side → ℕ → Fork
side_taken wait sides.Child moment = Child
side_taken wait sides.Parent moment = if wait then Waiting moment else Over 0

-- the fork at a moment: a parent that has waited so many whole seconds ends badly
abbrev pub waited : ℕ → ℕ → Fork → Fork
waited limit moment (Waiting at) = if nat_le limit ((moment - at) / 1000) then Over 1 else Waiting at
waited limit moment f = f

-- the parent is notified
abbrev pub notify_told : Bool → List Action
notify_told notify = if notify then NotifyParent ∷ [] else []

-- an older server's message is received, or all is complete
abbrev pub receive_told : Bool → ℕ → List Action
receive_told upgrade moment = if upgrade then OpenReceiver ∷ TryReceive ∷ [] else Phase BootstrapComplete moment ∷ []

-- what follows the phase `Bootstrap`, by whether the run tests, whether a parent is notified, and whether it takes over
abbrev pub begin_more : Bool → Bool → Bool → ℕ → List Action
begin_more test notify upgrade moment = if test then [] else notify_told notify ++ receive_told upgrade moment

-- bootstrapping begins: with `test` that is all, else the older server's message is received, or all is complete
abbrev pub begun_with : Bool → Bool → BootData → BootData
begun_with true upgrade d = record { fork = d.fork; begun = true; complete = d.complete; receiving = d.receiving; retries = d.retries }
begun_with false true d = record { fork = d.fork; begun = true; complete = d.complete; receiving = Trying; retries = d.retries }
begun_with false false d = record { fork = d.fork; begun = true; complete = true; receiving = d.receiving; retries = d.retries }

-- the part after a beginning: only the first changes it
abbrev pub begun_from : Bool → Bool → BootData → BootData
begun_from test upgrade d = if d.begun then d else begun_with test upgrade d

-- the same in a run by the plan
abbrev pub begun_by : Plan → BootData → BootData
begun_by p d = begun_from p.test p.upgrade d

-- what a beginning tells at this moment: only the first tells something
abbrev pub told_from : Bool → Bool → Bool → BootData → ℕ → List Action
told_from test notify upgrade d moment = if d.begun then [] else Phase Bootstrap moment ∷ begin_more test notify upgrade moment

-- the same in a run by the plan
abbrev pub begin_told : Plan → BootData → ℕ → List Action
begin_told p d moment = told_from p.test (notifies p) p.upgrade d moment

-- nobody sent yet at this moment: too often, or it is tried again
abbrev pub missed : ℕ → BootData → BootData
missed moment d = record {
  fork = d.fork;
  begun = d.begun;
  complete = d.complete;
  receiving = if nat_lt d.retries 1 then Refused NoSender else Missed moment;
  retries = d.retries - 1;
}

-- receiving failed
abbrev pub failed : BootData → BootData
failed d = record { fork = d.fork; begun = d.begun; complete = d.complete; receiving = Refused Transfer; retries = d.retries }

-- a message came that can be read, or one that can't
abbrev pub received : Bool → BootData → BootData
received good d = record { fork = d.fork; begun = d.begun; complete = d.complete; receiving = if good then Came else Refused BadMessage; retries = d.retries }

-- a message has come, and it wasn't told yet that bootstrapping is complete
abbrev pub is_complete_due : BootData → Bool
is_complete_due d = has_come d.receiving && not d.complete

-- the part after that is told
abbrev pub completed_if : Bool → BootData → BootData
completed_if due d = record { fork = d.fork; begun = d.begun; complete = d.complete || due; receiving = d.receiving; retries = d.retries }

-- what is told then
abbrev pub complete_told : Bool → ℕ → List Action
complete_told due moment = if due then Phase BootstrapComplete moment ∷ [] else []

-- it is tried again
abbrev pub tried_if : Bool → BootData → BootData
tried_if due d = record { fork = d.fork; begun = d.begun; complete = d.complete; receiving = if due then Trying else d.receiving; retries = d.retries }

-- what is told then
abbrev pub try_told : Bool → List Action
try_told due = if due then TryReceive ∷ [] else []

-- how the receiving ends the run
abbrev pub refusal_of : Receiving → StepEnd
refusal_of (Refused reason) = Ended reason
refusal_of _ = On

-- how the parent's end or the receiving ends the run
abbrev pub early_end : Fork → Receiving → StepEnd
early_end (Over status) x = Parent status
early_end _ x = refusal_of x

-- how bootstrapping ends the run, by whether that tests
abbrev pub end_from : Bool → BootData → StepEnd
end_from test d = if test && d.begun then Tested else early_end d.fork d.receiving

-- the same in a run by the plan
abbrev pub end_of : Plan → BootData → StepEnd
end_of p d = end_from p.test d

-- the parent's end or the receiving ends the run
abbrev pub is_early : BootData → Bool
is_early d = is_parent_over d.fork || is_refused d.receiving

-- bootstrapping ends the run
abbrev pub is_over : Plan → BootData → Bool
is_over p d = (p.test && d.begun) || is_early d
