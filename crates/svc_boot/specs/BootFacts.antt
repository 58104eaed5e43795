-- What the joined core is told of bootstrapping.
use Rattle.std.specs.Prelude.{ℕ, Bool, true, false, ◌≡◌, not, List}
use Rattle.std.specs.List.{list_all}
use Rattle.svc_record.specs.declared.plan.Plan.{Plan}
use Rattle.svc_record.specs.declared.action.Action.{Action}
use Rattle.svc_record.specs.declared.action.Action.TheVariants.{Phase, OpenReceiver, TryReceive, NotifyParent, Daemonize}
use Rattle.svc_record.specs.declared.action.ExecutionPhase.TheVariants.{Bootstrap, BootstrapComplete, Running}
use Rattle.svc_record.specs.declared.event.Event.{Event}
use Rattle.svc_record.specs.declared.event.Event.TheVariants.{Moment, Received, NoSenderYet, ReceiveFailed, Side, ChildReady, ChildGone, DropFailed}
use Rattle.svc_boot.specs.BootData.{BootData}
use Rattle.svc_boot.specs.ForkState.{is_forked, is_parent_over}
use Rattle.svc_boot.specs.BootState.{is_through, is_refused, is_due_in}

-- the action belongs to the beginning of a run
abbrev pub is_boot_action : Action → Bool
is_boot_action (Phase Bootstrap ms) = true
is_boot_action (Phase BootstrapComplete ms) = true
is_boot_action (Phase Running ms) = true
is_boot_action OpenReceiver = true
is_boot_action TryReceive = true
is_boot_action NotifyParent = true
is_boot_action Daemonize = true
is_boot_action _ = false

-- none of them does
abbrev pub has_no_boot_action : List Action → Bool
has_no_boot_action told = list_all (λ a. not (is_boot_action a)) told

-- the event may change the state of a fork
abbrev pub is_fork_event : Event → Bool
is_fork_event (Moment ms) = true
is_fork_event (Side side) = true
is_fork_event ChildReady = true
is_fork_event ChildGone = true
is_fork_event DropFailed = true
is_fork_event _ = false

-- the event belongs to the beginning, or may change the state of a fork
abbrev pub is_boot_event : Event → Bool
is_boot_event (Received bytes fds) = true
is_boot_event NoSenderYet = true
is_boot_event ReceiveFailed = true
is_boot_event e = is_fork_event e

-- all is told that is due at the moment t: the fork where the server is a daemon; neither the parent's end nor the receiving ended the run, no try is
-- due, and bootstrapping is complete exactly where nothing is left to receive
pub record IsBootSettled (p : Plan) (d : BootData) (t : ℕ) : Type 0 where
  pub forked_is : is_forked d.fork ≡ p.daemon
  pub no_parent_over : is_parent_over d.fork ≡ false
  pub goes_on : is_refused d.receiving ≡ false
  pub no_try_due : is_due_in d.receiving t ≡ false
  pub complete_is : d.complete ≡ is_through p d
