-- What belongs to no beginning of a run changes nothing of bootstrapping.
use Rattle.std.proofs.Common.{ℕ, true, false, not, ◌||◌, List, [], ◌∷◌, ◌≡◌, refl}
use Rattle.std.proofs.lemmas.Bool.{and_parts}
use Rattle.svc_record.specs.declared.plan.Plan.{Plan}
use Rattle.svc_record.specs.declared.entry.Entry.TheVariants.{Got, Told}
use Rattle.svc_record.specs.declared.action.Action.{Action}
use Rattle.svc_record.specs.declared.action.Action.TheVariants.{Fail, Close, Phase, OpenReceiver, TryReceive, NotifyParent, Daemonize}
use Rattle.svc_record.specs.declared.action.ExecutionPhase.TheVariants.{Bootstrap, BootstrapComplete, Running}
use Rattle.svc_record.specs.declared.event.Event.{Event}
use Rattle.svc_record.specs.declared.event.Event.TheVariants.{Moment, Received, NoSenderYet, ReceiveFailed, Side, ChildReady, ChildGone, DropFailed}
use Rattle.svc_record.specs.Record.{Record, tell}
use Rattle.svc_record.specs.Told.{IsGivingUp}
use Rattle.svc_boot.specs.BootData.{BootData}
use Rattle.svc_boot.specs.ForkState.{may_run, is_parent}
use Rattle.svc_boot.specs.BootState.{BootStands}
use Rattle.svc_boot.specs.BootFacts.{is_boot_action, has_no_boot_action, is_boot_event}
use Rattle.svc_boot.proofs.ForkLemmas.{fork-told, fork-got, fork-moment}
use Rattle.svc_base.proofs.Logic.{apart_from as not_true}

-- an action that doesn't belong to the beginning, where the server goes on
pub stands-told : (p : Plan) (d : BootData) (q : Record) (a : Action) → is_boot_action a ≡ false → may_run p d.fork ≡ true → BootStands p d q
    → BootStands p d (Told a ∷ q)
stands-told p d q (Phase Bootstrap ms) other free stand = cc
stands-told p d q (Phase BootstrapComplete ms) other free stand = cc
stands-told p d q (Phase Running ms) other free stand = cc
stands-told p d q OpenReceiver other free stand = cc
stands-told p d q TryReceive other free stand = cc
stands-told p d q NotifyParent other free stand = cc
stands-told p d q Daemonize other free stand = cc
stands-told p d q a other free stand = let b = stand.begin in let x = stand.receiving in record {
  kept = stand.kept;
  begin = record { begun_is = b.begun_is; begun_times = b.begun_times; complete_is = b.complete_is; complete_times = b.complete_times };
  receiving = record {
    opened_is = x.opened_is;
    opened_times = x.opened_times;
    tried_is = x.tried_is;
    trying_is = x.trying_is;
    may_is = x.may_is;
    rests_is = x.rests_is;
    good_is = x.good_is;
    bad_is = x.bad_is;
    failed_is = x.failed_is;
  };
  missing_is = stand.missing_is;
  retries_is = stand.retries_is;
  notified_times = stand.notified_times;
  fork = fork-told p d.fork q a refl free stand.fork;
  boots_due = (refl, stand.boots_due);
  tries_due = (refl, stand.tries_due);
}

-- the phase `Running`, where it is due and the server goes on
pub stands-running : (p : Plan) (d : BootData) (q : Record) (ms : ℕ) → (not p.eager || d.complete) ≡ true → may_run p d.fork ≡ true → BootStands p d q
    → BootStands p d (Told (Phase Running ms) ∷ q)
stands-running p d q ms due free stand = let b = stand.begin in let x = stand.receiving in record {
  kept = stand.kept;
  begin = record { begun_is = b.begun_is; begun_times = b.begun_times; complete_is = b.complete_is; complete_times = b.complete_times };
  receiving = record {
    opened_is = x.opened_is;
    opened_times = x.opened_times;
    tried_is = x.tried_is;
    trying_is = x.trying_is;
    may_is = x.may_is;
    rests_is = x.rests_is;
    good_is = x.good_is;
    bad_is = x.bad_is;
    failed_is = x.failed_is;
  };
  missing_is = stand.missing_is;
  retries_is = stand.retries_is;
  notified_times = stand.notified_times;
  fork = fork-told p d.fork q (Phase Running ms) refl free stand.fork;
  boots_due = (rw b.complete_is due, stand.boots_due);
  tries_due = (refl, stand.tries_due);
}

-- an event that doesn't belong to the beginning
pub stands-got : (p : Plan) (d : BootData) (q : Record) (e : Event) → is_boot_event e ≡ false → BootStands p d q → BootStands p d (Got e ∷ q)
stands-got p d q (Moment ms) other stand = cc
stands-got p d q (Received bytes fds) other stand = cc
stands-got p d q NoSenderYet other stand = cc
stands-got p d q ReceiveFailed other stand = cc
stands-got p d q (Side side) other stand = cc
stands-got p d q ChildReady other stand = cc
stands-got p d q ChildGone other stand = cc
stands-got p d q DropFailed other stand = cc
stands-got p d q e other stand = let b = stand.begin in let x = stand.receiving in record {
  kept = stand.kept;
  begin = record { begun_is = b.begun_is; begun_times = b.begun_times; complete_is = b.complete_is; complete_times = b.complete_times };
  receiving = record {
    opened_is = x.opened_is;
    opened_times = x.opened_times;
    tried_is = x.tried_is;
    trying_is = x.trying_is;
    may_is = x.may_is;
    rests_is = x.rests_is;
    good_is = x.good_is;
    bad_is = x.bad_is;
    failed_is = x.failed_is;
  };
  missing_is = stand.missing_is;
  retries_is = stand.retries_is;
  notified_times = stand.notified_times;
  fork = fork-got p d.fork q e refl stand.fork;
  boots_due = (refl, stand.boots_due);
  tries_due = (refl, stand.tries_due);
}

-- a moment, where the process is no parent
pub stands-moment : (p : Plan) (d : BootData) (q : Record) (ms : ℕ) → is_parent d.fork ≡ false → BootStands p d q → BootStands p d (Got (Moment ms) ∷ q)
stands-moment p d q ms none stand = let b = stand.begin in let x = stand.receiving in record {
  kept = stand.kept;
  begin = record { begun_is = b.begun_is; begun_times = b.begun_times; complete_is = b.complete_is; complete_times = b.complete_times };
  receiving = record {
    opened_is = x.opened_is;
    opened_times = x.opened_times;
    tried_is = x.tried_is;
    trying_is = x.trying_is;
    may_is = x.may_is;
    rests_is = x.rests_is;
    good_is = x.good_is;
    bad_is = x.bad_is;
    failed_is = x.failed_is;
  };
  missing_is = stand.missing_is;
  retries_is = stand.retries_is;
  notified_times = stand.notified_times;
  fork = fork-moment p d.fork q ms none stand.fork;
  boots_due = (refl, stand.boots_due);
  tries_due = (refl, stand.tries_due);
}

-- a told list in which nothing belongs to the beginning, where the server goes on
pub stands-tell : (p : Plan) (d : BootData) (q : Record) (told : List Action) → has_no_boot_action told ≡ true → may_run p d.fork ≡ true → BootStands p d q
    → BootStands p d (tell q told)
stands-tell p d q [] other free stand = stand
stands-tell p d q (a ∷ told) other free stand =
    let parts = and_parts (not (is_boot_action a)) (has_no_boot_action told) other in
    stands-tell p d (Told a ∷ q) told parts.1 free (stands-told p d q a (not_true (is_boot_action a) parts.0) free stand)

-- services that are given up, and closes, are one
pub giving_up-other : (told : List Action) → IsGivingUp told → has_no_boot_action told ≡ true
giving_up-other [] quiet = refl
giving_up-other (Fail s ∷ told) quiet = giving_up-other told quiet
giving_up-other (Close fd ∷ told) quiet = giving_up-other told quiet
giving_up-other (_ ∷ told) quiet = absurd quiet
