-- How a run begins: the fork, bootstrapping, and when it runs.
use Rattle.std.specs.Prelude.{ℕ, Bool, true, false, ◌≡◌, ◌-◌, not, ◌&&◌, ◌||◌, List, [], ◌∷◌, Option, Some, None, length, nat_lt, nat_le, if◌then◌else◌}
use Rattle.std.specs.List.{list_any}
use Rattle.svc_record.specs.declared.plan.Plan.{Plan}
use Rattle.svc_graph.specs.declared.plan.Kind.TheVariants.{Bootstrap as BootstrapKind}
use Rattle.svc_record.specs.declared.entry.Entry.{Entry}
use Rattle.svc_record.specs.declared.entry.Entry.TheVariants.{Got, Told}
use Rattle.svc_record.specs.declared.action.Action.TheVariants.{Start, Phase, NotifyParent, OpenReceiver, TryReceive, Daemonize}
use Rattle.svc_record.specs.declared.event.Event.TheVariants.{Received, NoSenderYet, ReceiveFailed, Side}
use Rattle.svc_record.specs.declared.event.Side.TheVariants.{Child, Parent}
use Rattle.svc_record.specs.declared.action.ExecutionPhase.TheVariants.{BootstrapComplete, Running}
use Rattle.svc_record.specs.Record.{Record, has, once_if, now, is_running, is_bootstrap, is_bootstrap_complete, EachEntry, each_entry}
use Rattle.svc_record.specs.Plans.{services, has_kind}
use Rattle.svc_record.specs.Message.{decode}
use Rattle.svc_record.specs.Asks.{is_daemonize, is_try, is_try_open}
use Rattle.svc_record.specs.Starts.{is_started}

-- the process is the child
abbrev pub is_side_child : Entry → Bool
is_side_child (Got (Side Child)) = true
is_side_child _ = false

-- the process is the parent
abbrev pub is_side_parent : Entry → Bool
is_side_parent (Got (Side Parent)) = true
is_side_parent _ = false

-- the entry tells `NotifyParent`
abbrev pub is_notify : Entry → Bool
is_notify (Told NotifyParent) = true
is_notify _ = false

-- the entry tells `OpenReceiver`
abbrev pub is_open_receiver : Entry → Bool
is_open_receiver (Told OpenReceiver) = true
is_open_receiver _ = false

-- the message can be read
abbrev pub is_read : Option (List (List ℕ)) → Bool
is_read (Some words) = true
is_read None = false

-- a message came that can be read; one that can't
abbrev pub is_good_message : Entry → Bool
is_good_message (Got (Received bytes fds)) = is_read (decode bytes (length fds))
is_good_message _ = false

-- a message came that can't be read
abbrev pub is_bad_message : Entry → Bool
is_bad_message (Got (Received bytes fds)) = not (is_read (decode bytes (length fds)))
is_bad_message _ = false

-- no fork is awaited: the process is no daemon, or it is the daemon's child
abbrev pub may_begin : Plan → Record → Bool
may_begin p q = not p.daemon || has is_side_child q

-- bootstrapping has begun, eagerly or as a service of that kind started
abbrev pub has_begun : Plan → Record → Bool
has_begun p q = (p.eager && may_begin p q) || list_any (λ s. has_kind p BootstrapKind s && is_started q s) (services p)

-- bootstrapping has begun, and isn't the end
abbrev pub boots : Plan → Record → Bool
boots p q = has_begun p q && not p.test

-- the last try was answered by a message, or by `NoSenderYet` under 1,000 ms before the moment t
abbrev pub try_rests : ℕ → Record → Bool
try_rests t [] = false
try_rests t (Got (Received bytes fds) ∷ before) = true
try_rests t (Got NoSenderYet ∷ before) = nat_lt (t - now before) 1000
try_rests t (Got ReceiveFailed ∷ before) = false
try_rests t (e ∷ before) = try_rests t before

-- the fork is the first entry
abbrev pub stands_first : Entry → Record → Bool
stands_first (Told Daemonize) [] = true
stands_first (Told Daemonize) (e ∷ before) = false
stands_first _ before = true

-- a daemon tells nothing but the fork before it is the child
abbrev pub fork_first : Plan → Entry → Record → Bool
fork_first p (Told a) before = (not p.daemon || is_daemonize (Told a)) || has is_side_child before
fork_first p _ before = true

-- where a handover is received, a try is open, or it rests or was answered by a message
abbrev pub receive_right : Plan → Record → Bool
receive_right p q = once_if (boots p q && p.upgrade) is_open_receiver q
    && (if boots p q && p.upgrade then (is_try_open q || try_rests (now q) q) else not (has is_try q))

-- bootstrapping is complete where there is nothing to receive, or a message was read
abbrev pub complete_right : Plan → Record → Bool
complete_right p q = once_if (boots p q && (not p.upgrade || has is_good_message q)) is_bootstrap_complete q

-- whether the run runs
abbrev pub runs : Plan → Record → Bool
runs p q = may_begin p q && (not p.eager || has is_bootstrap_complete q)

-- with `eager` no service starts before bootstrapping is complete
abbrev pub start_after_boot : Plan → Entry → Record → Bool
start_after_boot p (Told (Start s)) before = not p.eager || has is_bootstrap_complete before
start_after_boot p _ before = true

-- each entry of the beginning stands where it is due, and nowhere else
abbrev pub boot_entries_right : Plan → Record → Bool
boot_entries_right p q = ((once_if p.daemon is_daemonize q && once_if (has_begun p q) is_bootstrap q)
    && (once_if (boots p q && (p.daemon && p.wait)) is_notify q && receive_right p q))
    && (complete_right p q && once_if (runs p q) is_running q)

-- the same as a test
abbrev pub boot_right : Plan → Record → Bool
boot_right p q = boot_entries_right p q && ((each_entry stands_first q && each_entry (fork_first p) q) && each_entry (start_after_boot p) q)

-- each entry of the beginning stands where it is due, and the fork comes first
pub record BootRight (p : Plan) (q : Record) : Type 0 where
  pub entries : boot_entries_right p q ≡ true
  pub first : EachEntry (λ e before. stands_first e before ≡ true) q
  pub fork : EachEntry (λ e before. fork_first p e before ≡ true) q
  pub starts : EachEntry (λ e before. start_after_boot p e before ≡ true) q

-- no try was answered yet, or the last answer is `NoSenderYet` 1,000 ms or more before the moment t
abbrev pub may_try : ℕ → Record → Bool
may_try t [] = true
may_try t (Got (Received bytes fds) ∷ before) = false
may_try t (Got NoSenderYet ∷ before) = nat_le 1000 (t - now before)
may_try t (Got ReceiveFailed ∷ before) = false
may_try t (e ∷ before) = may_try t before

-- stronger: a try to receive comes after the receiver was opened, while none is open, and only where there may be one
abbrev pub try_due : Entry → Record → Bool
try_due (Told TryReceive) before = (has is_open_receiver before && not (is_try_open before)) && may_try (now before) before
try_due _ before = true

-- stronger: what belongs to bootstrapping comes after the phase `Bootstrap`, and with `eager` the run runs after bootstrapping is complete
abbrev pub boot_due : Plan → Entry → Record → Bool
boot_due p (Told NotifyParent) before = has is_bootstrap before
boot_due p (Told OpenReceiver) before = has is_bootstrap before
boot_due p (Told TryReceive) before = has is_bootstrap before
boot_due p (Told (Phase BootstrapComplete ms)) before = has is_bootstrap before
boot_due p (Told (Phase Running ms)) before = not p.eager || has is_bootstrap_complete before
boot_due p _ before = true
