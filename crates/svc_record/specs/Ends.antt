-- How a run has ended.
use Rattle.std.specs.Prelude.{ℕ, Bool, true, false, ◌==◌, ◌≡◌, ◌<◌, ◌-◌, ◌/◌, not, ◌&&◌, ◌||◌, List, [], ◌∷◌, length, nat_lt, nat_le, if◌then◌else◌}
use Rattle.std.specs.Bool.{OnFalse}
use Rattle.std.specs.List.{list_any, list_all}
use Rattle.svc_record.specs.declared.plan.Plan.{Plan}
use Rattle.svc_graph.specs.declared.plan.Kind.TheVariants.{Bootstrap as BootstrapKind}
use Rattle.svc_record.specs.declared.entry.Entry.{Entry}
use Rattle.svc_record.specs.declared.entry.Entry.TheVariants.{Got}
use Rattle.svc_record.specs.declared.event.Event.TheVariants.{Moment, NoSenderYet, ReceiveFailed, ChildReady, ChildGone, DropFailed}
use Rattle.svc_record.specs.declared.action.StepEnd.{StepEnd}
use Rattle.svc_record.specs.declared.action.StepEnd.TheVariants.{On, Served, Tested, Parent, Ended}
use Rattle.svc_record.specs.declared.action.BootstrapError.TheVariants.{Transfer, NoSender, BadMessage}
use Rattle.svc_record.specs.Record.{Record, has, times, now, is_bootstrap, EachEntry, each_entry}
use Rattle.svc_record.specs.Plans.{endpoints, endpoint_numbers, has_kind}
use Rattle.svc_record.specs.Starts.{is_start, is_started, is_due, start_right, startup_order}
use Rattle.svc_record.specs.Endpoints.{endpoint_right_late}
use Rattle.svc_record.specs.Boot.{is_side_parent, is_bad_message, may_begin, has_begun, start_after_boot}
use Rattle.svc_record.specs.Drain.{waits_are_over}

-- the event is `ChildReady`
abbrev pub is_child_ready : Entry → Bool
is_child_ready (Got ChildReady) = true
is_child_ready _ = false

-- the child is gone, or the parent couldn't drop its rights
abbrev pub is_parent_failure : Entry → Bool
is_parent_failure (Got ChildGone) = true
is_parent_failure (Got DropFailed) = true
is_parent_failure _ = false

-- the event is `NoSenderYet`
abbrev pub is_no_sender : Entry → Bool
is_no_sender (Got NoSenderYet) = true
is_no_sender _ = false

-- the event is `ReceiveFailed`
abbrev pub is_receive_failure : Entry → Bool
is_receive_failure (Got ReceiveFailed) = true
is_receive_failure _ = false

-- the moment at which the process became the parent
abbrev pub parent_moment : Record → ℕ
parent_moment [] = 0
parent_moment (e ∷ before) = if is_side_parent e && not (has is_side_parent before) then now before else parent_moment before

-- after that came a moment at which the parent had waited long enough
abbrev pub parent_waited : Plan → Record → Bool
parent_waited p [] = false
parent_waited p (Got (Moment ms) ∷ before) =
    (has is_side_parent before && nat_le p.ready_timeout ((ms - parent_moment before) / 1000)) || parent_waited p before
parent_waited p (e ∷ before) = parent_waited p before

-- the ways in which a run ends
abbrev pub ends_tested : Plan → Record → Bool
ends_tested p q = p.test && has is_bootstrap q

-- the parent needn't wait, or its child is ready
abbrev pub ends_parent_well : Plan → Record → Bool
ends_parent_well p q = has is_side_parent q && (not p.wait || has is_child_ready q)

-- the parent waited for a child that isn't ready
abbrev pub ends_parent_badly : Plan → Record → Bool
ends_parent_badly p q = (p.wait && has is_side_parent q) && (has is_parent_failure q || parent_waited p q)

-- receiving failed
abbrev pub ends_transfer : Record → Bool
ends_transfer q = has is_receive_failure q

-- no sender was there too often
abbrev pub ends_no_sender : Plan → Record → Bool
ends_no_sender p q = nat_lt p.limit (times is_no_sender q)

-- a message came that can't be read
abbrev pub ends_bad_message : Record → Bool
ends_bad_message q = has is_bad_message q

-- how the run has ended, if it has
abbrev pub step_end : Plan → Record → StepEnd
step_end p q =
    if waits_are_over p q then Served else
    (if ends_tested p q then Tested else (if ends_parent_well p q then Parent 0 else (if ends_parent_badly p q then Parent 1
    else (if ends_transfer q then Ended Transfer else (if ends_no_sender p q then Ended NoSender else (if ends_bad_message q then Ended BadMessage else On))))))

-- otherwise than served or tested
abbrev pub has_ended_early : Plan → Record → Bool
has_ended_early p q = ((ends_parent_well p q || ends_parent_badly p q) || ends_transfer q) || (ends_no_sender p q || ends_bad_message q)

-- the run has ended in some way
abbrev pub has_ended : Plan → Record → Bool
has_ended p q = (waits_are_over p q || ends_tested p q) || has_ended_early p q

-- the services of the list before the first one that bootstraps and is started
abbrev pub before_boot : Plan → Record → List ℕ → List ℕ
before_boot p q [] = []
before_boot p q (s ∷ more) = if has_kind p BootstrapKind s && is_started q s then [] else s ∷ before_boot p q more

-- the services that stand in startup order before the one by which bootstrapping began
abbrev pub visited_services : Plan → Record → List ℕ
visited_services p q = before_boot p q (startup_order p)

-- the service is one of them
abbrev pub is_visited : Plan → Record → ℕ → Bool
is_visited p q s = list_any (λ n. n == s) (visited_services p q)

-- stronger: a run that was tested has begun to bootstrap, as a daemon's child where it is a daemon; with `eager` nothing was started, and else the
-- services before it are started where they are due, and their endpoints held or wait
pub record TestedRight (p : Plan) (q : Record) : Type 0 where
  pub forked : may_begin p q ≡ true
  pub begun : has_begun p q ≡ true
  pub in_turn : EachEntry (λ e before. start_after_boot p e before ≡ true) q
  pub starts : OnFalse p.eager ((s : ℕ) → is_visited p q s ≡ true → times (is_start s) q ≡ (if is_due p q s then 1 else 0))
  pub endpoints : OnFalse p.eager ((s i : ℕ) → is_visited p q s ≡ true → i < length (endpoints p s) → endpoint_right_late p q s i ≡ true)

-- the same as a test
abbrev pub tested_right : Plan → Record → Bool
tested_right p q = ((may_begin p q && has_begun p q) && each_entry (start_after_boot p) q)
    && ((p.eager || list_all (start_right p q) (visited_services p q))
    && (p.eager || list_all (λ s. list_all (endpoint_right_late p q s) (endpoint_numbers p s)) (visited_services p q)))
