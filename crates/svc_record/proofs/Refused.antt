-- Records that no server leaves: each is refused, by the clauses that say why.
use Rattle.std.proofs.Common.{ℕ, true, [], ◌∷◌, ◌++◌, codes, ◌≡◌, refl}
use Rattle.svc_record.specs.declared.plan.Plan.{Plan}
use Rattle.svc_record.specs.declared.entry.Entry.TheVariants.{Got, Told}
use Rattle.svc_record.specs.declared.event.Event.TheVariants.{Moment as Time, Ready, Ended, Bound, InUse, BindFailed, Adopted, Signal}
use Rattle.svc_record.specs.declared.event.ShutdownSignal.TheVariants.{FastShutdown}
use Rattle.svc_record.specs.declared.action.Action.TheVariants.{Start, Fail, Bind, Adopt, Close, Phase, Stop}
use Rattle.svc_record.specs.declared.action.ExecutionPhase.TheVariants.{Setup, Bootstrap, BootstrapComplete, Running, ShutdownStarted, ShutdownGracePeriod, ShutdownRuntimes, Terminated}
use Rattle.svc_record.specs.declared.action.StepEnd.TheVariants.{On}
use Rattle.svc_record.specs.Record.{Record}
use Rattle.svc_record.specs.Ends.{step_end}
use Rattle.svc_record.specs.Right.{is_served}
use Rattle.svc_record.proofs.Clauses.{EventFits, StartInTurn, AskInTurn, GivenUp, CloseOnce, Moment, StartKnown, AskKnown, Beginning, Closes, OneLive, Starts, Endpoints, EndpointsLate, Phases, NoEnd, FirstToPass, AllPhases, LastActions, EndNowhereElse, Serves, AllClosed, ClosedAfter, LastStep, BeginningOfAll, IsRefusedBy}
use Rattle.svc_record.proofs.TwoServices.{plan_of, listening, database, plan, asked, bound, run}
use Rattle.svc_record.proofs.SharedAddress.{plan as shared_plan, refused, retried, offered}
use Rattle.svc_record.proofs.FailedBind.{plan as failing_plan, half_held, given_up}
use Rattle.svc_record.proofs.UnixInUse.{plan as unix_plan}

-- two services that say when they are ready, the second after the first
abbrev later : Plan
later = plan_of (database ∷ record database { depends = 0 ∷ [] } ∷ [])

-- two services with an address each
abbrev pair : Plan
pair = plan_of (listening [] (codes "127.0.0.1:80") ∷ listening [] (codes "127.0.0.1:81") ∷ [])

-- two services with one address
abbrev shared : Plan
shared = plan_of (listening [] (codes "127.0.0.1:80") ∷ listening [] (codes "127.0.0.1:80") ∷ [])

-- one service is started, and the run runs
abbrev begun : Record
begun = Told (Phase Running 0) ∷ Told (Start 0) ∷ []

-- both services are started and bound
abbrev both_asked : Record
both_asked = Told (Phase Running 0) ∷ Told (Bind 1 0) ∷ Told (Start 1) ∷ Told (Bind 0 0) ∷ Told (Start 0) ∷ []

-- both services are started, and the first asks
abbrev both_asked_for_one : Record
both_asked_for_one = Told (Phase Running 0) ∷ Told (Start 1) ∷ Told (Bind 0 0) ∷ Told (Start 0) ∷ []

-- the signal has come
abbrev signalled : Record
signalled = Got (Signal FastShutdown) ∷ bound

-- the end with these closes, after which `Stop` waits so many seconds
abbrev ended : Record → ℕ → Record → Record
ended closes seconds before =
    Told (Phase Terminated 0) ∷ Told (Stop seconds) ∷ closes ++ Told (Phase ShutdownRuntimes 0) ∷ Told (Phase ShutdownStarted 0) ∷ before

-- a start is told twice
start_twice : IsRefusedBy plan (Told (Start 0) ∷ begun) (StartInTurn ∷ Starts ∷ [])
start_twice = (refl, refl)

-- a service starts before its dependency is ready
start_early : IsRefusedBy plan (Told (Bind 1 0) ∷ Told (Start 1) ∷ begun) (StartInTurn ∷ Starts ∷ [])
start_early = (refl, refl)

-- a due service isn't started
start_left_out : IsRefusedBy plan (Got (Ready 0) ∷ begun) (Starts ∷ [])
start_left_out = (refl, refl)

-- a number that is no service is started
start_of_none : IsRefusedBy plan (Told (Start 2) ∷ begun) (StartKnown ∷ [])
start_of_none = (refl, refl)

-- an endpoint is bound whose service isn't started
bind_unstarted : IsRefusedBy plan (Told (Bind 1 0) ∷ begun) (AskInTurn ∷ [])
bind_unstarted = (refl, refl)

-- a bind is told again while it is open
bind_twice : IsRefusedBy plan (Told (Bind 1 0) ∷ asked) (AskInTurn ∷ [])
bind_twice = (refl, refl)

-- an endpoint of a started service isn't bound
bind_left_out : IsRefusedBy plan (Told (Start 1) ∷ Got (Ready 0) ∷ begun) (Endpoints ∷ EndpointsLate ∷ [])
bind_left_out = (refl, refl)

-- an endpoint is bound that is held
bind_of_held : IsRefusedBy plan (Told (Bind 1 0) ∷ bound) (AskInTurn ∷ [])
bind_of_held = (refl, refl)

-- something is bound that is no endpoint
bind_of_none : IsRefusedBy plan (Told (Bind 0 0) ∷ begun) (AskInTurn ∷ AskKnown ∷ [])
bind_of_none = (refl, refl)

-- one address is bound for two services at once
bind_of_both : IsRefusedBy shared both_asked (AskInTurn ∷ [])
bind_of_both = (refl, refl)

-- a second descriptor comes under the number of the first
number_twice : IsRefusedBy pair (Got (Bound 1 0 7) ∷ Got (Bound 0 0 7) ∷ both_asked) (EventFits ∷ [])
number_twice = (refl, refl)

-- a descriptor comes under the number of a closed one
number_again : IsRefusedBy pair (Got (Bound 1 0 7) ∷ Told (Close 7) ∷ Got (Bound 0 0 7) ∷ both_asked) (EventFits ∷ Closes ∷ Endpoints ∷ [])
number_again = (refl, refl)

-- a second descriptor of one address is left open
second_left_open : IsRefusedBy shared (Got (Bound 1 0 8) ∷ Got (Bound 0 0 7) ∷ both_asked) (AskInTurn ∷ Closes ∷ OneLive ∷ Endpoints ∷ EndpointsLate ∷ [])
second_left_open = (refl, refl)

-- the first is closed in place of the second
first_closed : IsRefusedBy shared (Told (Close 7) ∷ Got (Bound 1 0 8) ∷ Got (Bound 0 0 7) ∷ both_asked) (AskInTurn ∷ Closes ∷ Endpoints ∷ EndpointsLate ∷ [])
first_closed = (refl, refl)

-- a number is closed that was never opened
close_of_none : IsRefusedBy plan (Told (Close 9) ∷ bound) (CloseOnce ∷ [])
close_of_none = (refl, refl)

-- a number is closed that is opened only later
close_of_later : IsRefusedBy plan (Got (Bound 1 0 7) ∷ Told (Close 7) ∷ asked) (CloseOnce ∷ Closes ∷ Endpoints ∷ [])
close_of_later = (refl, refl)

-- a descriptor is closed that isn't gone
close_early : IsRefusedBy plan (Told (Close 7) ∷ bound) (Closes ∷ Endpoints ∷ [])
close_early = (refl, refl)

-- a descriptor is closed twice
close_twice : IsRefusedBy plan (ended (Told (Close 7) ∷ Told (Close 7) ∷ []) 0 signalled) (CloseOnce ∷ LastActions ∷ AllClosed ∷ [])
close_twice = (refl, refl)

-- a descriptor is left open at the end
close_left_out : IsRefusedBy plan (ended [] 0 signalled) (LastActions ∷ AllClosed ∷ [])
close_left_out = (refl, refl)

-- a number is closed before it is opened, and not after that
close_of_later_at_the_end : IsRefusedBy plan (ended [] 0 (Got (Signal FastShutdown) ∷ Got (Bound 1 0 7) ∷ Told (Close 7) ∷ asked))
    (CloseOnce ∷ Closes ∷ Endpoints ∷ Serves ∷ ClosedAfter ∷ LastStep ∷ [])
close_of_later_at_the_end = (refl, refl)

-- a due service isn't started before the signal
start_left_out_at_the_end : IsRefusedBy plan (ended [] 0 (Got (Signal FastShutdown) ∷ Got (Ready 0) ∷ begun)) (Starts ∷ Serves ∷ LastStep ∷ [])
start_left_out_at_the_end = (refl, refl)

-- a descriptor is closed in the last step, but before `ShutdownRuntimes`
close_in_last_step : IsRefusedBy plan (ended [] 0 (Told (Close 7) ∷ Got (Signal FastShutdown) ∷ bound)) (LastStep ∷ [])
close_in_last_step = (refl, refl)

-- the last closes stand in descending order
closes_descend : IsRefusedBy pair
    (ended (Told (Close 7) ∷ Told (Close 8) ∷ []) 0 (Got (Signal FastShutdown) ∷ Got (Bound 1 0 8) ∷ Got (Bound 0 0 7) ∷ both_asked)) (LastActions ∷ [])
closes_descend = (refl, refl)

-- `Stop` waits after a fast signal
stop_waits : IsRefusedBy plan (ended (Told (Close 7) ∷ []) 5 signalled) (LastActions ∷ [])
stop_waits = (refl, refl)

-- `Stop` is told before the end
stop_early : IsRefusedBy plan (Told (Stop 0) ∷ bound) (NoEnd ∷ [])
stop_early = (refl, refl)

-- `Stop` is told in the last step before `ShutdownRuntimes`, and then again
stop_in_last_step : IsRefusedBy plan (ended (Told (Close 7) ∷ []) 0 (Told (Stop 0) ∷ signalled)) (EndNowhereElse ∷ [])
stop_in_last_step = (refl, refl)

-- a phase carries a moment that hasn't come
moment_wrong : IsRefusedBy plan (Told (Phase Running 1) ∷ Told (Start 0) ∷ []) (Moment ∷ [])
moment_wrong = (refl, refl)

-- the last phase does
last_moment_wrong : IsRefusedBy plan
    (Told (Phase Terminated 1) ∷ Told (Stop 0) ∷ Told (Close 7) ∷ Told (Phase ShutdownRuntimes 0) ∷ Told (Phase ShutdownStarted 0) ∷ signalled)
    (Moment ∷ LastActions ∷ [])
last_moment_wrong = (refl, refl)

-- a phase after a moment carries none
started_without_moment : IsRefusedBy plan
    (Told (Phase Terminated 5) ∷ Told (Stop 0) ∷ Told (Close 7) ∷ Told (Phase ShutdownRuntimes 5) ∷ Told (Phase ShutdownStarted 0) ∷ Got (Signal FastShutdown)
    ∷ Got (Time 5) ∷ bound) (Moment ∷ [])
started_without_moment = (refl, refl)

-- none of the last phases does
end_without_moment : IsRefusedBy plan (ended (Told (Close 7) ∷ []) 0 (Got (Signal FastShutdown) ∷ Got (Time 5) ∷ bound)) (Moment ∷ LastActions ∷ [])
end_without_moment = (refl, refl)

-- a moment is before the last one
moment_back : IsRefusedBy plan (Got (Time 4) ∷ Got (Time 5) ∷ begun) (EventFits ∷ [])
moment_back = (refl, refl)

-- `Running` isn't told
running_left_out : IsRefusedBy plan (Told (Start 0) ∷ []) (Beginning ∷ [])
running_left_out = (refl, refl)

-- `Running` is told only after an event
running_late : IsRefusedBy plan (Told (Bind 1 0) ∷ Told (Start 1) ∷ Told (Phase Running 0) ∷ Got (Ready 0) ∷ Told (Start 0) ∷ []) (Beginning ∷ [])
running_late = (refl, refl)

-- `Running` is told twice
running_twice : IsRefusedBy plan (Told (Phase Running 0) ∷ begun) (Beginning ∷ Phases ∷ [])
running_twice = (refl, refl)

-- a phase of bootstrapping is told
bootstrap_told : IsRefusedBy plan (Told (Phase Running 0) ∷ Told (Start 0) ∷ Told (Phase BootstrapComplete 0) ∷ Told (Phase Bootstrap 0) ∷ []) (Beginning ∷ [])
bootstrap_told = (refl, refl)

-- it is told in the last step
bootstrap_told_late : IsRefusedBy plan (ended (Told (Close 7) ∷ []) 0 (Told (Phase Bootstrap 0) ∷ signalled)) (LastStep ∷ BeginningOfAll ∷ [])
bootstrap_told_late = (refl, refl)

-- `Setup` is told
setup_told : IsRefusedBy plan (Told (Phase Setup 0) ∷ begun) (Phases ∷ [])
setup_told = (refl, refl)

-- a grace period is told where the signal has none
grace_told : IsRefusedBy plan
    (Told (Phase Terminated 0) ∷ Told (Stop 0) ∷ Told (Close 7) ∷ Told (Phase ShutdownRuntimes 0) ∷ Told (Phase ShutdownGracePeriod 0)
    ∷ Told (Phase ShutdownStarted 0) ∷ signalled) (AllPhases ∷ [])
grace_told = (refl, refl)

-- two phases have changed places
phases_swapped : IsRefusedBy plan
    (Told (Phase Terminated 0) ∷ Told (Stop 0) ∷ Told (Close 7) ∷ Told (Phase ShutdownStarted 0) ∷ Told (Phase ShutdownRuntimes 0) ∷ signalled)
    (AllPhases ∷ LastActions ∷ [])
phases_swapped = (refl, refl)

-- the shutdown begins without a signal
shutdown_unasked : IsRefusedBy plan (Told (Phase ShutdownStarted 0) ∷ bound) (Phases ∷ [])
shutdown_unasked = (refl, refl)

-- the whole end is told without a signal
end_unasked : IsRefusedBy plan (ended (Told (Close 7) ∷ []) 0 bound) (Closes ∷ Endpoints ∷ Phases ∷ NoEnd ∷ [])
end_unasked = (refl, refl)

-- nothing is told at the signal
signal_unanswered : IsRefusedBy plan signalled (AllPhases ∷ LastActions ∷ AllClosed ∷ LastStep ∷ [])
signal_unanswered = (refl, refl)

-- the end is told twice
end_twice : IsRefusedBy plan (Told (Phase Terminated 0) ∷ Told (Stop 0) ∷ Told (Phase ShutdownRuntimes 0) ∷ run) (AllPhases ∷ EndNowhereElse ∷ LastStep ∷ [])
end_twice = (refl, refl)

-- something is told after `Terminated`
more_at_the_end : IsRefusedBy plan (Told (Close 7) ∷ run) (CloseOnce ∷ LastActions ∷ AllClosed ∷ [])
more_at_the_end = (refl, refl)

-- an event comes after the end
event_after_the_end : IsRefusedBy plan (Got (Signal FastShutdown) ∷ run) (EventFits ∷ FirstToPass ∷ LastActions ∷ [])
event_after_the_end = (refl, refl)

-- an event comes in the last step
event_in_the_end : IsRefusedBy plan
    (Told (Phase Terminated 0) ∷ Told (Stop 0) ∷ Told (Close 7) ∷ Told (Phase ShutdownRuntimes 0) ∷ Told (Phase ShutdownStarted 0) ∷ Got (Signal FastShutdown)
    ∷ signalled) (EventFits ∷ FirstToPass ∷ AllPhases ∷ [])
event_in_the_end = (refl, refl)

-- a signal comes before `Running`
signal_early : IsRefusedBy plan (ended [] 0 (Got (Signal FastShutdown) ∷ Told (Start 0) ∷ [])) (EventFits ∷ Beginning ∷ LastStep ∷ BeginningOfAll ∷ [])
signal_early = (refl, refl)

-- a plain service says that it is ready
ready_of_plain : IsRefusedBy plan (Got (Ready 1) ∷ bound) (EventFits ∷ [])
ready_of_plain = (refl, refl)

-- a service says twice that it is ready
ready_twice : IsRefusedBy plan (Got (Ready 0) ∷ asked) (EventFits ∷ [])
ready_twice = (refl, refl)

-- a service says that it is ready before it is started
ready_unstarted : IsRefusedBy later (Got (Ready 1) ∷ begun) (EventFits ∷ [])
ready_unstarted = (refl, refl)

-- a service's work is done twice
ended_twice : IsRefusedBy plan (Got (Ended 0) ∷ Told (Bind 1 0) ∷ Told (Start 1) ∷ Got (Ended 0) ∷ begun) (EventFits ∷ [])
ended_twice = (refl, refl)

-- the work of a service with an endpoint is done
ended_of_listening : IsRefusedBy plan (Got (Ended 1) ∷ bound) (EventFits ∷ [])
ended_of_listening = (refl, refl)

-- that of a service that isn't started
ended_unstarted : IsRefusedBy later (Got (Ended 1) ∷ begun) (EventFits ∷ [])
ended_unstarted = (refl, refl)

-- a service isn't started though the work of what it waits for is done
start_after_ended_left_out : IsRefusedBy plan (Got (Ended 0) ∷ begun) (Starts ∷ [])
start_after_ended_left_out = (refl, refl)

-- a descriptor comes though no bind is open
bound_unasked : IsRefusedBy plan (Got (Bound 1 0 8) ∷ bound) (EventFits ∷ Closes ∷ OneLive ∷ Endpoints ∷ [])
bound_unasked = (refl, refl)

-- it comes for an endpoint whose bind isn't open
bound_of_other : IsRefusedBy plan (Got (Bound 0 0 7) ∷ asked) (EventFits ∷ [])
bound_of_other = (refl, refl)

-- without a signal a run goes on
unsignalled : step_end plan bound ≡ On
unsignalled = refl

-- `Served` alone allows a bind too many, and `Running` after an event; `Right` allows neither
abbrev one_bind_more : Record
one_bind_more = ended (Told (Close 7) ∷ []) 0 (Told (Bind 1 0) ∷ signalled)

one_bind_more-served : is_served plan one_bind_more ≡ true
one_bind_more-served = refl

one_bind_more-right : IsRefusedBy plan one_bind_more (AskInTurn ∷ [])
one_bind_more-right = (refl, refl)

abbrev runs_late : Record
runs_late = ended [] 0 (Got (Signal FastShutdown) ∷ Told (Bind 1 0) ∷ Told (Start 1) ∷ Told (Phase Running 0) ∷ Got (Ready 0) ∷ Told (Start 0) ∷ [])

runs_late-served : is_served plan runs_late ≡ true
runs_late-served = refl

runs_late-right : IsRefusedBy plan runs_late (Beginning ∷ [])
runs_late-right = (refl, refl)

-- a busy port is tried again at once
retry_at_once : IsRefusedBy shared_plan (Told (Bind 0 0) ∷ refused) (AskInTurn ∷ [])
retry_at_once = (refl, refl)

-- before its rest of 1,000 ms is over
retry_early : IsRefusedBy shared_plan (Told (Bind 0 0) ∷ Got (Time 999) ∷ refused) (AskInTurn ∷ [])
retry_early = (refl, refl)

-- after its rest it isn't tried again
retry_left_out : IsRefusedBy shared_plan (Got (Time 1000) ∷ refused) (Endpoints ∷ EndpointsLate ∷ [])
retry_left_out = (refl, refl)

-- an address is bound for one service while the endpoint of another rests
bind_beside_rest : IsRefusedBy shared_plan (Told (Bind 1 0) ∷ refused) (AskInTurn ∷ [])
bind_beside_rest = (refl, refl)

-- an address is bound for which a descriptor is held
bind_beside_held : IsRefusedBy shared_plan (Told (Bind 1 0) ∷ Got (Bound 0 0 5) ∷ retried) (AskInTurn ∷ [])
bind_beside_held = (refl, refl)

-- a held descriptor isn't offered
offer_left_out : IsRefusedBy shared_plan (Got (Bound 0 0 5) ∷ retried) (Endpoints ∷ EndpointsLate ∷ [])
offer_left_out = (refl, refl)

-- a number is offered that no live descriptor has
offer_of_none : IsRefusedBy shared_plan (Told (Adopt 1 0 6) ∷ Got (Bound 0 0 5) ∷ retried) (AskInTurn ∷ [])
offer_of_none = (refl, refl)

-- a descriptor is offered twice
offer_twice : IsRefusedBy shared_plan (Told (Adopt 1 0 5) ∷ offered) (AskInTurn ∷ [])
offer_twice = (refl, refl)

-- an adoption is answered that isn't open
adopted_unasked : IsRefusedBy shared_plan (Got (Adopted 0 0) ∷ offered) (EventFits ∷ [])
adopted_unasked = (refl, refl)

-- a service that failed isn't given up
fail_left_out : IsRefusedBy failing_plan (Told (Close 7) ∷ Got (BindFailed 0 1) ∷ half_held) (GivenUp ∷ [])
fail_left_out = (refl, refl)

-- it is given up twice
fail_twice : IsRefusedBy failing_plan (Told (Fail 0) ∷ given_up) (GivenUp ∷ [])
fail_twice = (refl, refl)

-- a service is given up that hasn't failed
fail_of_working : IsRefusedBy failing_plan (Told (Fail 0) ∷ half_held) (GivenUp ∷ [])
fail_of_working = (refl, refl)

-- a number that is no service is given up
fail_of_none : IsRefusedBy failing_plan (Told (Fail 1) ∷ half_held) (AskKnown ∷ [])
fail_of_none = (refl, refl)

-- what a failed service alone named is left open
abandoned_left_open : IsRefusedBy failing_plan (Told (Fail 0) ∷ Got (BindFailed 0 1) ∷ half_held) (Closes ∷ [])
abandoned_left_open = (refl, refl)

-- an endpoint of a failed service is bound
bind_of_failed : IsRefusedBy failing_plan (Told (Bind 0 1) ∷ given_up) (AskInTurn ∷ [])
bind_of_failed = (refl, refl)

-- the second endpoint is bound before the first is held
bind_out_of_turn : IsRefusedBy failing_plan (Told (Bind 0 1) ∷ Told (Phase Running 0) ∷ Told (Bind 0 0) ∷ Told (Start 0) ∷ []) (AskInTurn ∷ [])
bind_out_of_turn = (refl, refl)

-- a Unix endpoint is tried a second time
unix_twice : IsRefusedBy unix_plan (Told (Bind 0 0) ∷ Got (Time 1000) ∷ Told (Bind 1 0) ∷ Told (Fail 0) ∷ Got (InUse 0 0) ∷ both_asked_for_one) (AskInTurn ∷ [])
unix_twice = (refl, refl)
