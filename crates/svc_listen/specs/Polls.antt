-- The life of an application that a service has, and what the service answers.
use Rattle.std.specs.Prelude.{◌≡◌, Bool, true, false, ◌||◌, List, Option, Some, None, is_some, unwrap_or, if◌then◌else◌}
use Rattle.svc_base.specs.declared.runtime.RuntimeOpts.{RuntimeOpts}
use Rattle.svc_graph.specs.declared.services.RunPoll.{RunPoll}
use Rattle.svc_graph.specs.declared.services.RunPoll.TheVariants.{Pending, Ended}
use Rattle.svc_streams.specs.Events.{AppCall, CleanedUp, IsCalled}
use Rattle.svc_listen.specs.declared.services.listening.RuntimeOptsOverride.{RuntimeOptsOverride}

-- the first start takes the application away
abbrev pub taken_away : {A : Type 0} → Option A → Option A → Option A
taken_away (Some app) serving = Some app
taken_away None serving = serving

-- what is answered with an application that was taken away: it ends at the shutdown, and is ended from then on
abbrev pub answer_of : {A : Type 0} → Option A → Bool → RunPoll
answer_of None shutdown = Ended
answer_of (Some app) shutdown = if shutdown then Ended else Pending

-- at the shutdown it serves no more
abbrev pub left_of : {A : Type 0} → Option A → Bool → Option A
left_of None shutdown = None
left_of (Some app) shutdown = if shutdown then None else Some app

-- before the first start nothing happens
abbrev pub run_answer : {A : Type 0} → Option A → Option A → Bool → RunPoll
run_answer (Some app) serving shutdown = Pending
run_answer None serving shutdown = answer_of serving shutdown

abbrev pub run_left : {A : Type 0} → Option A → Option A → Bool → Option A
run_left (Some app) serving shutdown = serving
run_left None serving shutdown = left_of serving shutdown

-- the application that a poll of the run reaches: none before the first start
abbrev pub taken_in_run : {A : Type 0} → Option A → Option A → Option A
taken_in_run (Some app) serving = None
taken_in_run None serving = serving

-- at the shutdown the application that serves is cleaned up, by one call, and rests as the call left it; at every other poll nothing is called, and
-- what rests stays
abbrev pub CleansUp : {A : Type 0} → {S : Type 0} → (A → List (AppCall S) → Type 0) → Option A → Bool → Option A → Option A → Type 0
CleansUp {A} may (Some app) true old new = (left : A) × (new ≡ Some left) × IsCalled may app left CleanedUp
CleansUp may (Some app) false old new = new ≡ old
CleansUp may None shutdown old new = new ≡ old

-- the global options in which each given field is replaced; None where no field is given
abbrev pub overridden : Option RuntimeOptsOverride → RuntimeOpts → Option RuntimeOpts
overridden None global = None
overridden (Some with) global =
    if is_some with.metrics || is_some with.enable_alt_timer
    then Some (record { metrics = unwrap_or with.metrics global.metrics; enable_alt_timer = unwrap_or with.enable_alt_timer global.enable_alt_timer })
    else None
