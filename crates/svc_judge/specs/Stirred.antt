-- What of services is looked at anew after words of services, their starts, binds and addresses in use alone.
use Rattle.std.specs.Prelude.{ℕ, Bool, true, false, ◌==◌, not, ◌&&◌, ◌||◌, [], ◌∷◌, Option, None}
use Rattle.std.specs.List.{list_any, list_all}
use Rattle.svc_graph.specs.declared.plan.Kind.TheVariants.{Bootstrap}
use Rattle.svc_record.specs.declared.plan.Plan.{Plan}
use Rattle.svc_record.specs.declared.entry.Entry.{Entry}
use Rattle.svc_record.specs.declared.entry.Entry.TheVariants.{Got, Told}
use Rattle.svc_record.specs.declared.event.Event.TheVariants.{Ready, Ended, InUse}
use Rattle.svc_record.specs.declared.action.Action.TheVariants.{Start, Bind}
use Rattle.svc_record.specs.Record.{Record, has, from_the_start}
use Rattle.svc_record.specs.Plans.{services, endpoint_numbers, depends, has_kind}
use Rattle.svc_record.specs.Starts.{is_start, start_right}
use Rattle.svc_record.specs.Endpoints.{is_at_work, is_busy, endpoint_right, endpoint_right_late}
use Rattle.svc_record.specs.Boot.{runs}
use Rattle.svc_record.specs.Closes.{is_broadcast}
use Rattle.svc_record.specs.Right.{in_service}
use Rattle.svc_judge.specs.declared.judging.Rule.{Rule}
use Rattle.svc_judge.specs.declared.judging.Rule.TheVariants as rules
use Rattle.svc_judge.specs.Verdicts.{unless}

-- the run runs, and nothing was broadcast
abbrev pub is_in_run : Plan → Record → Bool
is_in_run p q = (runs p q && from_the_start q) && not (has is_broadcast q)

-- the service is at work, and the endpoint busy
abbrev pub stays_busy : Plan → Record → ℕ → ℕ → Bool
stays_busy p q s i = is_at_work p q s && is_busy p q s i

-- the entry is a word of a service, an address in use of an endpoint that rests, a bind, or a start of a service that doesn't bootstrap
abbrev pub is_stir : Plan → Entry → Record → Bool
is_stir p (Got (Ready s)) before = true
is_stir p (Got (Ended s)) before = true
is_stir p (Got (InUse s i)) before = stays_busy p (Got (InUse s i) ∷ before) s i
is_stir p (Told (Start s)) before = not (has_kind p Bootstrap s)
is_stir p (Told (Bind s i)) before = true
is_stir p _ before = false

-- there is an event, and so are the last one and what was told since
abbrev pub are_stirs : Plan → Record → Bool
are_stirs p [] = false
are_stirs p (Got e ∷ before) = is_stir p (Got e) before
are_stirs p (Told a ∷ before) = is_stir p (Told a) before && are_stirs p before

-- the same, in a run that runs
abbrev pub only_stirs : Plan → Record → Bool
only_stirs p q = are_stirs p q && is_in_run p q

-- the service depends on this one
abbrev pub needs : Plan → ℕ → ℕ → Bool
needs p s t = list_any (λ d. t == d) (depends p s)

-- by the entry the start of the service may be due, or is told
abbrev pub stirs_start : Plan → ℕ → Entry → Bool
stirs_start p s (Got (Ready t)) = needs p s t
stirs_start p s (Got (Ended t)) = needs p s t
stirs_start p s (Told (Start t)) = t == s || needs p s t
stirs_start p s _ = false

-- the last event, or what was told since, passes the test
abbrev pub has_new : (Entry → Bool) → Record → Bool
has_new test [] = false
has_new test (Got e ∷ before) = test (Got e)
has_new test (Told a ∷ before) = test (Told a) || has_new test before

-- the service is started exactly where it is due, if that may have changed
abbrev pub is_start_kept : Plan → Record → ℕ → Bool
is_start_kept p q s = not (has_new (stirs_start p s) q) || start_right p q s

-- its endpoints are held or wait, if it was started
abbrev pub are_ends_kept : Plan → Record → ℕ → Bool
are_ends_kept p q s = not (has_new (is_start s) q) || list_all (endpoint_right p q s) (endpoint_numbers p s)

-- the same as after the signal
abbrev pub are_ends_kept_late : Plan → Record → ℕ → Bool
are_ends_kept_late p q s = not (has_new (is_start s) q) || list_all (endpoint_right_late p q s) (endpoint_numbers p s)

-- so is each service
abbrev pub starts_stirred : Plan → Record → Bool
starts_stirred p q = list_all (is_start_kept p q) (services p)

-- so are those of each service: as they have to be before the signal, and as after it
abbrev pub ends_stirred : Plan → Record → Bool
ends_stirred p q = list_all (are_ends_kept_late p q) (services p) && (list_all (are_ends_kept p q) (services p) || not (in_service q))

-- the first rule that a settled prefix breaks after such entries alone
abbrev pub stirred_breach : Plan → Record → Option Rule
stirred_breach p q = unless (starts_stirred p q) rules.Starts (unless (ends_stirred p q) rules.Endpoints None)
