-- When services start.
use Rattle.std.specs.Prelude.{ℕ, zero, suc, Bool, true, false, ◌==◌, ◌≡◌, ◌<◌, ◌++◌, not, ◌&&◌, ◌||◌, List, [], ◌∷◌, nat_lt, if◌then◌else◌}
use Rattle.std.specs.List.{list_any, list_all}
use Rattle.svc_record.specs.declared.plan.Plan.{Plan}
use Rattle.svc_graph.specs.declared.plan.Kind.TheVariants.{Plain, Bootstrap}
use Rattle.svc_record.specs.declared.entry.Entry.{Entry}
use Rattle.svc_record.specs.declared.entry.Entry.TheVariants.{Got, Told}
use Rattle.svc_record.specs.declared.event.Event.TheVariants.{Ready, Ended}
use Rattle.svc_record.specs.declared.action.Action.TheVariants.{Start}
use Rattle.svc_record.specs.Record.{Record, has, times, is_bootstrap_complete, EachEntry}
use Rattle.svc_record.specs.Plans.{service_count, services, depends, has_kind}
use Rattle.svc_record.specs.Failed.{has_failed}

-- the entry tells `Start` with this number
abbrev pub is_start : ℕ → Entry → Bool
is_start s (Told (Start t)) = t == s
is_start s _ = false

-- the event is `Ready` with this number
abbrev pub is_ready_event : ℕ → Entry → Bool
is_ready_event s (Got (Ready t)) = t == s
is_ready_event s _ = false

-- the event is `Ended` with this number
abbrev pub is_ended_event : ℕ → Entry → Bool
is_ended_event s (Got (Ended t)) = t == s
is_ended_event s _ = false

-- the service was started
abbrev pub is_started : Record → ℕ → Bool
is_started q s = has (is_start s) q

-- the service's word came, or its work is done, or it has failed, or it is started and plain, or it is started, bootstraps, and bootstrapping is complete
abbrev pub is_ready : Plan → Record → ℕ → Bool
is_ready p q s = ((has (is_ready_event s) q || has (is_ended_event s) q) || has_failed p q s)
    || (is_started q s && (has_kind p Plain s || (has_kind p Bootstrap s && has is_bootstrap_complete q)))

-- every dependency of the service is ready
abbrev pub is_due : Plan → Record → ℕ → Bool
is_due p q s = list_all (is_ready p q) (depends p s)

-- a service starts once, and after its dependencies are ready
abbrev pub start_due : Plan → Entry → Record → Bool
start_due p (Told (Start s)) before = not (is_started before s) && is_due p before s
start_due p _ before = true

-- the service is started once where it is due, and not at all elsewhere
abbrev pub start_right : Plan → Record → ℕ → Bool
start_right p q s = times (is_start s) q == (if is_due p q s then 1 else 0)

-- each service is started exactly where it is due: as a test
abbrev pub starts_right : Plan → Record → Bool
starts_right p q = list_all (start_right p q) (services p)

-- for each service: it is started once where it is due, and not at all elsewhere; and each start was due as it was told
pub record StartsRight (p : Plan) (q : Record) : Type 0 where
  pub each : (s : ℕ) → s < service_count p → times (is_start s) q ≡ (if is_due p q s then 1 else 0)
  pub in_turn : EachEntry (λ e before. start_due p e before ≡ true) q

-- stronger: a start is of a service of the plan
abbrev pub start_known : Plan → Entry → Record → Bool
start_known p (Told (Start s)) before = nat_lt s (service_count p)
start_known p _ before = true

-- the service isn't among those listed, and all that it depends on are
abbrev pub comes_next : Plan → List ℕ → ℕ → Bool
comes_next p listed s = not (list_any (λ n. n == s) listed) && list_all (λ d. list_any (λ n. n == d) listed) (depends p s)

-- the first number that passes the test, as a list of at most one
abbrev pub first_number : (ℕ → Bool) → List ℕ → List ℕ
first_number test [] = []
first_number test (n ∷ more) = if test n then n ∷ [] else first_number test more

-- the first n services in startup order
abbrev pub first_services : Plan → ℕ → List ℕ
first_services p zero = []
first_services p (suc n) = with_next (first_services p n)
  where
    with_next : List ℕ → List ℕ
    with_next listed = listed ++ first_number (comes_next p listed) (services p)

-- the services in startup order: each time the least one that isn't listed yet, and whose dependencies are
abbrev pub startup_order : Plan → List ℕ
startup_order p = first_services p (service_count p)
