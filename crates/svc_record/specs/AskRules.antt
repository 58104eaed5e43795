-- When an endpoint is asked for, and when a service is given up.
use Rattle.std.specs.Prelude.{ℕ, Bool, true, ◌==◌, ◌≡◌, ◌<◌, not, ◌&&◌, nat_lt, if◌then◌else◌}
use Rattle.std.specs.List.{list_any, list_all, range_with_len}
use Rattle.svc_record.specs.declared.plan.Plan.{Plan}
use Rattle.svc_record.specs.declared.entry.Entry.{Entry}
use Rattle.svc_record.specs.declared.entry.Entry.TheVariants.{Told}
use Rattle.svc_record.specs.declared.action.Action.TheVariants.{Fail, Bind, Adopt}
use Rattle.svc_record.specs.Record.{Record, times, EachEntry, EachSettled}
use Rattle.svc_record.specs.Plans.{service_count, services, is_endpoint, address, any_with}
use Rattle.svc_record.specs.Descriptors.{live_numbers_with, has_live}
use Rattle.svc_record.specs.Asks.{is_ask_open}
use Rattle.svc_record.specs.Failed.{has_failed, is_fail}
use Rattle.svc_record.specs.Endpoints.{is_held, is_busy, is_at_work}

-- it is the endpoint's turn: its service is at work, the earlier endpoints are held, it isn't, and no ask of it is open
abbrev pub has_turn : Plan → Record → ℕ → ℕ → Bool
has_turn p q s i =
    ((is_endpoint p s i && is_at_work p q s) && list_all (is_held p q s) (range_with_len 0 i)) && (not (is_held p q s i) && not (is_ask_open q s i))

-- an endpoint is bound in its turn, where no live descriptor has its address and no endpoint with it is busy; and it is offered a live descriptor of
-- its address in its turn
abbrev pub ask_due : Plan → Entry → Record → Bool
ask_due p (Told (Bind s i)) before = (has_turn p before s i && not (has_live p before (address p s i))) && not (any_with p (address p s i) (is_busy p before))
ask_due p (Told (Adopt s i fd)) before = has_turn p before s i && list_any (λ n. n == fd) (live_numbers_with p before (address p s i))
ask_due p _ before = true

-- each service that has failed was given up once, and no other: as a test
abbrev pub fails_right : Plan → Record → Bool
fails_right p q = list_all (λ s. times (is_fail s) q == (if has_failed p q s then 1 else 0)) (services p)

-- for each service: it was given up once if it has failed, else not at all
abbrev pub FailsRight : Plan → Record → Type 0
FailsRight p q = (s : ℕ) → s < service_count p → times (is_fail s) q ≡ (if has_failed p q s then 1 else 0)

-- each ask was due as it was told, and in each settled prefix exactly what has failed was given up
pub record AsksRight (p : Plan) (r : Record) : Type 0 where
  pub in_turn : EachEntry (λ e before. ask_due p e before ≡ true) r
  pub fails : EachSettled (FailsRight p) r

-- stronger: what is given up is a service of the plan, and what is bound or offered a descriptor an endpoint of it
abbrev pub ask_known : Plan → Entry → Record → Bool
ask_known p (Told (Fail s)) before = nat_lt s (service_count p)
ask_known p (Told (Bind s i)) before = is_endpoint p s i
ask_known p (Told (Adopt s i fd)) before = is_endpoint p s i
ask_known p _ before = true
