-- The services and events of the generator.
use Rattle.std.specs.Prelude.{ℕ, Bool, true, false, ◌+◌, ◌-◌, ◌*◌, ◌%◌, ◌==◌, List, [], ◌∷◌, ◌++◌, map, codes, Option, Some, None, if◌then◌else◌}
use Rattle.std.specs.List.{range_with_len, flat_map}
use Rattle.std.specs.Fmt.{decimal}
use Rattle.svc_conf.specs.declared.server.configuration.Opt.{Opt}
use Rattle.svc_conf.specs.Configuration.{defaults}
use Rattle.svc_graph.specs.declared.plan.Kind.{Kind}
use Rattle.svc_graph.specs.declared.plan.Kind.TheVariants.{Plain, Notifying}
use Rattle.svc_socket.specs.declared.peer.Peer.TheVariants.{Unknown}
use Rattle.svc_record.specs.declared.event.ShutdownSignal.TheVariants.{FastShutdown}
use Rattle.svc_record.specs.declared.event.Event.{Event}
use Rattle.svc_record.specs.declared.event.Event.TheVariants as events
use Rattle.svc_record.specs.declared.item.Item.TheVariants as items
use Rattle.svc_record.specs.declared.plan.Plan.{Plan}
use Rattle.svc_text.specs.declared.service.EndpointLine.{EndpointLine}
use Rattle.svc_text.specs.declared.service.ServiceLine.{ServiceLine}
use Rattle.svc_text.specs.Script.{Parts}
use Rattle.svc_text.specs.ScriptPlans.{plan_of}

-- the number is even
abbrev pub is_even : ℕ → Bool
is_even k = (k % 2) == 0

-- services with even numbers are ready as soon as they are started; the others say so
abbrev pub made_kind : ℕ → Kind
made_kind k = if is_even k then Plain else Notifying

-- each service but the first depends on the one before it
abbrev pub made_after : ℕ → Option (List ℕ)
made_after k = if k == 0 then None else Some ((k - 1) ∷ [])

-- the port of service k
abbrev pub made_port : ℕ → ℕ
made_port k = 10000 + k

-- its endpoint
abbrev pub made_endpoint : ℕ → EndpointLine
made_endpoint k = record { address = codes "127.0.0.1:" ++ decimal (made_port k); unix = false; options = [] }

-- service k
abbrev pub made_service : ℕ → ServiceLine
made_service k = record {
  name = codes "s" ++ decimal k;
  kind = made_kind k;
  after = made_after k;
  undeclared = false;
  claims = [];
  blocked = [];
  endpoints = made_endpoint k ∷ [];
}

-- the first n services
abbrev pub made_services : ℕ → List ServiceLine
made_services n = map made_service (range_with_len 0 n)

-- the moment at which service k goes on
abbrev pub made_moment : ℕ → ℕ
made_moment k = 1000 * (k + 1)

-- a connection of service k that goes well
abbrev pub made_connection : ℕ → ℕ → List Event
made_connection k c = events.Arrived k 0 c Unknown ∷ events.Set c true ∷ events.Shaken c true ∷ events.Finished c ∷ []

-- service k is ready, where it says so; else the moment is told once more
abbrev pub made_word : ℕ → Event
made_word k = if is_even k then events.Moment (made_moment k) else events.Ready k

-- the events before the connections of service k: its address is in use at first
abbrev pub made_start : ℕ → List Event
made_start k = events.InUse k 0 ∷ events.Moment (made_moment k) ∷ events.Bound k 0 (k + 1) ∷ made_word k ∷ []

-- four connections of service k, numbered from c on
abbrev pub made_connections : ℕ → ℕ → List Event
made_connections k c = made_connection k c ++ (made_connection k (c + 1) ++ (made_connection k (c + 2) ++ made_connection k (c + 3)))

-- the events of service k
abbrev pub made_events_of : ℕ → List Event
made_events_of k = made_start k ++ made_connections k (4 * k + 1)

-- the events of the first n services
abbrev pub made_events_to : ℕ → List Event
made_events_to n = flat_map made_events_of (range_with_len 0 n)

-- the events of a run of n services: at the end a fast shutdown
abbrev pub made_events : ℕ → List Event
made_events n = made_events_to n ++ events.Signal FastShutdown ∷ []

-- a script with these services and events, and the default configuration
abbrev pub made_parts : ℕ → Parts
made_parts n = record { conf = defaults; services = made_services n; eager = false; items = map items.Event (made_events n) }

-- no flags
abbrev pub no_flags : Opt
no_flags = record { upgrade = false; daemon = false; nocapture = false; test = false; conf = None }

-- the plan by which the server of n services is run
abbrev pub made_plan : ℕ → Plan
made_plan n = plan_of no_flags (made_parts n)
