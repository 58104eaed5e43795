-- How many actions a core may tell.
use Rattle.std.specs.Prelude.{ℕ, ◌+◌, ◌*◌, ◌≤◌, List, [], length, map, ◌++◌, if◌then◌else◌, ◌==◌, not, Option, Some, None, filter}
use Rattle.std.specs.List.{list_any}
use Rattle.svc_record.specs.declared.entry.Entry.TheVariants.{Got}
use Rattle.svc_record.specs.declared.event.Event.{Event}
use Rattle.svc_record.specs.Descriptors.{numbers_of}
use Rattle.svc_record.specs.Tail.{each_once}
use Rattle.svc_base.specs.Items.{list_of, spare}
use Rattle.svc_record.specs.declared.action.Action.{Action}
use Rattle.svc_record.specs.declared.action.Action.TheVariants.{Close}
use Rattle.svc_connections.specs.ConnectionsEffects.{cuts}
use Rattle.svc_endpoints.specs.EndpointsState.{open_numbers as table_numbers}
use Rattle.svc_connections.specs.declared.stage.Connection.{Connection}
use Rattle.svc_core.specs.CoreData.{CoreData, is_served}

-- the numbers of the descriptors that are open
abbrev pub open_numbers : CoreData → List ℕ
open_numbers core = if is_served core.end then [] else table_numbers core.endpoints

-- the connections that are live
abbrev pub open_connections : CoreData → List Connection
open_connections core = if is_served core.end then [] else core.connections.live

-- what cuts and closes all that is open
abbrev pub open_closes : CoreData → List Action
open_closes core = cuts (open_connections core) ++ map Close (open_numbers core)

-- how many descriptors and connections are open
abbrev pub open_count : CoreData → ℕ
open_count core = length (open_numbers core) + length (open_connections core)

-- how many are open at most
abbrev pub most_open : CoreData → ℕ
most_open core = length core.endpoints.table + length core.connections.live

-- the numbers that the event brings and that didn't come before, each once
abbrev pub left_numbers : CoreData → Event → List ℕ
left_numbers core e = each_once (filter (λ n. not (list_any (λ m. m == n) core.endpoints.came)) (numbers_of (Got e)))

-- how many actions `close_all` tells at most, with an unfinished event or without one
abbrev pub close_need : CoreData → Option Event → ℕ
close_need core None = open_count core
close_need core (Some e) = open_count core + length (numbers_of (Got e))

-- how many it tells at most in either case, for an event that brings at most 32 descriptors
abbrev pub close_room : CoreData → ℕ
close_room core = open_count core + 32

-- how many actions the next step, and `close_all` after it, tell at most
abbrev pub tell_room : CoreData → ℕ
tell_room core = 2 * length core.order + most_open core + 80

-- how many these are together with the boxes of the services that they start: at most one for each action
abbrev pub step_room : CoreData → ℕ
step_room core = 2 * tell_room core

-- a step told no more than that, less what `close_all` tells after it
abbrev pub TellsWithin : CoreData → CoreData → List Action × ℕ → List Action × ℕ → Type 0
TellsWithin old new before after = length (list_of after) + close_room new ≤ length (list_of before) + tell_room old

-- where there was that room before a step, there is room for `close_all` after it
abbrev pub KeepsRoom : CoreData → CoreData → List Action × ℕ → List Action × ℕ → Type 0
KeepsRoom old new before after = tell_room old ≤ spare before → close_room new ≤ spare after
