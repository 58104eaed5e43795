-- There is room for the closes of all.
use Rattle.std.proofs.Common.{ℕ, ◌≡◌, ◌≤◌, ◌+◌, Bool, true, false, [], length, arith, if◌then◌else◌}
use Rattle.std.specs.Prelude.{Option, Some, None, IfSome, SomeIff}
use Rattle.std.proofs.lemmas.List.{length-map}
use Rattle.svc_record.specs.declared.event.Event.{Event}
use Rattle.svc_endpoints.specs.EndpointsState.{open_numbers}
use Rattle.svc_endpoints.specs.declared.table.Open.{Open}
use Rattle.svc_core.specs.CoreData.{CoreData, is_served}
use Rattle.svc_core.specs.Rooms.{close_need, open_count, step_room}
use Rattle.svc_c.specs.Sessions.{brought_by}

-- what is open needs less than a step
open-fits : (core : CoreData) → open_count core + 1 ≤ step_room core
open-fits core = by (is_served core.end)
  where
    by : (over : Bool) → length (if over then [] else open_numbers core.endpoints) + length (if over then [] else core.connections.live) + 1 ≤ step_room core
    by true = omega arith
    by false = let same = length-map core.endpoints.table (λ (o : Open). o.fd) in omega (arith, same)

-- so the closes and the event fit
pub close-fits : (core : CoreData) (also : Option Event) (most more : ℕ) (P : Type 0) (o : Option ℕ) → most ≡ step_room core → more ≡ brought_by also
    → SomeIff o P (most + more) → IfSome o (λ room. close_need core also + 1 ≤ room)
close-fits core also most more P None e f sum = tt
close-fits core None most more P (Some room) e f sum = let fits = open-fits core in omega (arith, e, f, sum.1, fits)
close-fits core (Some event) most more P (Some room) e f sum = let fits = open-fits core in omega (arith, e, f, sum.1, fits)
