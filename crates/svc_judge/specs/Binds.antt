-- Where a bind that ended well, and the one of the service's next endpoint, leave all else that is asked of a record.
use Rattle.std.specs.Prelude.{ℕ, Bool, true, false, ◌==◌, ◌+◌, not, ◌&&◌, ◌||◌, List, ◌∷◌, length, nat_lt, Option, Some, None}
use Rattle.svc_record.specs.declared.plan.Plan.{Plan}
use Rattle.svc_record.specs.declared.entry.Entry.TheVariants.{Got, Told}
use Rattle.svc_record.specs.declared.event.Event.TheVariants.{Bound}
use Rattle.svc_record.specs.declared.action.Action.TheVariants.{Bind}
use Rattle.svc_record.specs.Record.{Record, has}
use Rattle.svc_record.specs.Plans.{service_count, endpoints, address, same_address, names, each_endpoint}
use Rattle.svc_record.specs.Descriptors.{has_live}
use Rattle.svc_record.specs.Failed.{has_failed}
use Rattle.svc_record.specs.Closes.{is_broadcast}
use Rattle.svc_record.specs.Boot.{may_begin}

-- the endpoint is this one, or has another address
abbrev pub is_far : Plan → ℕ → ℕ → ℕ → ℕ → Bool
is_far p s i t k = (s == t && i == k) || not (same_address (address p s i) (address p t k))

-- no other endpoint has its address
abbrev pub is_alone : Plan → ℕ → ℕ → Bool
is_alone p s i = each_endpoint p (is_far p s i)

-- the service names the address, if there is one
abbrev pub names_it : Plan → ℕ → Option (List ℕ) → Bool
names_it p s (Some a) = names p s a
names_it p s None = true

-- the service is of the plan, and its endpoint has an address for itself
abbrev pub has_own_address : Plan → ℕ → ℕ → Bool
has_own_address p s i = (nat_lt s (service_count p) && (same_address (address p s i) (address p s i) && names_it p s (address p s i))) && is_alone p s i

-- the process may begin, nothing was broadcast, the service hasn't failed, and no live descriptor has the endpoint's address
abbrev pub is_free : Plan → Record → ℕ → ℕ → Bool
is_free p q s i = (may_begin p q && not (has is_broadcast q)) && (not (has_failed p q s) && not (has_live p q (address p s i)))

-- where its bind ends well, that leaves all else
abbrev pub binds_well : Plan → Record → ℕ → ℕ → Bool
binds_well p q s i = has_own_address p s i && is_free p q s i

-- the last entry is that the bind of the endpoint right before this one ended so
abbrev pub is_next_bound : Plan → ℕ → ℕ → Record → Bool
is_next_bound p t j (Got (Bound s i fd) ∷ before) = (s == t && i + 1 == j) && binds_well p before s i
is_next_bound p t j _ = false

-- the last event is that a bind ended so, and since then the bind of the service's next endpoint was told, if there is one
abbrev pub is_well_bound : Plan → Record → Bool
is_well_bound p (Got (Bound s i fd) ∷ before) = i + 1 == length (endpoints p s) && binds_well p before s i
is_well_bound p (Told (Bind t j) ∷ before) = is_next_bound p t j before
is_well_bound p _ = false
