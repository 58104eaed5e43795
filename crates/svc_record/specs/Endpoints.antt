-- Which endpoints are held, and which wait.
use Rattle.std.specs.Prelude.{ℕ, Bool, true, false, ◌==◌, ◌≡◌, ◌<◌, ◌-◌, ◌++◌, not, ◌&&◌, ◌||◌, List, [], ◌∷◌, Option, Some, None, length, nat_lt, nat_le, if◌then◌else◌}
use Rattle.std.specs.List.{list_any, list_all}
use Rattle.svc_record.specs.declared.plan.Plan.{Plan}
use Rattle.svc_record.specs.declared.entry.Entry.{Entry}
use Rattle.svc_record.specs.declared.entry.Entry.TheVariants.{Got, Told}
use Rattle.svc_record.specs.declared.event.Event.TheVariants.{Bound, InUse, BindFailed, Adopted}
use Rattle.svc_record.specs.declared.action.Action.TheVariants.{Bind}
use Rattle.svc_record.specs.Record.{Record, now}
use Rattle.svc_record.specs.Plans.{service_count, services, endpoints, endpoint_numbers, address, any_with}
use Rattle.svc_record.specs.Descriptors.{live_numbers_with, has_live}
use Rattle.svc_record.specs.Asks.{is_ask_open, last_adopt}
use Rattle.svc_record.specs.Failed.{has_failed}
use Rattle.svc_record.specs.Starts.{is_started}

-- the descriptors by which an entry lets the endpoint be held, seen from the whole record
abbrev pub held_numbers_of : Plan → ℕ → ℕ → Entry → Record → List ℕ
held_numbers_of p s i (Got (Bound t j fd)) before = if (t == s && j == i) && not (has_live p before (address p t j)) then fd ∷ [] else []
held_numbers_of p s i (Got (Adopted t j)) before = if t == s && j == i then last_adopt before s i else []
held_numbers_of p s i _ before = []

-- the descriptors by which the endpoint is held: bound and not doubled, or adopted
abbrev pub held_numbers : Plan → Record → ℕ → ℕ → List ℕ
held_numbers p [] s i = []
held_numbers p (e ∷ before) s i = held_numbers_of p s i e before ++ held_numbers p before s i

-- some descriptor holds the endpoint
abbrev pub is_held : Plan → Record → ℕ → ℕ → Bool
is_held p q s i = nat_lt 0 (length (held_numbers p q s i))

-- this one does
abbrev pub is_held_by : Plan → Record → ℕ → ℕ → ℕ → Bool
is_held_by p q s i fd = list_any (λ n. n == fd) (held_numbers p q s i)

-- the list has one number, which is among the others
abbrev pub is_one_of : List ℕ → List ℕ → Bool
is_one_of (fd ∷ []) others = list_any (λ n. n == fd) others
is_one_of _ others = false

-- held by the one live descriptor with its address
abbrev pub holds : Plan → Record → ℕ → ℕ → Bool
holds p q s i = is_one_of (live_numbers_with p q (address p s i)) (held_numbers p q s i)

-- the service is started and hasn't failed
abbrev pub is_at_work : Plan → Record → ℕ → Bool
is_at_work p q s = is_started q s && not (has_failed p q s)

-- of the endpoint's binds and their answers the newest is `InUse`, under 1,000 ms before the moment t
abbrev pub in_use_within : ℕ → Record → ℕ → ℕ → Bool
in_use_within t [] s i = false
in_use_within t (Told (Bind a b) ∷ before) s i = if a == s && b == i then false else in_use_within t before s i
in_use_within t (Got (InUse a b) ∷ before) s i = if a == s && b == i then nat_lt (t - now before) 1000 else in_use_within t before s i
in_use_within t (Got (Bound a b fd) ∷ before) s i = if a == s && b == i then false else in_use_within t before s i
in_use_within t (Got (BindFailed a b) ∷ before) s i = if a == s && b == i then false else in_use_within t before s i
in_use_within t (e ∷ before) s i = in_use_within t before s i

-- its last bind found the address in use under 1,000 ms ago; it isn't held, its service hasn't failed, and no live descriptor has the address
abbrev pub rests : Plan → Record → ℕ → ℕ → Bool
rests p q s i = ((not (has_failed p q s) && not (is_held p q s i)) && in_use_within (now q) q s i) && not (has_live p q (address p s i))

-- an ask of the endpoint is open, or it rests
abbrev pub is_busy : Plan → Record → ℕ → ℕ → Bool
is_busy p q s i = is_ask_open q s i || rests p q s i

-- an endpoint with this address, of a service at work, is busy
abbrev pub is_busy_elsewhere : Plan → Record → Option (List ℕ) → Bool
is_busy_elsewhere p q a = any_with p a (λ t k. is_at_work p q t && is_busy p q t k)

-- what the service's first endpoint that isn't held waits for
abbrev pub waits_at : Plan → Record → ℕ → ℕ → Bool
waits_at p q s j = is_busy p q s j || (not (has_live p q (address p s j)) && is_busy_elsewhere p q (address p s j))

-- the first of the endpoints that isn't held
abbrev pub first_missing : Plan → Record → ℕ → List ℕ → Option ℕ
first_missing p q s [] = None
first_missing p q s (i ∷ more) = if is_held p q s i then first_missing p q s more else Some i

-- endpoint j, where it is one, is endpoint i or an earlier one, and waits
abbrev pub waits_from : Plan → Record → ℕ → ℕ → Option ℕ → Bool
waits_from p q s i None = false
waits_from p q s i (Some j) = nat_le j i && waits_at p q s j

-- the service's first endpoint that isn't held is this one or an earlier one, and waits
abbrev pub waits : Plan → Record → ℕ → ℕ → Bool
waits p q s i = waits_from p q s i (first_missing p q s (endpoint_numbers p s))

-- at work, and all its endpoints are held
abbrev pub serves : Plan → Record → ℕ → Bool
serves p q s = is_at_work p q s && list_all (is_held p q s) (endpoint_numbers p s)

-- the endpoint holds or waits, where its service is started and hasn't failed
abbrev pub endpoint_right : Plan → Record → ℕ → ℕ → Bool
endpoint_right p q s i = not (is_at_work p q s) || (holds p q s i || waits p q s i)

-- each endpoint of a service at work holds or waits: as a test
abbrev pub endpoints_right : Plan → Record → Bool
endpoints_right p q = list_all (λ s. list_all (endpoint_right p q s) (endpoint_numbers p s)) (services p)

-- and as a fact
abbrev pub EndpointsRight : Plan → Record → Type 0
EndpointsRight p q = (s i : ℕ) → s < service_count p → i < length (endpoints p s) → endpoint_right p q s i ≡ true

-- the same after the signal, where what is held need not be live
abbrev pub endpoint_right_late : Plan → Record → ℕ → ℕ → Bool
endpoint_right_late p q s i = not (is_at_work p q s) || (is_held p q s i || waits p q s i)

-- each is held or waits: as a test
abbrev pub endpoints_right_late : Plan → Record → Bool
endpoints_right_late p q = list_all (λ s. list_all (endpoint_right_late p q s) (endpoint_numbers p s)) (services p)

-- and as a fact
abbrev pub EndpointsRightLate : Plan → Record → Type 0
EndpointsRightLate p q = (s i : ℕ) → s < service_count p → i < length (endpoints p s) → endpoint_right_late p q s i ≡ true
