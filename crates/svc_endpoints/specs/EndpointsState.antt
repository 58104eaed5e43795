-- The records that the states of endpoints stand for.
use Rattle.std.specs.Prelude.{ℕ, Bool, true, false, ◌==◌, ◌≡◌, ◌<◌, ◌≤◌, ◌-◌, not, ◌&&◌, ◌||◌, List, [], ◌∷◌, Option, length, map, slice_index_or, nat_lt, if◌then◌else◌}
use Rattle.svc_record.specs.declared.plan.Plan.{Plan}
use Rattle.svc_record.specs.Plans.{service_count, endpoints, address, same_address}
use Rattle.svc_record.specs.Record.{Record, has, EachEntry}
use Rattle.svc_record.specs.Descriptors.{live_numbers_with, is_close, one_live}
use Rattle.svc_record.specs.Asks.{is_bind_open, is_adopt_open, last_adopt}
use Rattle.svc_record.specs.AskRules.{FailsRight, ask_due, ask_known}
use Rattle.svc_record.specs.Closes.{ClosesRight, close_once, is_broadcast, is_loop_end, ended_loops}
use Rattle.svc_record.specs.Offer.{is_held_back}
use Rattle.svc_record.specs.Drain.{live_numbers}
use Rattle.svc_base.specs.NumberSets.{ascending, is_in, distinct}
use Rattle.svc_record.specs.Endpoints.{held_numbers, in_use_within}
use Rattle.svc_record.specs.Failed.{has_failed, in_use_count}
use Rattle.svc_record.specs.Fits.{is_new}
use Rattle.svc_record.specs.Starts.{is_started}
use Rattle.svc_record.specs.Tail.{numbers_in}
use Rattle.svc_endpoints.specs.declared.states.EndpointStatus.{EndpointStatus}
use Rattle.svc_endpoints.specs.declared.states.EndpointStatus.TheVariants.{Idle, Binding, AddressInUse, Adopting, Holding, AdoptionFailed}
use Rattle.svc_endpoints.specs.declared.states.EndpointState.{EndpointState}
use Rattle.svc_endpoints.specs.declared.table.Open.{Open}
use Rattle.svc_endpoints.specs.EndpointsData.{EndpointsData}
use Rattle.svc_endpoints.specs.Loops.{has_loop, loop_count}
use Rattle.svc_endpoints.specs.Sums.{AreShared}

-- a bind of it is open
abbrev pub is_binding : EndpointStatus → Bool
is_binding Binding = true
is_binding _ = false

-- a descriptor is offered to it
abbrev pub is_adopting : EndpointStatus → Bool
is_adopting (Adopting fd) = true
is_adopting _ = false

-- an ask of it is open
abbrev pub is_asking : EndpointStatus → Bool
is_asking x = is_binding x || is_adopting x

-- it is held
abbrev pub is_holding : EndpointStatus → Bool
is_holding (Holding fd) = true
is_holding _ = false

-- it has a descriptor, or is offered one
abbrev pub has_fd : EndpointStatus → Bool
has_fd x = is_adopting x || is_holding x

-- its adoption failed
abbrev pub is_adoption_failed : EndpointStatus → Bool
is_adoption_failed AdoptionFailed = true
is_adoption_failed _ = false

-- the descriptor that it has or is offered
abbrev pub fd_of : EndpointStatus → List ℕ
fd_of (Adopting fd) = fd ∷ []
fd_of (Holding fd) = fd ∷ []
fd_of _ = []

-- the descriptor that holds it
abbrev pub held_of : EndpointStatus → List ℕ
held_of (Holding fd) = fd ∷ []
held_of _ = []

-- the state says whether it rests
abbrev pub tells_rest : EndpointStatus → Bool
tells_rest Idle = true
tells_rest Binding = true
tells_rest (AddressInUse at) = true
tells_rest _ = false

-- in use under 1,000 ms before the moment t
abbrev pub rests_in : EndpointStatus → ℕ → Bool
rests_in (AddressInUse at) t = nat_lt (t - at) 1000
rests_in _ t = false

-- it was asked for, so its service is started
abbrev pub is_touched : EndpointStatus → Bool
is_touched Idle = false
is_touched _ = true

-- an endpoint that nothing is known of
abbrev pub idle : EndpointState
idle = record { last = Idle; times_in_use = 0 }

-- the state of endpoint i of s
abbrev pub state_at : EndpointsData → ℕ → ℕ → EndpointState
state_at d s i = slice_index_or (slice_index_or d.rows s []) i idle

-- what became of it last
abbrev pub last_at : EndpointsData → ℕ → ℕ → EndpointStatus
last_at d s i = (state_at d s i).last

-- how often its address was in use while no live descriptor had it
abbrev pub times_in_use_at : EndpointsData → ℕ → ℕ → ℕ
times_in_use_at d s i = (state_at d s i).times_in_use

-- the service has failed
abbrev pub failed_at : EndpointsData → ℕ → Bool
failed_at d s = slice_index_or d.failed s false

-- the numbers of the table
abbrev pub numbers_of_table : List Open → List ℕ
numbers_of_table table = map (λ (o : Open). o.fd) table

-- the numbers of the live descriptors
abbrev pub open_numbers : EndpointsData → List ℕ
open_numbers d = numbers_of_table d.table

-- the numbers of the table's descriptors with this address
abbrev pub numbers_with : List Open → Option (List ℕ) → List ℕ
numbers_with [] a = []
numbers_with (o ∷ more) a = if same_address o.address a then o.fd ∷ numbers_with more a else numbers_with more a

-- none of the numbers came, and no two of them are equal
abbrev pub all_new : List ℕ → List ℕ → Bool
all_new came [] = true
all_new came (fd ∷ fds) = (not (is_in fd came) && not (is_in fd fds)) && all_new came fds

-- one flag and one row for each service, and in the row a state for each of its endpoints, which are few; the sum of each address that several of them
-- have; and as many loops of an endpoint as the plan says
pub record IsEndpointsSized (p : Plan) (d : EndpointsData) : Type 0 where
  pub services : length d.rows ≡ service_count p
  pub failed : length d.failed ≡ service_count p
  pub each : (s : ℕ) → s < service_count p → length (slice_index_or d.rows s []) ≡ length (endpoints p s)
  pub few : (s : ℕ) → s < service_count p → length (endpoints p s) ≤ 64
  pub shared : AreShared p d.shared
  pub tasks : d.tasks ≡ p.tasks

-- what the states keep among themselves: an ask is of a service that hasn't failed, whose earlier endpoints are held; while no loop ended, what is
-- held or offered is the one live descriptor of its address; no address has two, and no descriptor two addresses
pub record StatesKept (p : Plan) (d : EndpointsData) : Type 0 where
  pub asking_free : (s i : ℕ) → is_asking (last_at d s i) ≡ true → failed_at d s ≡ false
  pub turn : (s i k : ℕ) → is_asking (last_at d s i) ≡ true → k < i → is_holding (last_at d s k) ≡ true
  pub live : d.loops ≡ [] → (s i : ℕ) → failed_at d s ≡ false → has_fd (last_at d s i) ≡ true → numbers_with d.table (address p s i) ≡ fd_of (last_at d s i)
  pub one : (a : Option (List ℕ)) → length (numbers_with d.table a) ≤ 1
  pub distinct : (a b : Option (List ℕ)) (fd : ℕ) → is_in fd (numbers_with d.table a) ≡ true → is_in fd (numbers_with d.table b) ≡ true → a ≡ b

-- one endpoint's state, against what the record says of it
pub record OneStands (x : EndpointStatus) (binding adopting : Bool) (held adopts : List ℕ) (within : ℕ → Bool) (on : Bool) : Type 0 where
  pub binding_is : is_binding x ≡ binding
  pub adopting_is : is_adopting x ≡ adopting
  pub held_is : held_of x ≡ held
  pub adopts_is : is_adopting x ≡ true → fd_of x ≡ adopts
  pub within_is : tells_rest x ≡ true → (t : ℕ) → rests_in x t ≡ within t
  pub on_is : is_touched x ≡ true → on ≡ true

-- the same for endpoint i of s
abbrev pub StandsAt : Plan → EndpointStatus → Record → ℕ → ℕ → Type 0
StandsAt p x q s i =
    OneStands x (is_bind_open q s i) (is_adopt_open q s i) (held_numbers p q s i) (last_adopt q s i) (λ t. in_use_within t q s i) (is_started q s)

-- the states, the counts, the failed services and the table say what the record says
pub record StatesStand (p : Plan) (d : EndpointsData) (q : Record) : Type 0 where
  pub each : (s i : ℕ) → s < service_count p → i < length (endpoints p s) → StandsAt p (last_at d s i) q s i
  pub counts : (s i : ℕ) → s < service_count p → i < length (endpoints p s) → failed_at d s ≡ false → times_in_use_at d s i ≡ in_use_count p q s i
  pub failed_is : (s : ℕ) → s < service_count p → failed_at d s ≡ has_failed p q s
  pub with_is : (a : Option (List ℕ)) → numbers_with d.table a ≡ live_numbers_with p q a
  pub lost : (s i : ℕ) → is_adoption_failed (last_at d s i) ≡ true → failed_at d s ≡ true
  pub closed_came : (fd : ℕ) → is_new q fd ≡ true → has (is_close fd) q ≡ false

-- each loop of the endpoint has ended
abbrev pub is_done : Plan → EndpointsData → ℕ → ℕ → Bool
is_done p d s i = loop_count d.loops s i == p.tasks

-- the endpoint is one of a service that hasn't failed, and whose endpoints are all held
pub record ServesIn (p : Plan) (d : EndpointsData) (s i : ℕ) : Type 0 where
  pub inside : s < service_count p
  pub within : i < length (endpoints p s)
  pub free : failed_at d s ≡ false
  pub held : (k : ℕ) → k < length (endpoints p s) → is_holding (last_at d s k) ≡ true

-- the loops that ended are those of which the record says it, and count alike; they ended after the broadcast, each of a service that serves
pub record LoopsStand (p : Plan) (d : EndpointsData) (q : Record) : Type 0 where
  pub some_tasks : 0 < p.tasks
  pub ends_are : (s i j : ℕ) → has_loop d.loops s i j ≡ has (is_loop_end s i j) q
  pub counts : (s i : ℕ) → loop_count d.loops s i ≡ ended_loops p q s i
  pub told : (s i j : ℕ) → has_loop d.loops s i j ≡ true → has is_broadcast q ≡ true
  pub serve : (s i j : ℕ) → has_loop d.loops s i j ≡ true → ServesIn p d s i

-- these are the numbers of the descriptors on offer to a successor
abbrev pub AreOnOffer : Plan → List ℕ → Record → Type 0
AreOnOffer p kept q = (fd : ℕ) → is_in fd kept ≡ is_held_back p q fd

-- while the run goes on: the parts say what the record says; each ask was due and of an endpoint of the plan, and each close of a descriptor that was
-- open; exactly what has failed is given up, and exactly what is gone is closed; no address has two live descriptors, and no number came twice
pub record EndpointsStand (p : Plan) (d : EndpointsData) (q : Record) : Type 0 where
  pub states : StatesStand p d q
  pub loops : LoopsStand p d q
  pub kept : StatesKept p d
  pub asks_due : EachEntry (λ e before. ask_due p e before ≡ true) q
  pub asks_known : EachEntry (λ e before. ask_known p e before ≡ true) q
  pub closes_once : EachEntry (λ e before. close_once p e before ≡ true) q
  pub fails : FailsRight p q
  pub closes : ClosesRight p q
  pub one_live : one_live p q ≡ true
  pub open_are : open_numbers d ≡ ascending (live_numbers p q)
  pub came_are : d.came ≡ ascending (numbers_in q)
  pub came_apart : distinct (numbers_in q) ≡ true
