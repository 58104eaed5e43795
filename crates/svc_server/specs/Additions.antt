-- Why a service can't be added to a server.
use Rattle.std.specs.Prelude.{ℕ, Bool, true, false, ◌≡◌, ◌==◌, ◌||◌, ◌⊎◌, ◌+◌, ◌<◌, ◌≤◌, nat_lt, nat_le, List, [], ◌∷◌, ◌++◌, length, map, take, slice_get, position, Option, Some, None, unwrap_or}
use Rattle.std.specs.Option.{option_map, option_or}
use Rattle.svc_graph.specs.GraphData.{GraphData}
use Rattle.svc_graph.specs.Graphs.{node_count, with_node}
use Rattle.svc_graph.specs.HandleData.{HandleData}
use Rattle.svc_graph.specs.declared.services.ServiceWithDependents.{Ghosts}
use Rattle.svc_graph.specs.declared.plan.EndpointPlan.{EndpointPlan}
use Rattle.svc_record.specs.declared.plan.ServicePlan.{ServicePlan}
use Rattle.svc_server.specs.Servers.{answer_of}
use Rattle.svc_server.specs.declared.server.refusals.AddError.{AddError}
use Rattle.svc_server.specs.declared.server.refusals.AddError.TheVariants.{TooMany, TooManyEndpoints, BadAddressText, UnknownFilter, NoMemory}

-- the address is empty or has over 4,096 bytes
abbrev pub is_bad_address : EndpointPlan → Bool
is_bad_address e = (length e.address == 0) || nat_lt 4096 (length e.address)

-- the endpoint names a filter that isn't one of the first n
abbrev pub is_unknown_filter : ℕ → EndpointPlan → Bool
is_unknown_filter n e = unwrap_or (option_map (λ f. nat_le n f) e.filter) false

-- the cause, where the test says that it stands
abbrev pub cause_if : Bool → AddError → Option AddError
cause_if true cause = Some cause
cause_if false cause = None

-- the first of the causes that stands
abbrev pub first_cause : List (Option AddError) → Option AddError
first_cause [] = None
first_cause (cause ∷ more) = option_or cause (first_cause more)

-- the causes that lie in the endpoints, in the order in which they are looked at: too many, the first bad address, the first filter that isn't one of
-- the first n
abbrev pub endpoint_causes : ℕ → List EndpointPlan → List (Option AddError)
endpoint_causes n endpoints =
    cause_if (nat_lt 64 (length endpoints)) TooManyEndpoints ∷
    option_map BadAddressText (position is_bad_address endpoints) ∷
    option_map UnknownFilter (position (is_unknown_filter n) endpoints) ∷
    []

-- why the service can't be added to a server with this graph and so many filters: the first cause that stands
abbrev pub fault_of : GraphData → ℕ → ServicePlan → Option AddError
fault_of g filters s = first_cause (cause_if (nat_le 1024 (node_count g)) TooMany ∷ endpoint_causes filters s.endpoints)

-- the reason of a refusal: want of memory, or the cause that stands
abbrev pub IsReason : Option AddError → AddError → Type 0
IsReason fault reason = (reason ≡ NoMemory) ⊎ (fault ≡ Some reason)

-- the graph with a node of each name, in order
abbrev pub with_nodes : GraphData → List (List ℕ) → GraphData
with_nodes g [] = g
with_nodes g (name ∷ names) = with_nodes (with_node g name) names

-- the handles of services with these names, numbered from n on
abbrev pub handles_from : ℕ → List (List ℕ) → List HandleData
handles_from n [] = []
handles_from n (name ∷ names) = record { id = n; name = name } ∷ handles_from (n + 1) names

-- of the services that come, the first n are added at the end, in order, and have these handles: against each, in its turn, no cause stood
pub record AddsFirst {B : Type 0} (means : Ghosts B) (old now : GraphData) (filters : ℕ) (there services more : List B) (n : ℕ)
    (handles : List HandleData) : Type 0 where
  pub within : n ≤ length more
  pub added : services ≡ there ++ take n more
  pub nodes : now ≡ with_nodes old (map means.named (take n more))
  pub numbered : handles ≡ handles_from (node_count old) (map means.named (take n more))
  pub good : (k : ℕ) (b : B) → k < n → slice_get more k ≡ Some b
      → fault_of (with_nodes old (map means.named (take k more))) filters (answer_of means b) ≡ None

-- of the services that come, the one with this index isn't added to a server with this graph and so many filters, for this reason: want of memory, or
-- the cause that stands
abbrev pub RefusesAt : {B : Type 0} → Ghosts B → GraphData → ℕ → List B → ℕ → AddError → Type 0
RefusesAt {B} means g filters more index reason =
    (reason ≡ NoMemory) ⊎ ((b : B) × (slice_get more index ≡ Some b) × (fault_of g filters (answer_of means b) ≡ Some reason))
