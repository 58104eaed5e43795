-- What closes as a service fails: of the descriptors that its endpoints have, or that have their addresses, those that nobody needs any more.
use Rattle.std.specs.Prelude.{ℕ, Bool, true, false, not, ◌&&◌, ◌≡◌, ◌<◌, ◌≤◌, ◌+◌, ◌*◌, ◌++◌, List, Option, Some, length, map, filter, slice_index_or}
use Rattle.std.specs.Option.{option_to_list}
use Rattle.svc_base.specs.Items.{list_of, spare}
use Rattle.svc_base.specs.NumberSets.{is_in}
use Rattle.svc_record.specs.declared.plan.Plan.{Plan}
use Rattle.svc_record.specs.declared.action.Action.{Action}
use Rattle.svc_record.specs.declared.action.Action.TheVariants.{Close}
use Rattle.svc_record.specs.Plans.{endpoints, address}
use Rattle.svc_endpoints.specs.declared.states.EndpointState.{EndpointState}
use Rattle.svc_endpoints.specs.declared.table.Open.{Open}
use Rattle.svc_endpoints.specs.EndpointsData.{EndpointsData}
use Rattle.svc_endpoints.specs.EndpointsState.{idle, fd_of, last_at, numbers_of_table, numbers_with, open_numbers}
use Rattle.svc_endpoints.specs.Effects.{first_of, goes}
use Rattle.svc_endpoints.specs.Sums.{claims}

-- the descriptor goes, and its number is one of these
abbrev pub goes_among : Plan → List ℕ → EndpointsData → List ℕ → Open → Bool
goes_among p keep d own o = is_in o.fd own && goes p keep d o

-- the states without those
abbrev pub left_among : Plan → List ℕ → List ℕ → EndpointsData → EndpointsData
left_among p keep own d = record d { table = filter (λ (o : Open). not (goes_among p keep d own o)) d.table }

-- their numbers
abbrev pub gone_among : Plan → List ℕ → List ℕ → EndpointsData → List ℕ
gone_among p keep own d = numbers_of_table (filter (goes_among p keep d own) d.table)

-- of the first n endpoints of s, each of which has two places among the numbers, what each has or is offered stands there, and what has its address
pub record AreListed (p : Plan) (row : List EndpointState) (table : List Open) (s n : ℕ) (numbers : List ℕ) : Type 0 where
  pub held : (k x : ℕ) → k < n → is_in x (fd_of (slice_index_or row k idle).last) ≡ true → slice_index_or numbers (2 * k + 1) 0 ≡ x
  pub named : (k x : ℕ) → k < n → first_of (numbers_with table (address p s k)) ≡ Some x → slice_index_or numbers (2 * k + 2) 0 ≡ x

-- what was offered to s is among the numbers, and what each of its endpoints has or is offered, and what has its address
pub record HasOwn (p : Plan) (row : List EndpointState) (table : List Open) (s : ℕ) (offered : Option ℕ) (numbers : List ℕ) : Type 0 where
  pub offer : (x : ℕ) → is_in x (option_to_list offered) ≡ true → is_in x numbers ≡ true
  pub held : (k x : ℕ) → k < length row → is_in x (fd_of (slice_index_or row k idle).last) ≡ true → is_in x numbers ≡ true
  pub named : (k x : ℕ) → k < length row → first_of (numbers_with table (address p s k)) ≡ Some x → is_in x numbers ≡ true

-- the same of what is live; where s declares an address that none of its endpoints has, all that is live is
pub record HasOwnLive (p : Plan) (d : EndpointsData) (s : ℕ) (offered : Option ℕ) (numbers : List ℕ) : Type 0 where
  pub claimed : (a : List ℕ) → claims p s a ≡ true → (x : ℕ) → is_in x (open_numbers d) ≡ true → is_in x numbers ≡ true
  pub offer : (x : ℕ) → is_in x (open_numbers d) ≡ true → is_in x (option_to_list offered) ≡ true → is_in x numbers ≡ true
  pub held : (k x : ℕ) → k < length (endpoints p s) → is_in x (open_numbers d) ≡ true → is_in x (fd_of (last_at d s k)) ≡ true → is_in x numbers ≡ true
  pub named : (k x : ℕ) → k < length (endpoints p s) → is_in x (open_numbers d) ≡ true → first_of (numbers_with d.table (address p s k)) ≡ Some x
      → is_in x numbers ≡ true

-- these actions are told, then the close of each descriptor that goes and is one of some numbers, among which are those of s
pub record ClosesOwn (lead : List Action) (p : Plan) (keep : List ℕ) (s : ℕ) (offered : Option ℕ) (d next : EndpointsData) (before after : List Action × ℕ)
    : Type 0 where
  pub own : List ℕ
  pub has : HasOwnLive p d s offered own
  pub left : next ≡ left_among p keep own d
  pub told : list_of after ≡ list_of before ++ (lead ++ map Close (gone_among p keep own d))
  pub room : spare before + length next.table ≤ spare after + length d.table + length lead

-- the same where b says so, and else nothing
abbrev pub ClosesOwnIf : Bool → List Action → Plan → List ℕ → ℕ → Option ℕ → EndpointsData → EndpointsData → List Action × ℕ → List Action × ℕ → Type 0
ClosesOwnIf true lead p keep s offered d next before after = ClosesOwn lead p keep s offered d next before after
ClosesOwnIf false lead p keep s offered d next before after = (next ≡ d) × (after ≡ before)
