-- How many endpoints hold each live descriptor, and how many use it.
use Rattle.std.specs.Prelude.{ℕ, zero, suc, Bool, true, false, ◌==◌, ◌≡◌, ◌≤◌, ◌+◌, ◌-◌, not, ◌&&◌, ◌||◌, List, [], ◌∷◌, Option, Some, None, length, map, nat_lt, nat_le, slice_index_or, filter, if◌then◌else◌}
use Rattle.std.specs.List.{list_any, list_all}
use Rattle.svc_base.specs.Blocks.{put_by}
use Rattle.svc_base.specs.NumberSets.{is_in, distinct}
use Rattle.svc_endpoints.specs.declared.loops.LoopEnd.{LoopEnd}
use Rattle.svc_endpoints.specs.declared.states.EndpointStatus.{EndpointStatus}
use Rattle.svc_endpoints.specs.declared.states.EndpointStatus.TheVariants.{Adopting, Holding}
use Rattle.svc_endpoints.specs.declared.states.EndpointState.{EndpointState}
use Rattle.svc_endpoints.specs.declared.table.Open.{Open}
use Rattle.svc_endpoints.specs.declared.uses.Share.{Share}
use Rattle.svc_endpoints.specs.declared.uses.UseCount.{UseCount}
use Rattle.svc_endpoints.specs.declared.visit.Visit.{Visit}
use Rattle.svc_endpoints.specs.declared.visit.Visit.TheVariants.{Adopts}
use Rattle.svc_endpoints.specs.EndpointsData.{EndpointsData}
use Rattle.svc_endpoints.specs.EndpointsState.{idle, last_at, failed_at, open_numbers, numbers_of_table}
use Rattle.svc_endpoints.specs.Effects.{is_done_for}
use Rattle.svc_record.specs.declared.plan.Plan.{Plan}
use Rattle.svc_endpoints.specs.Loops.{loop_count}

-- what an endpoint has of the descriptor that it holds, as its service failed or not, and as each of its loops ended or not
abbrev pub holder_share : Bool → Bool → ℕ → Share
holder_share failed done fd = record { fd = fd; holds = not failed; uses = not failed && not done }

-- what an endpoint has of a descriptor, as its service failed or not, and as each of its loops ended or not
abbrev pub share_of : Bool → Bool → EndpointStatus → Option Share
share_of failed done (Adopting fd) = Some (record { fd = fd; holds = false; uses = true })
share_of failed done (Holding fd) = Some (holder_share failed done fd)
share_of failed done _ = None

-- it holds this descriptor, of a service that hasn't failed
abbrev pub has_hold : ℕ → Option Share → Bool
has_hold fd (Some x) = x.holds && x.fd == fd
has_hold fd None = false

-- it uses this descriptor
abbrev pub has_use : ℕ → Option Share → Bool
has_use fd (Some x) = x.uses && x.fd == fd
has_use fd None = false

-- 1 where b says so
abbrev pub one : Bool → ℕ
one b = if b then 1 else 0

-- the count with the share
abbrev pub raised : Option Share → UseCount → UseCount
raised x u = record { fd = u.fd; holders = u.holders + one (has_hold u.fd x); users = u.users + one (has_use u.fd x) }

-- the count without the share
abbrev pub lowered : Option Share → UseCount → UseCount
lowered x u = record { fd = u.fd; holders = u.holders - one (has_hold u.fd x); users = u.users - one (has_use u.fd x) }

-- a descriptor that no endpoint has
abbrev pub unused : ℕ → UseCount
unused fd = record { fd = fd; holders = 0; users = 0 }

-- the numbers of the counted descriptors
abbrev pub counted_numbers : List UseCount → List ℕ
counted_numbers counts = map (λ (u : UseCount). u.fd) counts

-- the counts are far from the largest number
abbrev pub are_few : List UseCount → Bool
are_few counts = list_all (λ (u : UseCount). nat_le u.holders 65536 && nat_le u.users 65536) counts

-- endpoints hold it, and none uses it
abbrev pub is_unused : UseCount → Bool
is_unused u = nat_lt 0 u.holders && u.users == 0

-- the descriptor is among the counted ones, endpoints hold it, and none uses it
abbrev pub is_let_go : ℕ → List UseCount → Bool
is_let_go fd counts = list_any (λ (u : UseCount). u.fd == fd && is_unused u) counts

-- the descriptor's address is abandoned and it isn't kept, or it is let go
abbrev pub goes_by : Plan → List Bool → List ℕ → List UseCount → Open → Bool
goes_by p failed kept counts o = is_done_for p failed kept o || is_let_go o.fd counts

-- the numbers of those in the table that go
abbrev pub gone_by : Plan → List Bool → List ℕ → List UseCount → List Open → List ℕ
gone_by p failed kept counts table = numbers_of_table (filter (goes_by p failed kept counts) table)

-- the table without them
abbrev pub left_by : Plan → List Bool → List ℕ → List UseCount → List Open → List Open
left_by p failed kept counts table = filter (λ (o : Open). not (goes_by p failed kept counts o)) table

-- how many of the first n numbers pass the test
abbrev pub count_to : (ℕ → Bool) → ℕ → ℕ
count_to test zero = 0
count_to test (suc n) = one (test n) + count_to test n

-- how many endpoints of the first n services do, of which each has so many
abbrev pub count_all : (ℕ → ℕ) → (ℕ → ℕ → Bool) → ℕ → ℕ
count_all size test zero = 0
count_all size test (suc n) = count_to (test n) (size n) + count_all size test n

-- how many endpoints the service has
abbrev pub row_size : List (List EndpointState) → ℕ → ℕ
row_size rows s = length (slice_index_or rows s [])

-- what an endpoint of the service's row has of a descriptor
abbrev pub row_share : Bool → List LoopEnd → ℕ → ℕ → List EndpointState → ℕ → Option Share
row_share failed loops tasks s row i = share_of failed (loop_count loops s i == tasks) (slice_index_or row i idle).last

-- the counts, as the first n endpoints of a service change what they have
abbrev pub changed_to : (ℕ → Option Share) → (ℕ → Option Share) → ℕ → List UseCount → List UseCount
changed_to was is zero counts = counts
changed_to was is (suc n) counts = map (raised (is n)) (map (lowered (was n)) (changed_to was is n counts))

-- the counts with these descriptors, which no endpoint has
abbrev pub put_unused : List ℕ → List UseCount → List UseCount
put_unused [] counts = counts
put_unused (fd ∷ fds) counts = put_unused fds (put_by (λ (u : UseCount). u.fd) (unused fd) counts)

-- what the endpoint has of a descriptor
abbrev pub share_at : EndpointsData → ℕ → ℕ → Option Share
share_at d s i = share_of (failed_at d s) (loop_count d.loops s i == d.tasks) (last_at d s i)

-- so many endpoints hold the descriptor, and so many use it
abbrev pub is_counted : (ℕ → ℕ) → ℕ → (ℕ → ℕ → Option Share) → UseCount → Bool
is_counted size n shares u =
    u.holders == count_all size (λ s i. has_hold u.fd (shares s i)) n && u.users == count_all size (λ s i. has_use u.fd (shares s i)) n

-- the same of each
abbrev pub are_counted : (ℕ → ℕ) → ℕ → (ℕ → ℕ → Option Share) → List UseCount → Bool
are_counted size n shares counts = list_all (is_counted size n shares) counts

-- what the endpoint has or is offered came
abbrev pub is_known : EndpointStatus → List ℕ → Bool
is_known (Adopting fd) came = is_in fd came
is_known (Holding fd) came = is_in fd came
is_known _ came = true

-- what the visit offers came
abbrev pub is_known_visit : Visit → List ℕ → Bool
is_known_visit (Adopts i fd) came = is_in fd came
is_known_visit _ came = true

-- of each live descriptor, none of which stands twice, is known how many endpoints of services that haven't failed hold it, and how many use it; what
-- endpoints have came, and what is live
pub record AreUsesKept (d : EndpointsData) (counts : List UseCount) : Type 0 where
  pub few : (s : ℕ) → row_size d.rows s ≤ 64
  pub numbers : counted_numbers counts ≡ open_numbers d
  pub counted : are_counted (row_size d.rows) (length d.rows) (share_at d) counts ≡ true
  pub known : (s i : ℕ) → is_known (last_at d s i) d.came ≡ true
  pub once : distinct (open_numbers d) ≡ true
  pub open_came : (fd : ℕ) → is_in fd (open_numbers d) ≡ true → is_in fd d.came ≡ true
