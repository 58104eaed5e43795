-- What each answer makes of the states.
use Rattle.std.specs.Prelude.{ℕ, Bool, false, true, not, ◌&&◌, ◌||◌, ◌+◌, ◌==◌, List, [], ◌∷◌, ◌++◌, Option, Some, None, map, filter, slice_index_or, slice_set, nat_le, nat_lt, if◌then◌else◌}
use Rattle.std.specs.List.{list_any, list_all}
use Rattle.svc_record.specs.declared.plan.Plan.{Plan}
use Rattle.svc_record.specs.Plans.{services, address, names, is_unclaimed}
use Rattle.svc_record.specs.Failed.{in_use_limit}
use Rattle.svc_base.specs.NumberSets.{put_number, ascending, is_in}
use Rattle.svc_record.specs.declared.action.Action.{Action}
use Rattle.svc_record.specs.declared.action.Action.TheVariants.{Fail, Close}
use Rattle.svc_endpoints.specs.declared.states.EndpointStatus.{EndpointStatus}
use Rattle.svc_endpoints.specs.declared.states.EndpointStatus.TheVariants.{Idle, Binding, AddressInUse, Adopting, Holding, AdoptionFailed}
use Rattle.svc_endpoints.specs.declared.states.EndpointState.{EndpointState}
use Rattle.svc_endpoints.specs.declared.table.Open.{Open}
use Rattle.svc_endpoints.specs.EndpointsData.{EndpointsData}
use Rattle.svc_endpoints.specs.EndpointsState.{last_at, times_in_use_at, numbers_with, numbers_of_table, held_of, is_done}
use Rattle.svc_endpoints.specs.Uses.{is_drained_by}

-- the first of them
abbrev pub first_of : List ℕ → Option ℕ
first_of [] = None
first_of (x ∷ more) = Some x

-- there is one
abbrev pub not_empty : List ℕ → Bool
not_empty [] = false
not_empty (x ∷ more) = true

-- the table has a descriptor with this address
abbrev pub has_open : List Open → Option (List ℕ) → Bool
has_open table a = not_empty (numbers_with table a)

-- endpoint i of s has this state
abbrev pub put : EndpointsData → ℕ → ℕ → EndpointState → EndpointsData
put d s i x = record d { rows = slice_set d.rows s (slice_set (slice_index_or d.rows s []) i x) }

-- endpoint i of s has this state, and its count stays
abbrev pub put_last : EndpointsData → ℕ → ℕ → EndpointStatus → EndpointsData
put_last d s i x = put d s i (record { last = x; times_in_use = times_in_use_at d s i })

-- the service has failed, where b says so
abbrev pub fail_if : Bool → ℕ → EndpointsData → EndpointsData
fail_if b s d = if b then record d { failed = slice_set d.failed s true } else d

-- the service fails at one more answer that the endpoint's address is in use
abbrev pub is_last_refusal : Plan → EndpointsData → ℕ → ℕ → Bool
is_last_refusal p d s i = not (has_open d.table (address p s i)) && nat_le (in_use_limit p s i) (times_in_use_at d s i + 1)

-- the endpoint's address was in use at the moment: this counts while no live descriptor has it
abbrev pub refused : Plan → EndpointsData → ℕ → ℕ → ℕ → EndpointsData
refused p d s i moment =
    fail_if (is_last_refusal p d s i) s
    (put d s i (record {
      last = AddressInUse moment;
      times_in_use =
          if is_last_refusal p d s i then times_in_use_at d s i else
          (if not (has_open d.table (address p s i)) then times_in_use_at d s i + 1 else times_in_use_at d s i);
    }))

-- the endpoint couldn't be bound
abbrev pub bind_failed : EndpointsData → ℕ → ℕ → EndpointsData
bind_failed d s i = fail_if true s (put_last d s i Idle)

-- the endpoint couldn't take what it was offered
abbrev pub adopt_failed : EndpointsData → ℕ → ℕ → EndpointsData
adopt_failed d s i = fail_if true s (put_last d s i AdoptionFailed)

-- what is offered is held
abbrev pub held_now : EndpointStatus → EndpointStatus
held_now (Adopting fd) = Holding fd
held_now x = x

-- the endpoint holds what it was offered
abbrev pub adopted : EndpointsData → ℕ → ℕ → EndpointsData
adopted d s i = put_last d s i (held_now (last_at d s i))

-- the endpoint is asked for
abbrev pub asked : EndpointsData → ℕ → ℕ → EndpointsData
asked d s i = put_last d s i Binding

-- a live descriptor is offered to the endpoint
abbrev pub offered : EndpointsData → ℕ → ℕ → ℕ → EndpointsData
offered d s i fd = put_last d s i (Adopting fd)

-- a descriptor with this number came
abbrev pub with_number : ℕ → EndpointsData → EndpointsData
with_number fd d = record d { came = put_number fd d.came }

-- a doubled descriptor came, and the endpoint is unasked again
abbrev pub bound_again : EndpointsData → ℕ → ℕ → ℕ → EndpointsData
bound_again d s i fd = put_last (with_number fd d) s i Idle

-- the table with one more descriptor, in ascending number
abbrev pub put_open : Open → List Open → List Open
put_open o [] = o ∷ []
put_open o (x ∷ more) = if nat_lt o.fd x.fd then o ∷ x ∷ more else x ∷ put_open o more

-- a descriptor with this number and this address came, and is live
abbrev pub with_open : ℕ → List ℕ → EndpointsData → EndpointsData
with_open fd text d = record d { came = put_number fd d.came; table = put_open (record { fd = fd; address = Some text }) d.table }

-- the endpoint is held by a new descriptor with this address
abbrev pub bound : EndpointsData → ℕ → ℕ → ℕ → List ℕ → EndpointsData
bound d s i fd text = put_last (with_open fd text d) s i (Holding fd)

-- what the bind brought is closed again where a live descriptor has the address, else it holds the endpoint
abbrev pub bound_or_again : Bool → EndpointsData → ℕ → ℕ → ℕ → List ℕ → EndpointsData
bound_or_again doubled d s i fd text = if doubled then bound_again d s i fd else bound d s i fd text

-- the close of a doubled descriptor
abbrev pub close_told : Bool → ℕ → List Action
close_told doubled fd = if doubled then Close fd ∷ [] else []

-- some service names the address, and all that name it have failed by these flags
abbrev pub is_abandoned_by : Plan → List Bool → List ℕ → Bool
is_abandoned_by p failed a = list_any (λ s. names p s a) (services p) && list_all (λ s. not (names p s a) || slice_index_or failed s false) (services p)

-- there is an address, and it passes the test
abbrev pub passes : (List ℕ → Bool) → Option (List ℕ) → Bool
passes test (Some a) = test a
passes test None = false

-- the descriptor's address is abandoned, and its number isn't among these, which are on offer to a successor
abbrev pub is_done_for : Plan → List Bool → List ℕ → Open → Bool
is_done_for p failed kept o = passes (is_abandoned_by p failed) o.address && not (is_in o.fd kept)

-- that, or the descriptor is drained
abbrev pub goes : Plan → List ℕ → EndpointsData → Open → Bool
goes p kept d o = is_done_for p d.failed kept o || is_drained_by p d o.fd

-- the numbers of those in the table of which this holds
abbrev pub gone_numbers : Plan → List ℕ → EndpointsData → List Open → List ℕ
gone_numbers p kept d table = numbers_of_table (filter (goes p kept d) table)

-- the table without them
abbrev pub without_gone : Plan → List ℕ → EndpointsData → List Open → List Open
without_gone p kept d table = filter (λ (o : Open). not (goes p kept d o)) table

-- a loop of the endpoint ended
abbrev pub loop_ended : EndpointsData → ℕ → ℕ → ℕ → EndpointsData
loop_ended d s i j = record d { loops = d.loops ++ (record { service = s; endpoint = i; number = j } ∷ []) }

-- the states without them
abbrev pub cleared : Plan → List ℕ → EndpointsData → EndpointsData
cleared p kept d = record d { table = without_gone p kept d d.table }

-- a service is given up, and what goes is closed
abbrev pub given_up : Plan → ℕ → List ℕ → EndpointsData → List Action
given_up p s kept d = Fail s ∷ map Close (gone_numbers p kept d d.table)

-- the same where b says so
abbrev pub cleared_if : Bool → Plan → List ℕ → EndpointsData → EndpointsData
cleared_if b p kept d = if b then cleared p kept d else d

-- what is told where b says so
abbrev pub given_up_if : Bool → Plan → ℕ → List ℕ → EndpointsData → List Action
given_up_if b p s kept d = if b then given_up p s kept d else []

-- a received descriptor with this address closes at once: a live one has the address, or no service claims it, or it is abandoned
abbrev pub turns_away : Plan → EndpointsData → List ℕ → Bool
turns_away p d a = (has_open d.table (Some a) || is_unclaimed p a) || is_abandoned_by p d.failed a

-- each number with the word at its place, and without an address where there is none
abbrev pub opens_of : List ℕ → List (List ℕ) → List Open
opens_of [] words = []
opens_of (fd ∷ fds) [] = record { fd = fd; address = None } ∷ opens_of fds []
opens_of (fd ∷ fds) (w ∷ words) = record { fd = fd; address = Some w } ∷ opens_of fds words

-- the numbers of those whose address passes the test
abbrev pub numbers_out : (List ℕ → Bool) → List Open → List ℕ
numbers_out gone opens = numbers_of_table (filter (λ (o : Open). passes gone o.address) opens)

-- those whose numbers aren't among these
abbrev pub without_numbers : List ℕ → List Open → List Open
without_numbers out opens = filter (λ (o : Open). not (is_in o.fd out)) opens

-- the numbers in ascending order with these, one after the other
abbrev pub put_numbers : List ℕ → List ℕ → List ℕ
put_numbers [] came = came
put_numbers (fd ∷ fds) came = put_numbers fds (put_number fd came)

-- the table with these, one after the other
abbrev pub put_opens : List Open → List Open → List Open
put_opens [] table = table
put_opens (o ∷ more) table = put_opens more (put_open o table)

-- the numbers that close at once, in ascending order
abbrev pub turned_away : Plan → EndpointsData → List (List ℕ) → List ℕ → List ℕ
turned_away p d words fds = ascending (numbers_out (turns_away p d) (opens_of fds words))

-- the numbers came with these words, and the descriptors that don't close at once are live
abbrev pub received : Plan → EndpointsData → List (List ℕ) → List ℕ → EndpointsData
received p d words fds =
    record d { table = put_opens (without_numbers (turned_away p d words fds) (opens_of fds words)) d.table; came = put_numbers fds d.came }

-- the numbers of the table's descriptors with this number
abbrev pub numbers_like : ℕ → List Open → List ℕ
numbers_like fd table = numbers_of_table (filter (λ (o : Open). o.fd == fd) table)

-- the states without the descriptor with this number
abbrev pub without_number : ℕ → EndpointsData → EndpointsData
without_number fd d = record d { table = filter (λ (o : Open). not (o.fd == fd)) d.table }

-- the descriptor holds endpoint i of s, each loop of which has ended, and is drained
abbrev pub drains_at : Plan → EndpointsData → ℕ → ℕ → ℕ → Bool
drains_at p d s i fd = is_in fd (held_of (last_at d s i)) && (is_done p d s i && is_drained_by p d fd)

-- the numbers of the table's descriptors that are among these
abbrev pub numbers_among : List ℕ → List Open → List ℕ
numbers_among out table = numbers_of_table (filter (λ (o : Open). is_in o.fd out) table)

-- the states without the descriptors with these numbers
abbrev pub closed_out : List ℕ → EndpointsData → EndpointsData
closed_out out d = record d { table = without_numbers out d.table }
