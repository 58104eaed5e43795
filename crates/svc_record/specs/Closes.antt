-- Which descriptors are gone, and so closed.
use Rattle.std.specs.Prelude.{ℕ, Bool, true, false, ◌==◌, ◌≡◌, ◌+◌, not, ◌&&◌, ◌||◌, List, [], ◌∷◌, Option, Some, None, nat_lt, if◌then◌else◌}
use Rattle.std.specs.List.{list_any, list_all}
use Rattle.svc_record.specs.declared.plan.Plan.{Plan}
use Rattle.svc_record.specs.declared.entry.Entry.{Entry}
use Rattle.svc_record.specs.declared.entry.Entry.TheVariants.{Got, Told}
use Rattle.svc_record.specs.declared.action.Action.TheVariants.{Broadcast, Close}
use Rattle.svc_record.specs.declared.event.Event.TheVariants.{LoopEnded}
use Rattle.svc_record.specs.Record.{Record, has, times}
use Rattle.svc_record.specs.Plans.{services, endpoint_numbers, names, is_unclaimed, each_endpoint}
use Rattle.svc_record.specs.Descriptors.{Descriptor, opened_descriptors, is_opened, is_close, address_of, is_doubled}
use Rattle.svc_record.specs.Asks.{is_adopt_open, last_adopt}
use Rattle.svc_record.specs.Failed.{has_failed}
use Rattle.svc_record.specs.Endpoints.{is_held_by, serves}
use Rattle.svc_record.specs.Offer.{is_held_back}

-- some service names the address, and all that name it have failed
abbrev pub is_abandoned : Plan → Record → List ℕ → Bool
is_abandoned p q a = list_any (λ s. names p s a) (services p) && list_all (λ s. not (names p s a) || has_failed p q s) (services p)

-- the entry tells `Broadcast`
abbrev pub is_broadcast : Entry → Bool
is_broadcast (Told Broadcast) = true
is_broadcast _ = false

-- loop j of the endpoint ended
abbrev pub is_loop_end : ℕ → ℕ → ℕ → Entry → Bool
is_loop_end s i j (Got (LoopEnded t k n)) = (t == s && k == i) && n == j
is_loop_end s i j _ = false

-- how many loops of the endpoint have ended, each counted once
abbrev pub ended_loops : Plan → Record → ℕ → ℕ → ℕ
ended_loops p [] s i = 0
ended_loops p (Got (LoopEnded t k j) ∷ before) s i =
    if ((t == s && k == i) && nat_lt j p.tasks) && not (has (is_loop_end s i j) before) then ended_loops p before s i + 1 else ended_loops p before s i
ended_loops p (e ∷ before) s i = ended_loops p before s i

-- each loop of the endpoint has ended
abbrev pub have_loops_ended : Plan → Record → ℕ → ℕ → Bool
have_loops_ended p q s i = ended_loops p q s i == p.tasks

-- an Adopt of the descriptor is open
abbrev pub is_adopt_of_open : Plan → Record → ℕ → Bool
is_adopt_of_open p q fd = list_any (λ s. list_any (λ i. is_adopt_open q s i && list_any (λ n. n == fd) (last_adopt q s i)) (endpoint_numbers p s)) (services p)

-- an endpoint of a service that hasn't failed holds the descriptor
abbrev pub is_holder : Plan → Record → ℕ → ℕ → ℕ → Bool
is_holder p q fd s i = not (has_failed p q s) && is_held_by p q s i fd

-- after the broadcast: some endpoint holds the descriptor, and all that do are done with it
abbrev pub is_drained : Plan → Record → ℕ → Bool
is_drained p q fd = ((has is_broadcast q && not (is_adopt_of_open p q fd))
    && list_any (λ s. list_any (is_holder p q fd s) (endpoint_numbers p s)) (services p))
    && each_endpoint p (λ s i. not (is_holder p q fd s i) || (serves p q s && have_loops_ended p q s i))

-- the descriptor came by `Received`
abbrev pub is_received : Plan → Record → ℕ → Bool
is_received p q fd = list_any (λ (d : Descriptor). d.number == fd && d.received) (opened_descriptors p q)

-- there is an address, and no service claims it
abbrev pub is_address_unclaimed : Plan → Option (List ℕ) → Bool
is_address_unclaimed p (Some a) = is_unclaimed p a
is_address_unclaimed p None = false

-- there is an address, and it is abandoned
abbrev pub is_address_abandoned : Plan → Record → Option (List ℕ) → Bool
is_address_abandoned p q (Some a) = is_abandoned p q a
is_address_abandoned p q None = false

-- received and unclaimed, or doubled, or abandoned and no longer on offer, or drained
abbrev pub is_gone : Plan → Record → ℕ → Bool
is_gone p q fd = (((is_received p q fd && is_address_unclaimed p (address_of p q fd)) || is_doubled p q fd)
    || (is_address_abandoned p q (address_of p q fd) && not (is_held_back p q fd)))
    || is_drained p q fd

-- the descriptor has one close if it is gone, else none
abbrev pub close_right : Plan → Record → ℕ → Bool
close_right p q fd = times (is_close fd) q == (if is_gone p q fd then 1 else 0)

-- of what was opened, exactly what is gone has a close, and one: as a test
abbrev pub closes_right : Plan → Record → Bool
closes_right p q = list_all (λ (d : Descriptor). close_right p q d.number) (opened_descriptors p q)

-- of what was opened, exactly what is gone has a close, and one
abbrev pub ClosesRight : Plan → Record → Type 0
ClosesRight p q = (fd : ℕ) → is_opened p q fd ≡ true → times (is_close fd) q ≡ (if is_gone p q fd then 1 else 0)

-- stronger: a close is of a descriptor that was opened before, and isn't closed yet
abbrev pub close_once : Plan → Entry → Record → Bool
close_once p (Told (Close fd)) before = is_opened p before fd && not (has (is_close fd) before)
close_once p _ before = true
