-- The definitions as facts, under the words that contracts use.
use Rattle.std.specs.Prelude.{ℕ, ◌≡◌, ◌⊎◌, ◌++◌, ◌∷◌, List, IsTrue}
use Rattle.svc_record.specs.declared.plan.Plan.{Plan}
use Rattle.svc_record.specs.declared.entry.Entry.TheVariants.{Got}
use Rattle.svc_record.specs.declared.event.Event.{Event}
use Rattle.svc_record.specs.Record.{Record}
use Rattle.svc_record.specs.Plans.{names, is_unclaimed}
use Rattle.svc_record.specs.Descriptors.{is_doubled}
use Rattle.svc_record.specs.Failed.{has_failed}
use Rattle.svc_record.specs.Starts.{is_ready}
use Rattle.svc_record.specs.Endpoints.{is_held_by, is_held, holds, serves, rests, is_busy, waits}
use Rattle.svc_record.specs.Closes.{is_abandoned, is_drained, is_gone}
use Rattle.svc_record.specs.Drain.{waits_are_over}

-- q is the record, or what stands before one of its events
abbrev pub Settled : Record → Record → Type 0
Settled q r = (q ≡ r) ⊎ ((e : Event) × ((more : Record) × (r ≡ more ++ (Got e ∷ q))))

-- the service declares the address or has an endpoint with it
abbrev pub Names : Plan → ℕ → List ℕ → Type 0
Names p s a = IsTrue (names p s a)

-- every service declares a list, and no service names the address
abbrev pub Unclaimed : Plan → List ℕ → Type 0
Unclaimed p a = IsTrue (is_unclaimed p a)

-- before the event that opened the descriptor, a live one had its address
abbrev pub Doubled : Plan → Record → ℕ → Type 0
Doubled p q fd = IsTrue (is_doubled p q fd)

-- the service has failed
abbrev pub Failed : Plan → Record → ℕ → Type 0
Failed p q s = IsTrue (has_failed p q s)

-- it is ready
abbrev pub Ready : Plan → Record → ℕ → Type 0
Ready p q s = IsTrue (is_ready p q s)

-- the descriptor holds the endpoint
abbrev pub HeldBy : Plan → Record → ℕ → ℕ → ℕ → Type 0
HeldBy p q s i fd = IsTrue (is_held_by p q s i fd)

-- some descriptor does
abbrev pub Held : Plan → Record → ℕ → ℕ → Type 0
Held p q s i = IsTrue (is_held p q s i)

-- it is held by the one live descriptor with its address
abbrev pub Holds : Plan → Record → ℕ → ℕ → Type 0
Holds p q s i = IsTrue (holds p q s i)

-- the service serves
abbrev pub Serves : Plan → Record → ℕ → Type 0
Serves p q s = IsTrue (serves p q s)

-- the endpoint's address was in use a moment ago
abbrev pub Rests : Plan → Record → ℕ → ℕ → Type 0
Rests p q s i = IsTrue (rests p q s i)

-- it is asked for, or rests
abbrev pub Busy : Plan → Record → ℕ → ℕ → Type 0
Busy p q s i = IsTrue (is_busy p q s i)

-- it, or an earlier one of its service, waits for an answer
abbrev pub Waits : Plan → Record → ℕ → ℕ → Type 0
Waits p q s i = IsTrue (waits p q s i)

-- some service names the address, and all that name it have failed
abbrev pub Abandoned : Plan → Record → List ℕ → Type 0
Abandoned p q a = IsTrue (is_abandoned p q a)

-- after the broadcast all that hold the descriptor are done with it
abbrev pub Drained : Plan → Record → ℕ → Type 0
Drained p q fd = IsTrue (is_drained p q fd)

-- the descriptor is to be closed
abbrev pub Gone : Plan → Record → ℕ → Type 0
Gone p q fd = IsTrue (is_gone p q fd)

-- the signal came and its waits have passed
abbrev pub Passed : Plan → Record → Type 0
Passed p q = IsTrue (waits_are_over p q)
