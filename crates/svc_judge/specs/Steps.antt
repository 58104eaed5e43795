-- Parts of the tests of a settled prefix.
use Rattle.std.specs.Prelude.{ℕ, Bool, true, false, ◌==◌, not, ◌&&◌, ◌||◌, nat_lt, nat_le, ◌-◌, List, [], ◌∷◌, Option, None, if◌then◌else◌}
use Rattle.std.specs.List.{list_any, list_all}
use Rattle.svc_record.specs.declared.plan.Plan.{Plan}
use Rattle.svc_record.specs.declared.entry.Entry.{Entry}
use Rattle.svc_record.specs.declared.entry.Entry.TheVariants.{Got}
use Rattle.svc_record.specs.declared.event.Event.TheVariants.{LoopEnded, InUse, BindFailed, AdoptFailed, Signal, Sent, ConnectFailed, SendFailed, NotThere, StillConnecting, SendBusy}
use Rattle.svc_record.specs.Record.{Record, has, has_cut, times}
use Rattle.svc_record.specs.Plans.{has_kind, address, same_address, any_with, services, endpoint_numbers, each_endpoint, is_endpoint}
use Rattle.svc_record.specs.Descriptors.{Descriptor, opened_descriptors, is_close, has_live, live_numbers_with}
use Rattle.svc_graph.specs.declared.plan.Kind.TheVariants.{Bootstrap}
use Rattle.svc_record.specs.Starts.{is_started, is_ready}
use Rattle.svc_record.specs.Failed.{has_failed, is_fail}
use Rattle.svc_record.specs.Endpoints.{is_busy, serves, is_at_work}
use Rattle.svc_record.specs.Offer.{table, is_empty_table, is_written, is_answered, is_over, over_moment}
use Rattle.svc_record.specs.Message.{encode}
use Rattle.svc_record.specs.Asks.{is_connect_open, is_send_open, is_adopt_open, last_adopt}
use Rattle.svc_record.specs.AskRules.{has_turn}
use Rattle.svc_record.specs.Closes.{is_holder, have_loops_ended, is_broadcast, is_loop_end}
use Rattle.svc_record.specs.Ends.{ends_transfer, ends_no_sender, ends_bad_message}
use Rattle.svc_record.specs.declared.action.StepEnd.{StepEnd}
use Rattle.svc_record.specs.declared.action.StepEnd.TheVariants.{On, Ended}
use Rattle.svc_record.specs.declared.action.BootstrapError.TheVariants.{Transfer, NoSender, BadMessage}

-- the service was given up once if it has failed, else not at all
abbrev pub fail_right : Plan → Record → ℕ → Bool
fail_right p q s = times (is_fail s) q == (if has_failed p q s then 1 else 0)

-- the address of the first of the descriptors with this number
abbrev pub first_address : ℕ → List Descriptor → Option (List ℕ)
first_address fd [] = None
first_address fd (d ∷ more) = if d.number == fd then d.address else first_address fd more

-- an endpoint with this address is busy
abbrev pub is_any_busy : Plan → Record → Option (List ℕ) → Bool
is_any_busy p q a = any_with p a (is_busy p q)

-- a connect or a send is open
abbrev pub is_asking : Record → Bool
is_asking q = is_connect_open q || is_send_open q

-- an Adopt of the descriptor for the endpoint is open
abbrev pub is_adopt_open_of : Record → ℕ → ℕ → ℕ → Bool
is_adopt_open_of q s i fd = is_adopt_open q s i && list_any (λ n. n == fd) (last_adopt q s i)

-- an Adopt of the descriptor for an endpoint of the service is open
abbrev pub has_adopt_open : Plan → Record → ℕ → ℕ → Bool
has_adopt_open p q s fd = list_any (λ i. is_adopt_open_of q s i fd) (endpoint_numbers p s)

-- some endpoint holds the descriptor
abbrev pub has_holder : Plan → Record → ℕ → Bool
has_holder p q fd = list_any (λ s. list_any (is_holder p q fd s) (endpoint_numbers p s)) (services p)

-- the endpoint is done with the descriptor, if it holds it
abbrev pub is_done_with : Plan → Record → ℕ → ℕ → ℕ → Bool
is_done_with p q fd s i = not (is_holder p q fd s i) || (serves p q s && have_loops_ended p q s i)

-- the entry is the first end of a loop of the endpoint
abbrev pub ends_loop : Plan → Entry → Record → ℕ → ℕ → Bool
ends_loop p (Got (LoopEnded t k j)) before s i = ((t == s && k == i) && nat_lt j p.tasks) && not (has (is_loop_end s i j) before)
ends_loop p _ before s i = false

-- all that hold the descriptor are done with it
abbrev pub are_holders_done : Plan → Record → ℕ → Bool
are_holders_done p q fd = each_endpoint p (λ s i. not (is_holder p q fd s i) || (serves p q s && have_loops_ended p q s i))

-- each descriptor that was opened has one close
abbrev pub is_closed_once : Plan → Record → Bool
is_closed_once p q = list_all (λ (d : Descriptor). times (is_close d.number) q == 1) (opened_descriptors p q)

-- a loop of the endpoint may end: after the broadcast, and once
abbrev pub loop_fits : Plan → Record → ℕ → ℕ → ℕ → Bool
loop_fits p q s i j = ((has is_broadcast q && serves p q s) && is_endpoint p s i) && (nat_lt j p.tasks && not (has (is_loop_end s i j) q))

-- the offer of an upgrade signal is over: it can't be written, a cut came, or it was answered
abbrev pub has_offer_ended : Plan → Record → Bool
has_offer_ended p q =
    (not (is_empty_table (table p q)) && (not (is_written (encode (table p q))) || has_cut q)) || is_answered p q

-- the offer was over 5,000 ms or more before the moment
abbrev pub has_rested : Plan → Record → ℕ → Bool
has_rested p q ms = is_over p q && nat_le 5000 (ms - over_moment p q)

-- why the server couldn't take over, if it couldn't
abbrev pub failed_end : Plan → Record → StepEnd
failed_end p q =
    if ends_transfer q then Ended Transfer else (if ends_no_sender p q then Ended NoSender else (if ends_bad_message q then Ended BadMessage else On))

-- a service that bootstraps was started
abbrev pub has_boot_service : Plan → Record → Bool
has_boot_service p q = list_any (λ s. has_kind p Bootstrap s && is_started q s) (services p)

-- an endpoint of the service with this address is busy
abbrev pub is_busy_in : Plan → Record → ℕ → Option (List ℕ) → Bool
is_busy_in p q t a = list_any (λ k. same_address (address p t k) a && is_busy p q t k) (endpoint_numbers p t)

-- the same, where the service is at work
abbrev pub is_worked_on_in : Plan → Record → ℕ → Option (List ℕ) → Bool
is_worked_on_in p q t a = list_any (λ k. same_address (address p t k) a && (is_at_work p q t && is_busy p q t k)) (endpoint_numbers p t)

-- a bind of the endpoint is due
abbrev pub bind_due : Plan → Record → ℕ → ℕ → Bool
bind_due p q s i = (has_turn p q s i && not (has_live p q (address p s i))) && not (is_any_busy p q (address p s i))

-- an adoption of the descriptor for the endpoint is due
abbrev pub adopt_due : Plan → Record → ℕ → ℕ → ℕ → Bool
adopt_due p q s i fd = has_turn p q s i && list_any (λ n. n == fd) (live_numbers_with p q (address p s i))

-- the service is ready
unfoldable pub is_met : Plan → Record → ℕ → Bool
is_met p q s = is_ready p q s

-- the address of an endpoint of the service is in use, or a bind or an adoption of one failed
abbrev pub is_trouble : ℕ → Entry → Bool
is_trouble s (Got (InUse t i)) = t == s
is_trouble s (Got (BindFailed t i)) = t == s
is_trouble s (Got (AdoptFailed t i)) = t == s
is_trouble s _ = false

-- by the event an offer may be over
abbrev pub may_end_offer : Entry → Bool
may_end_offer (Got (Signal kind)) = true
may_end_offer (Got Sent) = true
may_end_offer (Got ConnectFailed) = true
may_end_offer (Got SendFailed) = true
may_end_offer (Got NotThere) = true
may_end_offer (Got StillConnecting) = true
may_end_offer (Got SendBusy) = true
may_end_offer _ = false
