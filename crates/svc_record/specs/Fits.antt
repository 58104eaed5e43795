-- Which event may come after a record.
use Rattle.std.specs.Prelude.{ℕ, Bool, true, ◌==◌, ◌≡◌, not, ◌&&◌, ◌||◌, List, [], ◌∷◌, length, nat_le, nat_lt}
use Rattle.std.specs.List.{list_any}
use Rattle.svc_record.specs.declared.plan.Plan.{Plan}
use Rattle.svc_graph.specs.declared.plan.Kind.TheVariants.{Plain, Notifying}
use Rattle.svc_record.specs.declared.entry.Entry.{Entry}
use Rattle.svc_record.specs.declared.entry.Entry.TheVariants.{Got}
use Rattle.svc_record.specs.declared.event.Event.{Event}
use Rattle.svc_record.specs.declared.event.Event.TheVariants.{Moment, Ready, Ended, Bound, InUse, BindFailed, Adopted, AdoptFailed, Received, NoSenderYet, ReceiveFailed, Connected, NotThere, StillConnecting, ConnectFailed, Sent, SendBusy, SendFailed, Arrived, AcceptFailed, Set, Shaken, Finished, LoopEnded, Signal, Side, ChildReady, ChildGone, DropFailed}
use Rattle.svc_record.specs.Record.{Record, has, now, from_the_start}
use Rattle.svc_record.specs.Plans.{has_kind, endpoints, is_endpoint}
use Rattle.svc_record.specs.Descriptors.{brings}
use Rattle.svc_record.specs.Asks.{is_bind_open, is_adopt_open, is_try_open, is_connect_open, is_send_open, is_settings_open, is_handshake_open, is_daemonize_open}
use Rattle.svc_record.specs.Starts.{is_started, is_ready_event, is_ended_event}
use Rattle.svc_record.specs.Endpoints.{serves}
use Rattle.svc_record.specs.Closes.{is_broadcast, is_loop_end, have_loops_ended}
use Rattle.svc_record.specs.Connections.{is_arrival, is_serve, is_live_connection}
use Rattle.svc_record.specs.Boot.{is_side_parent}
use Rattle.svc_record.specs.Ends.{has_ended}

-- no earlier event brought the descriptor's number
abbrev pub is_new : Record → ℕ → Bool
is_new q fd = not (has (brings fd) q)

-- the numbers are new, and no two of them equal
abbrev pub are_new : Record → List ℕ → Bool
are_new q [] = true
are_new q (fd ∷ fds) = (is_new q fd && not (list_any (λ n. n == fd) fds)) && are_new q fds

-- the service takes no connections and doesn't bootstrap
abbrev pub may_end : Plan → ℕ → Bool
may_end p s = (has_kind p Plain s || has_kind p Notifying s) && length (endpoints p s) == 0

-- the service serves, and a loop of its endpoint goes on
abbrev pub accepts : Plan → Record → ℕ → ℕ → Bool
accepts p q s i = (serves p q s && is_endpoint p s i) && not (have_loops_ended p q s i)

-- the process is the parent, and waits for its child
abbrev pub parent_waits : Plan → Record → Bool
parent_waits p q = has is_side_parent q && p.wait

-- the condition of each event
abbrev pub fits_row : Plan → Record → Event → Bool
fits_row p q (Moment ms) = nat_le (now q) ms
fits_row p q (Ready s) = (has_kind p Notifying s && is_started q s) && not (has (is_ready_event s) q)
fits_row p q (Ended s) = (may_end p s && is_started q s) && not (has (is_ended_event s) q)
fits_row p q (Bound s i fd) = is_bind_open q s i && is_new q fd
fits_row p q (InUse s i) = is_bind_open q s i
fits_row p q (BindFailed s i) = is_bind_open q s i
fits_row p q (Adopted s i) = is_adopt_open q s i
fits_row p q (AdoptFailed s i) = is_adopt_open q s i
fits_row p q (Received bytes fds) = (is_try_open q && nat_le (length fds) 32) && are_new q fds
fits_row p q NoSenderYet = is_try_open q
fits_row p q ReceiveFailed = is_try_open q
fits_row p q Connected = is_connect_open q
fits_row p q NotThere = is_connect_open q
fits_row p q StillConnecting = is_connect_open q
fits_row p q ConnectFailed = is_connect_open q
fits_row p q Sent = is_send_open q
fits_row p q SendBusy = is_send_open q
fits_row p q SendFailed = is_send_open q
fits_row p q (Arrived s i c peer) = accepts p q s i && not (has (is_arrival c) q)
fits_row p q (AcceptFailed s i n) = accepts p q s i
fits_row p q (Set c ok) = is_settings_open q c
fits_row p q (Shaken c ok) = is_handshake_open q c
fits_row p q (Finished c) = has (is_serve c) q && is_live_connection q c
fits_row p q (LoopEnded s i j) = ((has is_broadcast q && serves p q s) && is_endpoint p s i) && (nat_lt j p.tasks && not (has (is_loop_end s i j) q))
fits_row p q (Signal kind) = from_the_start q
fits_row p q (Side side) = is_daemonize_open q
fits_row p q ChildReady = parent_waits p q
fits_row p q ChildGone = parent_waits p q
fits_row p q DropFailed = parent_waits p q

-- the event may come: the run hasn't ended, and the event's condition holds
abbrev pub fits : Plan → Record → Event → Bool
fits p q e = not (has_ended p q) && fits_row p q e

-- the same as a fact
abbrev pub Fits : Plan → Record → Event → Type 0
Fits p q e = fits p q e ≡ true

-- an event among the entries fits what stands before it
abbrev pub event_fits : Plan → Entry → Record → Bool
event_fits p (Got e) before = fits p before e
event_fits p _ before = true
