-- What a letter of an older server to a newer one hands over.
use Rattle.std.specs.Prelude.{ℕ, ◌≡◌, ◌≢◌, ◌==◌, ◌++◌, List, [], ◌∷◌, Option, Some, None, find, map}
use Rattle.std.specs.Arc.{arc_value}
use Rattle.std.specs.Option.{option_map}
use Rattle.svc_record.specs.declared.event.Event.{Event}
use Rattle.svc_record.specs.declared.event.Event.TheVariants as events
use Rattle.svc_sockets.specs.declared.slot.Letter.{Letter}
use Rattle.svc_sockets.specs.declared.slot.Slot.{Slot}
use Rattle.svc_sockets.specs.declared.slot.Slot.TheVariants.{Listening, Connected, InFlight}
use Rattle.svc_system.specs.declared.handover.Handed.{Handed}
use Rattle.svc_system.specs.declared.handover.Handed.TheVariants as handed
use Rattle.svc_system.specs.declared.handover.Sending.{Sending}
use Rattle.svc_system.specs.declared.handover.Sending.TheVariants as sendings
use Rattle.svc_system.specs.declared.listeners.Bound.{Bound}
use Rattle.svc_system.specs.declared.listeners.Listeners.{Listeners}
use Rattle.svc_system.specs.declared.listeners.Socket.{Socket}

-- the other one is a handle of the first: the same socket, with the same path
abbrev pub IsHandle : Bound → Bound → Type 0
IsHandle bound other = (arc_value other.socket ≡ arc_value bound.socket) × (other.path ≡ bound.path)

-- the socket with this number, if it is open
abbrev pub bound_in : Listeners → ℕ → Option Bound
bound_in listeners number = option_map (λ row. row.bound) (find (λ row. row.number == number) listeners.rows.items)

-- the numbers of the open ones
abbrev pub numbers_in : Listeners → List ℕ
numbers_in listeners = map (λ row. row.number) listeners.rows.items

-- the listeners of a letter are open under these numbers, behind those that were
abbrev pub Opens : Event → Listeners → Listeners → Type 0
Opens (events.Received bytes fds) before now = numbers_in now ≡ numbers_in before ++ fds
Opens event before now = numbers_in now ≡ numbers_in before

-- what is handed over: a socket with its path, of a listener with its number in the older server's record
pub record Shown : Type 0 where
  pub number : Option ℕ
  pub socket : Socket
  pub path : Option (List ℕ)

-- a socket that is handed over under this number
abbrev pub shown_as : Option ℕ → Bound → Shown
shown_as number bound = record { number = number; socket = arc_value bound.socket; path = bound.path }

-- what this hands over
abbrev pub shown : Handed → Option Shown
shown (handed.Listener number bound) = Some (shown_as (Some number) bound)
shown (handed.Control bound) = Some (shown_as None bound)

-- what is to be handed over of the listener with this number; none where it isn't open
abbrev pub handle_in : Listeners → ℕ → Option Shown
handle_in listeners number = option_map (λ bound. shown_as (Some number) bound) (bound_in listeners number)

-- the letter has the message, and a handle of each of these listeners in their order, and nothing else
abbrev pub IsLetterOf : Listeners → List ℕ → List ℕ → Letter Handed → Type 0
IsLetterOf listeners bytes fds letter =
    (letter.bytes.items ≡ bytes) × (map shown letter.handed.items ≡ map (handle_in listeners) fds)

-- the control socket as what is handed over, where there is one
abbrev pub control_of : Option Bound → List Handed
control_of None = []
control_of (Some bound) = handed.Control bound ∷ []

-- the second letter is the first one with the control socket behind what it hands over
pub record IsWithControl (letter : Letter Handed) (control : Option Bound) (sent : Letter Handed) : Type 0 where
  pub message : sent.bytes.items ≡ letter.bytes.items
  pub handed : sent.handed.items ≡ letter.handed.items ++ control_of control

-- a letter with this control socket is on its way from the connected server, which has it no more
abbrev pub IsSent : Letter Handed → Slot Handed → Slot Handed → Option Bound → Option Bound → Type 0
IsSent letter before now control left =
    (before ≡ Connected) × (left ≡ None) × ((sent : Letter Handed) × (now ≡ InFlight sent) × IsWithControl letter control sent)

-- it is, or nothing has left
abbrev pub IsSentOrNot : Letter Handed → Slot Handed → Slot Handed → Option Bound → Option Bound → Sending → Type 0
IsSentOrNot letter before now control left sendings.Sent = IsSent letter before now control left
IsSentOrNot letter before now control left sendings.Busy = ⊥
IsSentOrNot letter before now control left sendings.Failed = (before ≢ Connected) × (now ≡ before) × (left ≡ control)

-- the newer server receives exactly where it is connected to
abbrev pub IsConnectAnswer : Slot Handed → Event → Type 0
IsConnectAnswer slot events.Connected = slot ≡ Listening
IsConnectAnswer slot events.NotThere = slot ≢ Listening
IsConnectAnswer slot event = ⊥
