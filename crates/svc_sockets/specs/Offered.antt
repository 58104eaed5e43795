-- What an offer came to, and what was received.
use Rattle.std.specs.Prelude.{◌≡◌, ◌≢◌, ℕ, ◌+◌, ◌⊎◌, List, ◌++◌, length, Option, Some}
use Rattle.std.specs.declared.net.tcp.TcpListener.{TcpListener}
use Rattle.svc_sockets.specs.declared.offers.OfferAnswer.{OfferAnswer}
use Rattle.svc_sockets.specs.declared.offers.OfferAnswer.TheVariants as answers
use Rattle.svc_sockets.specs.declared.offers.Receipt.{Receipt}
use Rattle.svc_sockets.specs.declared.offers.Receipt.TheVariants.{NoSenderYet, Came}
use Rattle.svc_sockets.specs.declared.slot.Letter.{Letter}
use Rattle.svc_sockets.specs.declared.slot.Slot.{Slot}
use Rattle.svc_sockets.specs.declared.slot.Slot.TheVariants.{Listening, Connected, InFlight, Taken}

-- the offer is connected exactly where the new server receives
abbrev pub IsConnected : Slot TcpListener → Option OfferAnswer → Type 0
IsConnected slot offered =
    ((slot ≡ Listening) × (offered ≡ Some answers.Connected)) ⊎ ((slot ≢ Listening) × (offered ≡ Some answers.NotThere))

-- the letter has the message, and a socket for each number, behind what an empty one has
pub record IsFilled (empty letter : Letter TcpListener) (bytes fds : List ℕ) : Type 0 where
  pub message : letter.bytes.items ≡ empty.bytes.items ++ bytes
  pub count : length letter.handed.items ≡ length empty.handed.items + length fds

-- a whole letter is on its way from the connected server, or the slot is as it was
abbrev pub IsSent : Letter TcpListener → List ℕ → List ℕ → Slot TcpListener → Slot TcpListener → Option OfferAnswer → Type 0
IsSent empty bytes fds before now offered =
    ((offered ≡ Some answers.Sent) × (before ≡ Connected)
    × ((letter : Letter TcpListener) × (now ≡ InFlight letter) × IsFilled empty letter bytes fds))
    ⊎ ((offered ≡ Some answers.SendFailed) × (now ≡ before))

-- the letter that was on its way came; where none was, the slot is as it was
abbrev pub IsReceived : Slot TcpListener → Slot TcpListener → Receipt → Type 0
IsReceived before now receipt =
    ((letter : Letter TcpListener) × (before ≡ InFlight letter) × (now ≡ Taken) × (receipt ≡ Came letter))
    ⊎ (((letter : Letter TcpListener) → before ≢ InFlight letter) × (now ≡ before) × (receipt ≡ NoSenderYet))
