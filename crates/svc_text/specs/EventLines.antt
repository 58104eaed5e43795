-- What a line of words says, where it is an event or a fault.
use Rattle.std.specs.Prelude.{ℕ, Bool, true, false, ◌+◌, ◌-◌, ◌*◌, ◌^◌, ◌&&◌, nat_le, if◌then◌else◌, List, [], ◌∷◌, length, codes, Option, Some, None}
use Rattle.std.specs.Option.{option_map}
use Rattle.std.specs.Str.{bytes_eq}
use Rattle.svc_base.specs.Options.{◌>>=◌}
use Rattle.svc_base.specs.Words.{number_of}
use Rattle.svc_text.specs.NumberLists.{joined_of}
use Rattle.svc_socket.specs.ReadPeers.{peer_of}
use Rattle.svc_record.specs.declared.event.ShutdownSignal.{ShutdownSignal}
use Rattle.svc_record.specs.declared.event.ShutdownSignal.TheVariants.{FastShutdown, GracefulTerminate, GracefulUpgrade}
use Rattle.svc_record.specs.declared.event.Side.{Side}
use Rattle.svc_record.specs.declared.event.Side.TheVariants.{Child, Parent}
use Rattle.svc_record.specs.declared.event.Event.{Event}
use Rattle.svc_record.specs.declared.event.Event.TheVariants as events
use Rattle.svc_record.specs.declared.item.Item.{Item}
use Rattle.svc_record.specs.declared.item.Item.TheVariants as item

-- the signal that a word names
unfoldable pub signal_of : List ℕ → Option ShutdownSignal
signal_of word =
    if bytes_eq word (codes "fast") then Some FastShutdown
    else (if bytes_eq word (codes "terminate") then Some GracefulTerminate
    else (if bytes_eq word (codes "upgrade") then Some GracefulUpgrade else None))

-- the side of a fork that a word names
unfoldable pub side_of : List ℕ → Option Side
side_of word = if bytes_eq word (codes "child") then Some Child else (if bytes_eq word (codes "parent") then Some Parent else None)

-- what a word says of an answer
unfoldable pub ok_of : List ℕ → Option Bool
ok_of word = if bytes_eq word (codes "ok") then Some true else (if bytes_eq word (codes "no") then Some false else None)

-- the value of a hexadecimal digit, which is lower-case
unfoldable pub hex_digit_of : ℕ → Option ℕ
hex_digit_of b = if nat_le 48 b && nat_le b 57 then Some (b - 48) else (if nat_le 97 b && nat_le b 102 then Some (b - 87) else None)

-- the byte of two digits
unfoldable pub hex_byte_of : ℕ → ℕ → Option ℕ
hex_byte_of high low = hex_digit_of high >>= λ h. hex_digit_of low >>= λ l. Some (16 * h + l)

-- bytes, of two digits each
unfoldable pub hex_of : List ℕ → Option (List ℕ)
hex_of [] = Some []
hex_of (high ∷ []) = None
hex_of (high ∷ low ∷ more) = hex_byte_of high low >>= λ byte. option_map (λ bytes. byte ∷ bytes) (hex_of more)

-- the bytes that a word has in hexadecimal; a dash for none
unfoldable pub bytes_of : List ℕ → Option (List ℕ)
bytes_of word = if bytes_eq word (codes "-") then Some [] else hex_of word

-- the numbers that a word lists; a dash for none
unfoldable pub listed_of : List ℕ → Option (List ℕ)
listed_of word = if bytes_eq word (codes "-") then Some [] else joined_of word

-- at most 32 descriptors
unfoldable pub descriptors_of : List ℕ → Option (List ℕ)
descriptors_of word = listed_of word >>= λ fds. if nat_le (length fds) 32 then Some fds else None

-- the event of a key alone
unfoldable pub bare_event : List ℕ → Option Event
bare_event key =
    if bytes_eq key (codes "nosender") then Some events.NoSenderYet
    else (if bytes_eq key (codes "receivefailed") then Some events.ReceiveFailed
    else (if bytes_eq key (codes "connected") then Some events.Connected
    else (if bytes_eq key (codes "notthere") then Some events.NotThere
    else (if bytes_eq key (codes "connecting") then Some events.StillConnecting
    else (if bytes_eq key (codes "connectfailed") then Some events.ConnectFailed
    else (if bytes_eq key (codes "sent") then Some events.Sent
    else (if bytes_eq key (codes "sendbusy") then Some events.SendBusy
    else (if bytes_eq key (codes "sendfailed") then Some events.SendFailed
    else (if bytes_eq key (codes "childready") then Some events.ChildReady
    else (if bytes_eq key (codes "childgone") then Some events.ChildGone
    else (if bytes_eq key (codes "dropfailed") then Some events.DropFailed else None)))))))))))

-- the event of a key and a word
unfoldable pub event_of_one : List ℕ → List ℕ → Option Event
event_of_one key first =
    if bytes_eq key (codes "moment") then (number_of (2 ^ 64) first >>= λ ms. Some (events.Moment ms))
    else (if bytes_eq key (codes "ready") then (number_of (2 ^ 32) first >>= λ service. Some (events.Ready service))
    else (if bytes_eq key (codes "ended") then (number_of (2 ^ 32) first >>= λ service. Some (events.Ended service))
    else (if bytes_eq key (codes "finished") then (number_of (2 ^ 64) first >>= λ connection. Some (events.Finished connection))
    else (if bytes_eq key (codes "signal") then (signal_of first >>= λ kind. Some (events.Signal kind))
    else (if bytes_eq key (codes "side") then (side_of first >>= λ side. Some (events.Side side)) else None)))))

-- of a key and two words
unfoldable pub event_of_two : List ℕ → List ℕ → List ℕ → Option Event
event_of_two key first second =
    if bytes_eq key (codes "inuse") then
    (number_of (2 ^ 32) first >>= λ service. number_of (2 ^ 32) second >>= λ endpoint. Some (events.InUse service endpoint))
    else (if bytes_eq key (codes "bindfailed") then
    (number_of (2 ^ 32) first >>= λ service. number_of (2 ^ 32) second >>= λ endpoint. Some (events.BindFailed service endpoint))
    else (if bytes_eq key (codes "adopted") then
    (number_of (2 ^ 32) first >>= λ service. number_of (2 ^ 32) second >>= λ endpoint. Some (events.Adopted service endpoint))
    else (if bytes_eq key (codes "adoptfailed") then
    (number_of (2 ^ 32) first >>= λ service. number_of (2 ^ 32) second >>= λ endpoint. Some (events.AdoptFailed service endpoint))
    else (if bytes_eq key (codes "set") then (number_of (2 ^ 64) first >>= λ connection. ok_of second >>= λ ok. Some (events.Set connection ok))
    else (if bytes_eq key (codes "shaken") then
    (number_of (2 ^ 64) first >>= λ connection. ok_of second >>= λ ok. Some (events.Shaken connection ok)) else None)))))

-- of a key and three words
unfoldable pub event_of_three : List ℕ → List ℕ → List ℕ → List ℕ → Option Event
event_of_three key first second third =
    if bytes_eq key (codes "bound") then
    (number_of (2 ^ 32) first >>= λ service. number_of (2 ^ 32) second >>= λ endpoint. number_of (2 ^ 64) third >>= λ descriptor. Some
    (events.Bound service endpoint descriptor))
    else (if bytes_eq key (codes "acceptfailed") then
    (number_of (2 ^ 32) first >>= λ service. number_of (2 ^ 32) second >>= λ endpoint. number_of (2 ^ 32) third >>= λ error. Some
    (events.AcceptFailed service endpoint error))
    else (if bytes_eq key (codes "loopended") then
    (number_of (2 ^ 32) first >>= λ service. number_of (2 ^ 32) second >>= λ endpoint. number_of (2 ^ 64) third >>= λ number. Some
    (events.LoopEnded service endpoint number)) else None))

-- of a key and four words
unfoldable pub event_of_four : List ℕ → List ℕ → List ℕ → List ℕ → List ℕ → Option Event
event_of_four key first second third fourth =
    if bytes_eq key (codes "arrived") then
    (number_of (2 ^ 32) first >>= λ service. number_of (2 ^ 32) second >>= λ endpoint. number_of
    (2 ^ 64) third >>= λ connection. peer_of fourth >>= λ peer. Some (events.Arrived service endpoint connection peer)) else None

-- a message with its descriptors
unfoldable pub received_of : List ℕ → List ℕ → Option Event
received_of first second = bytes_of first >>= λ bytes. descriptors_of second >>= λ fds. Some (events.Received bytes fds)

-- the event that the words of a line say
unfoldable pub event_of : List (List ℕ) → Option Event
event_of [] = None
event_of (key ∷ []) = bare_event key
event_of (key ∷ first ∷ []) = event_of_one key first
event_of (key ∷ first ∷ second ∷ []) = if bytes_eq key (codes "received") then received_of first second else event_of_two key first second
event_of (key ∷ first ∷ second ∷ third ∷ []) = event_of_three key first second third
event_of (key ∷ first ∷ second ∷ third ∷ fourth ∷ []) = event_of_four key first second third fourth
event_of (key ∷ first ∷ second ∷ third ∷ fourth ∷ fifth ∷ more) = None

-- the only word of a line is `fault`
unfoldable pub is_fault : List (List ℕ) → Bool
is_fault (word ∷ []) = bytes_eq word (codes "fault")
is_fault _ = false

-- the item that the words of a line say: a fault, or an event
unfoldable pub item_of : List (List ℕ) → Option Item
item_of ws = if is_fault ws then Some item.Fault else option_map item.Event (event_of ws)
