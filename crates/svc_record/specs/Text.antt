-- The text of a record: a line for each entry, of words with single spaces between them.
use Rattle.std.specs.Prelude.{ℕ, ◌<◌, ◌^◌, ◌/◌, ◌%◌, Bool, true, false, List, [], ◌∷◌, ◌++◌, map, All, codes}
use Rattle.std.specs.List.{join_with_byte, flat_map}
use Rattle.std.specs.Fmt.{decimal, digit_glyph}
use Rattle.svc_socket.specs.Peers.{peer_text, PeerFits}
use Rattle.svc_base.specs.declared.settings.TcpKeepalive.{TcpKeepalive}
use Rattle.svc_base.specs.declared.settings.Setting.{Setting}
use Rattle.svc_base.specs.declared.settings.Setting.TheVariants.{NoDelay, KeepAlive, Dscp, SndBuf, RcvBuf}
use Rattle.svc_record.specs.declared.event.ShutdownSignal.{ShutdownSignal}
use Rattle.svc_record.specs.declared.event.ShutdownSignal.TheVariants as signals
use Rattle.svc_record.specs.declared.event.Side.{Side}
use Rattle.svc_record.specs.declared.event.Side.TheVariants.{Child, Parent}
use Rattle.svc_record.specs.declared.action.ExecutionPhase.{ExecutionPhase}
use Rattle.svc_record.specs.declared.action.ExecutionPhase.TheVariants as phases
use Rattle.svc_record.specs.declared.event.Event.{Event}
use Rattle.svc_record.specs.declared.event.Event.TheVariants as events
use Rattle.svc_record.specs.declared.action.Action.{Action}
use Rattle.svc_record.specs.declared.action.Action.TheVariants as actions
use Rattle.svc_record.specs.declared.entry.Entry.{Entry}
use Rattle.svc_record.specs.declared.entry.Entry.TheVariants.{Got, Told}

-- whether it went well
abbrev pub ok_word : Bool → List ℕ
ok_word true = codes "ok"
ok_word false = codes "no"

-- what a filter said
abbrev pub yes_word : Bool → List ℕ
yes_word true = codes "yes"
yes_word false = codes "no"

-- the word of a signal
abbrev pub signal_word : ShutdownSignal → List ℕ
signal_word signals.FastShutdown = codes "fast"
signal_word signals.GracefulTerminate = codes "terminate"
signal_word signals.GracefulUpgrade = codes "upgrade"

-- the word of a side of a fork
abbrev pub side_word : Side → List ℕ
side_word Child = codes "child"
side_word Parent = codes "parent"

-- the word of a phase: its name
abbrev pub phase_word : ExecutionPhase → List ℕ
phase_word phases.Setup = codes "Setup"
phase_word phases.Bootstrap = codes "Bootstrap"
phase_word phases.BootstrapComplete = codes "BootstrapComplete"
phase_word phases.Running = codes "Running"
phase_word phases.GracefulUpgradeTransferringFds = codes "GracefulUpgradeTransferringFds"
phase_word phases.GracefulUpgradeCloseTimeout = codes "GracefulUpgradeCloseTimeout"
phase_word phases.GracefulTerminate = codes "GracefulTerminate"
phase_word phases.ShutdownStarted = codes "ShutdownStarted"
phase_word phases.ShutdownGracePeriod = codes "ShutdownGracePeriod"
phase_word phases.ShutdownRuntimes = codes "ShutdownRuntimes"
phase_word phases.Terminated = codes "Terminated"

-- a byte in two lower-case hexadecimal digits
abbrev pub hex_byte : ℕ → List ℕ
hex_byte b = digit_glyph false (b / 16) ∷ digit_glyph false (b % 16) ∷ []

-- bytes in one word, and a dash for none
abbrev pub bytes_word : List ℕ → List ℕ
bytes_word [] = codes "-"
bytes_word (b ∷ bs) = flat_map hex_byte (b ∷ bs)

-- numbers in one word, joined by commas, and a dash for none
abbrev pub numbers_word : List ℕ → List ℕ
numbers_word [] = codes "-"
numbers_word (n ∷ ns) = decimal n ++ flat_map (λ m. 44 ∷ decimal m) ns

-- the four numbers of a keepalive
abbrev pub keepalive_word : TcpKeepalive → List ℕ
keepalive_word k = numbers_word (k.idle ∷ k.interval ∷ k.count ∷ k.user_timeout ∷ [])

-- the word of a setting
abbrev pub setting_word : Setting → List ℕ
setting_word NoDelay = codes "nodelay"
setting_word (KeepAlive k) = codes "keepalive=" ++ keepalive_word k
setting_word (Dscp n) = codes "dscp=" ++ decimal n
setting_word (SndBuf n) = codes "sndbuf=" ++ decimal n
setting_word (RcvBuf n) = codes "rcvbuf=" ++ decimal n

-- the words of an event's line
abbrev pub event_words : Event → List (List ℕ)
event_words (events.Moment ms) = codes "moment" ∷ decimal ms ∷ []
event_words (events.Ready s) = codes "ready" ∷ decimal s ∷ []
event_words (events.Ended s) = codes "ended" ∷ decimal s ∷ []
event_words (events.Bound s i fd) = codes "bound" ∷ decimal s ∷ decimal i ∷ decimal fd ∷ []
event_words (events.InUse s i) = codes "inuse" ∷ decimal s ∷ decimal i ∷ []
event_words (events.BindFailed s i) = codes "bindfailed" ∷ decimal s ∷ decimal i ∷ []
event_words (events.Adopted s i) = codes "adopted" ∷ decimal s ∷ decimal i ∷ []
event_words (events.AdoptFailed s i) = codes "adoptfailed" ∷ decimal s ∷ decimal i ∷ []
event_words (events.Received bytes fds) = codes "received" ∷ bytes_word bytes ∷ numbers_word fds ∷ []
event_words events.NoSenderYet = codes "nosender" ∷ []
event_words events.ReceiveFailed = codes "receivefailed" ∷ []
event_words events.Connected = codes "connected" ∷ []
event_words events.NotThere = codes "notthere" ∷ []
event_words events.StillConnecting = codes "connecting" ∷ []
event_words events.ConnectFailed = codes "connectfailed" ∷ []
event_words events.Sent = codes "sent" ∷ []
event_words events.SendBusy = codes "sendbusy" ∷ []
event_words events.SendFailed = codes "sendfailed" ∷ []
event_words (events.Arrived s i c peer) = codes "arrived" ∷ decimal s ∷ decimal i ∷ decimal c ∷ peer_text peer ∷ []
event_words (events.AcceptFailed s i n) = codes "acceptfailed" ∷ decimal s ∷ decimal i ∷ decimal n ∷ []
event_words (events.Set c ok) = codes "set" ∷ decimal c ∷ ok_word ok ∷ []
event_words (events.Shaken c ok) = codes "shaken" ∷ decimal c ∷ ok_word ok ∷ []
event_words (events.Finished c) = codes "finished" ∷ decimal c ∷ []
event_words (events.LoopEnded s i j) = codes "loopended" ∷ decimal s ∷ decimal i ∷ decimal j ∷ []
event_words (events.Signal kind) = codes "signal" ∷ signal_word kind ∷ []
event_words (events.Side side) = codes "side" ∷ side_word side ∷ []
event_words events.ChildReady = codes "childready" ∷ []
event_words events.ChildGone = codes "childgone" ∷ []
event_words events.DropFailed = codes "dropfailed" ∷ []

-- the words of an action's line
abbrev pub action_words : Action → List (List ℕ)
action_words (actions.Start s) = codes "start" ∷ decimal s ∷ []
action_words (actions.Fail s) = codes "fail" ∷ decimal s ∷ []
action_words (actions.Bind s i) = codes "bind" ∷ decimal s ∷ decimal i ∷ []
action_words (actions.Adopt s i fd) = codes "adopt" ∷ decimal s ∷ decimal i ∷ decimal fd ∷ []
action_words (actions.Close fd) = codes "close" ∷ decimal fd ∷ []
action_words actions.OpenReceiver = codes "openreceiver" ∷ []
action_words actions.TryReceive = codes "tryreceive" ∷ []
action_words actions.NotifyParent = codes "notifyparent" ∷ []
action_words actions.Connect = codes "connect" ∷ []
action_words (actions.Send bytes fds) = codes "send" ∷ bytes_word bytes ∷ numbers_word fds ∷ []
action_words (actions.Phase p ms) = codes "phase" ∷ phase_word p ∷ decimal ms ∷ []
action_words actions.Broadcast = codes "broadcast" ∷ []
action_words (actions.Judged c said) = codes "judged" ∷ decimal c ∷ yes_word said ∷ []
action_words (actions.Refuse c) = codes "refuse" ∷ decimal c ∷ []
action_words (actions.Settings c list) = codes "settings" ∷ decimal c ∷ map setting_word list
action_words (actions.Handshake c) = codes "handshake" ∷ decimal c ∷ []
action_words (actions.Serve c) = codes "serve" ∷ decimal c ∷ []
action_words (actions.Drop c) = codes "drop" ∷ decimal c ∷ []
action_words (actions.Rest s i) = codes "rest" ∷ decimal s ∷ decimal i ∷ []
action_words (actions.Cut c) = codes "cut" ∷ decimal c ∷ []
action_words (actions.Stop seconds) = codes "stop" ∷ decimal seconds ∷ []
action_words actions.Daemonize = codes "daemonize" ∷ []

-- the words of an entry's line: what was got stands behind `got`
abbrev pub entry_words : Entry → List (List ℕ)
entry_words (Got e) = codes "got" ∷ event_words e
entry_words (Told a) = action_words a

-- words with single spaces
abbrev pub spaced : List (List ℕ) → List ℕ
spaced ws = join_with_byte 32 ws

-- the line of an entry, which ends with a line feed
abbrev pub line_of : Entry → List ℕ
line_of e = spaced (entry_words e) ++ (10 ∷ [])

-- the lines of the entries, the oldest first
abbrev pub text_of : List Entry → List ℕ
text_of entries = flat_map line_of entries

-- the numbers of a setting are those of its types
abbrev pub SettingFits : Setting → Type 0
SettingFits NoDelay = Unit {0}
SettingFits (KeepAlive k) = (k.idle < 2 ^ 64) × (k.interval < 2 ^ 64) × (k.count < 2 ^ 64) × (k.user_timeout < 2 ^ 64)
SettingFits (Dscp n) = n < 2 ^ 8
SettingFits (SndBuf n) = n < 2 ^ 64
SettingFits (RcvBuf n) = n < 2 ^ 64

-- the numbers of an event are
abbrev pub EventFits : Event → Type 0
EventFits (events.Moment ms) = ms < 2 ^ 64
EventFits (events.Ready s) = s < 2 ^ 32
EventFits (events.Ended s) = s < 2 ^ 32
EventFits (events.Bound s i fd) = (s < 2 ^ 32) × (i < 2 ^ 32) × (fd < 2 ^ 64)
EventFits (events.InUse s i) = (s < 2 ^ 32) × (i < 2 ^ 32)
EventFits (events.BindFailed s i) = (s < 2 ^ 32) × (i < 2 ^ 32)
EventFits (events.Adopted s i) = (s < 2 ^ 32) × (i < 2 ^ 32)
EventFits (events.AdoptFailed s i) = (s < 2 ^ 32) × (i < 2 ^ 32)
EventFits (events.Received bytes fds) = All (λ b. b < 2 ^ 8) bytes × All (λ n. n < 2 ^ 64) fds
EventFits events.NoSenderYet = Unit {0}
EventFits events.ReceiveFailed = Unit {0}
EventFits events.Connected = Unit {0}
EventFits events.NotThere = Unit {0}
EventFits events.StillConnecting = Unit {0}
EventFits events.ConnectFailed = Unit {0}
EventFits events.Sent = Unit {0}
EventFits events.SendBusy = Unit {0}
EventFits events.SendFailed = Unit {0}
EventFits (events.Arrived s i c peer) = (s < 2 ^ 32) × (i < 2 ^ 32) × (c < 2 ^ 64) × PeerFits peer
EventFits (events.AcceptFailed s i n) = (s < 2 ^ 32) × (i < 2 ^ 32) × (n < 2 ^ 32)
EventFits (events.Set c ok) = c < 2 ^ 64
EventFits (events.Shaken c ok) = c < 2 ^ 64
EventFits (events.Finished c) = c < 2 ^ 64
EventFits (events.LoopEnded s i j) = (s < 2 ^ 32) × (i < 2 ^ 32) × (j < 2 ^ 64)
EventFits (events.Signal kind) = Unit {0}
EventFits (events.Side side) = Unit {0}
EventFits events.ChildReady = Unit {0}
EventFits events.ChildGone = Unit {0}
EventFits events.DropFailed = Unit {0}

-- the numbers of an action are
abbrev pub ActionFits : Action → Type 0
ActionFits (actions.Start s) = s < 2 ^ 32
ActionFits (actions.Fail s) = s < 2 ^ 32
ActionFits (actions.Bind s i) = (s < 2 ^ 32) × (i < 2 ^ 32)
ActionFits (actions.Adopt s i fd) = (s < 2 ^ 32) × (i < 2 ^ 32) × (fd < 2 ^ 64)
ActionFits (actions.Close fd) = fd < 2 ^ 64
ActionFits actions.OpenReceiver = Unit {0}
ActionFits actions.TryReceive = Unit {0}
ActionFits actions.NotifyParent = Unit {0}
ActionFits actions.Connect = Unit {0}
ActionFits (actions.Send bytes fds) = All (λ b. b < 2 ^ 8) bytes × All (λ n. n < 2 ^ 64) fds
ActionFits (actions.Phase p ms) = ms < 2 ^ 64
ActionFits actions.Broadcast = Unit {0}
ActionFits (actions.Judged c said) = c < 2 ^ 64
ActionFits (actions.Refuse c) = c < 2 ^ 64
ActionFits (actions.Settings c list) = (c < 2 ^ 64) × All SettingFits list
ActionFits (actions.Handshake c) = c < 2 ^ 64
ActionFits (actions.Serve c) = c < 2 ^ 64
ActionFits (actions.Drop c) = c < 2 ^ 64
ActionFits (actions.Rest s i) = (s < 2 ^ 32) × (i < 2 ^ 32)
ActionFits (actions.Cut c) = c < 2 ^ 64
ActionFits (actions.Stop seconds) = seconds < 2 ^ 64
ActionFits actions.Daemonize = Unit {0}

-- the numbers of an entry are
abbrev pub EntryFits : Entry → Type 0
EntryFits (Got e) = EventFits e
EntryFits (Told a) = ActionFits a
