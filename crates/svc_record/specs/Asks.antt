-- Asks and their answers.
use Rattle.std.specs.Prelude.{ℕ, Bool, true, false, ◌==◌, ◌&&◌, ◌||◌, List, [], ◌∷◌, if◌then◌else◌}
use Rattle.svc_record.specs.declared.entry.Entry.{Entry}
use Rattle.svc_record.specs.declared.entry.Entry.TheVariants.{Got, Told}
use Rattle.svc_record.specs.declared.action.Action.TheVariants.{Bind, Adopt, TryReceive, Connect, Send, Handshake, Settings as TellSettings, Daemonize}
use Rattle.svc_record.specs.declared.event.Event.TheVariants.{Bound, InUse, BindFailed, Adopted, AdoptFailed, Received, NoSenderYet, ReceiveFailed, Connected, NotThere, StillConnecting, ConnectFailed, Sent, SendBusy, SendFailed, Set, Shaken, Side}
use Rattle.svc_record.specs.Record.{Record}

-- of the asks and the answers of a form, the newest entry is an ask
abbrev pub is_open : (Entry → Bool) → (Entry → Bool) → Record → Bool
is_open ask answer [] = false
is_open ask answer (e ∷ before) = if ask e then true else (if answer e then false else is_open ask answer before)

-- the entry tells `Bind` of the endpoint
abbrev pub is_bind : ℕ → ℕ → Entry → Bool
is_bind s i (Told (Bind t j)) = t == s && j == i
is_bind s i _ = false

-- the event is `Bound` or `InUse` or `BindFailed` of the endpoint
abbrev pub is_bind_answer : ℕ → ℕ → Entry → Bool
is_bind_answer s i (Got (Bound t j fd)) = t == s && j == i
is_bind_answer s i (Got (InUse t j)) = t == s && j == i
is_bind_answer s i (Got (BindFailed t j)) = t == s && j == i
is_bind_answer s i _ = false

-- a bind of the endpoint is open
abbrev pub is_bind_open : Record → ℕ → ℕ → Bool
is_bind_open q s i = is_open (is_bind s i) (is_bind_answer s i) q

-- the entry tells `Adopt` of the endpoint
abbrev pub is_adopt : ℕ → ℕ → Entry → Bool
is_adopt s i (Told (Adopt t j fd)) = t == s && j == i
is_adopt s i _ = false

-- the event is `Adopted` or `AdoptFailed` of the endpoint
abbrev pub is_adopt_answer : ℕ → ℕ → Entry → Bool
is_adopt_answer s i (Got (Adopted t j)) = t == s && j == i
is_adopt_answer s i (Got (AdoptFailed t j)) = t == s && j == i
is_adopt_answer s i _ = false

-- an adoption of the endpoint is open
abbrev pub is_adopt_open : Record → ℕ → ℕ → Bool
is_adopt_open q s i = is_open (is_adopt s i) (is_adopt_answer s i) q

-- the descriptor of the newest Adopt of the endpoint, as a list of at most one
abbrev pub last_adopt : Record → ℕ → ℕ → List ℕ
last_adopt [] s i = []
last_adopt (Told (Adopt t j fd) ∷ before) s i = if t == s && j == i then fd ∷ [] else last_adopt before s i
last_adopt (e ∷ before) s i = last_adopt before s i

-- an ask of the endpoint is open
abbrev pub is_ask_open : Record → ℕ → ℕ → Bool
is_ask_open q s i = is_bind_open q s i || is_adopt_open q s i

-- the entry tells `TryReceive`
abbrev pub is_try : Entry → Bool
is_try (Told TryReceive) = true
is_try _ = false

-- the event is `Received` or `NoSenderYet` or `ReceiveFailed`
abbrev pub is_try_answer : Entry → Bool
is_try_answer (Got (Received bytes fds)) = true
is_try_answer (Got NoSenderYet) = true
is_try_answer (Got ReceiveFailed) = true
is_try_answer _ = false

-- a try to receive is open
abbrev pub is_try_open : Record → Bool
is_try_open q = is_open is_try is_try_answer q

-- the entry tells `Connect`
abbrev pub is_connect : Entry → Bool
is_connect (Told Connect) = true
is_connect _ = false

-- the event is `Connected` or `NotThere` or `StillConnecting` or `ConnectFailed`
abbrev pub is_connect_answer : Entry → Bool
is_connect_answer (Got Connected) = true
is_connect_answer (Got NotThere) = true
is_connect_answer (Got StillConnecting) = true
is_connect_answer (Got ConnectFailed) = true
is_connect_answer _ = false

-- a connect is open
abbrev pub is_connect_open : Record → Bool
is_connect_open q = is_open is_connect is_connect_answer q

-- the entry tells `Send`
abbrev pub is_send : Entry → Bool
is_send (Told (Send bytes fds)) = true
is_send _ = false

-- the event is `Sent` or `SendBusy` or `SendFailed`
abbrev pub is_send_answer : Entry → Bool
is_send_answer (Got Sent) = true
is_send_answer (Got SendBusy) = true
is_send_answer (Got SendFailed) = true
is_send_answer _ = false

-- a send is open
abbrev pub is_send_open : Record → Bool
is_send_open q = is_open is_send is_send_answer q

-- the entry tells `Settings` with this number
abbrev pub is_settings : ℕ → Entry → Bool
is_settings c (Told (TellSettings n list)) = n == c
is_settings c _ = false

-- the event is `Set` with this number
abbrev pub is_set : ℕ → Entry → Bool
is_set c (Got (Set n ok)) = n == c
is_set c _ = false

-- the settings of the connection are open
abbrev pub is_settings_open : Record → ℕ → Bool
is_settings_open q c = is_open (is_settings c) (is_set c) q

-- the entry tells `Handshake` with this number
abbrev pub is_handshake : ℕ → Entry → Bool
is_handshake c (Told (Handshake n)) = n == c
is_handshake c _ = false

-- the event is `Shaken` with this number
abbrev pub is_shaken : ℕ → Entry → Bool
is_shaken c (Got (Shaken n ok)) = n == c
is_shaken c _ = false

-- its handshake is open
abbrev pub is_handshake_open : Record → ℕ → Bool
is_handshake_open q c = is_open (is_handshake c) (is_shaken c) q

-- the entry tells `Daemonize`
abbrev pub is_daemonize : Entry → Bool
is_daemonize (Told Daemonize) = true
is_daemonize _ = false

-- the event is `Side`
abbrev pub is_side : Entry → Bool
is_side (Got (Side side)) = true
is_side _ = false

-- the fork is awaited
abbrev pub is_daemonize_open : Record → Bool
is_daemonize_open q = is_open is_daemonize is_side q
