-- What becomes of a connection that came.
use Rattle.std.specs.Prelude.{◌≡◌, ◌≢◌, ℕ, ◌+◌, ◌≤◌, Bool, true, false, List, [], ◌∷◌, ◌++◌, map, length, slice_get, Option, Some, None}
use Rattle.std.specs.List.{filter_map}
use Rattle.svc_base.specs.Streams.{Rose}
use Rattle.svc_base.specs.declared.settings.Setting.{Setting}
use Rattle.svc_base.specs.Calls.{Adds, Stays}
use Rattle.svc_socket.specs.OptionLists.{settings_of}
use Rattle.svc_socket.specs.declared.peer.PeerAddr.{PeerAddr}
use Rattle.svc_streams.specs.HandshakeData.{HandshakeData}
use Rattle.svc_streams.specs.Verdicts.{verdict_at}
use Rattle.svc_streams.specs.declared.listeners.handshake.HandshakePoll.TheVariants.{Pending}
use Rattle.svc_socket.specs.declared.peer.Peer.{Peer}
use Rattle.svc_socket.specs.declared.peer.Peer.TheVariants as peers
use Rattle.svc_listen.specs.Addresses.{options_of}
use Rattle.svc_listen.specs.Endpoints.{default_buffer}
use Rattle.svc_listen.specs.AcceptingData.{AcceptingData, IsAccepted, IsRefused}
use Rattle.svc_listen.specs.declared.listeners.l4.ServerAddress.{ServerAddress}
use Rattle.svc_listen.specs.declared.accepting.Arrival.TheVariants as arrivals
use Rattle.svc_listen.specs.declared.accepting.AcceptingCall.{AcceptingCall}
use Rattle.svc_listen.specs.declared.accepting.AcceptingCall.TheVariants as calls
use Rattle.svc_listen.specs.declared.listeners.l4.arrivals.AcceptAnswer.{AcceptAnswer}
use Rattle.svc_listen.specs.declared.listeners.l4.arrivals.AcceptAnswer.TheVariants.{Stream, Refused, NotYet, AcceptFailed, SettingsFailed}
use Rattle.svc_listen.specs.declared.listeners.l4.arrivals.Given.{Given}

-- what a filter answers to a peer after it was asked these
abbrev pub Verdict : Type 0 → Type 0
Verdict F = F → List (Option PeerAddr) → Option PeerAddr → Bool

-- the filter of this number was asked about a peer, by its meaning; the others are what they were
pub record Asks {F : Type 0} (verdict : Verdict F) (number : ℕ) (x : Option PeerAddr) (old new : List F) (said : Bool) : Type 0 where
  pub answer : said ≡ verdict_at verdict old number [] x
  pub next : (asked : List (Option PeerAddr)) (y : Option PeerAddr) → verdict_at verdict new number asked y ≡ verdict_at verdict old number (x ∷ asked) y
  pub others : (k : ℕ) → k ≢ number → slice_get new k ≡ slice_get old k
  pub count : length new ≡ length old

-- no filter was asked, and that means yes
pub record IsUnasked {F : Type 0} (old new : List F) (said : Bool) : Type 0 where
  pub answer : said ≡ true
  pub same : new ≡ old

-- the filter, where there is one, was asked exactly where the peer is known; a peer of the Unix domain is asked as None
abbrev pub Judges : {F : Type 0} → Verdict F → Option ℕ → Peer → List F → List F → Bool → Type 0
Judges verdict None peer old new said = IsUnasked old new said
Judges verdict (Some number) peers.Unknown old new said = IsUnasked old new said
Judges verdict (Some number) peers.Unix old new said = Asks verdict number None old new said
Judges verdict (Some number) (peers.Inet addr) old new said = Asks verdict number (Some addr) old new said

-- those that are given
abbrev pub given : List (Option Setting) → List Setting
given steps = filter_map (λ step. step) steps

-- the calls by which these were set
abbrev pub set_calls : ℕ → List Setting → List AcceptingCall
set_calls c settings = map (λ s. calls.Set c s true) settings

-- all of them were set
pub record AllSet (c : ℕ) (settings : List Setting) (before now : AcceptingData) : Type 0 where
  pub called : Adds before.called now.called (set_calls c settings)
  pub stays : Stays before.called now.called before.room now.room
  pub place : before.room ≤ now.room + length settings
  pub faults : now.faults ≡ before.faults
  pub waits : now.waits ≡ before.waits

-- those before one of them were set; that one failed, and no later one was tried
pub record SetFails (c : ℕ) (settings : List Setting) (before now : AcceptingData) : Type 0 where
  pub front : List Setting
  pub failed : Setting
  pub back : List Setting
  pub all : settings ≡ front ++ failed ∷ back
  pub called : Adds before.called now.called (set_calls c front ++ calls.Set c failed false ∷ [])
  pub stays : Stays before.called now.called before.room now.room
  pub place : before.room ≤ now.room + length settings
  pub faults : Rose before.faults now.faults
  pub waits : now.waits ≡ before.waits

-- they were set in order, up to the first failure, and this tells whether all were
abbrev pub Sets : ℕ → List Setting → AcceptingData → AcceptingData → Bool → Type 0
Sets c settings before now true = AllSet c settings before now
Sets c settings before now false = SetFails c settings before now

-- neither TLS nor a callback, and buffers of the default sizes
abbrev pub plain : Given
plain = record { tls = false; buffer = default_buffer; callback = None }

-- a connection before its handshake: it has a default buffer until its first poll
abbrev pub fresh : ℕ → Peer → Given → HandshakeData
fresh c peer with = record {
  stream = record { c = c; buffer = default_buffer; peer = peer; head = [] };
  tls = with.tls;
  buffer = with.buffer;
  callback = with.callback;
  first = None;
  past = false;
  answer = Pending;
}

-- one arrival was taken. The connection is refused where the filter was asked and said no, and where a
-- setting couldn't be set
pub data Accepts {A F : Type 0} (seen : A → AcceptingData) (verdict : Verdict F) (address : ServerAddress) (filter : Option ℕ) (with : Given) (before now : A)
    (old new : List F) : AcceptAnswer → Type 0 where
  none_yet : IsAccepted (seen before) (seen now) arrivals.NotYet → new ≡ old → Accepts seen verdict address filter with before now old new NotYet
  failed : (n : ℕ) → IsAccepted (seen before) (seen now) (arrivals.Failed n) → new ≡ old
      → Accepts seen verdict address filter with before now old new (AcceptFailed n)
  refused : (c : ℕ) (peer : Peer) (came : A) → IsAccepted (seen before) (seen came) (arrivals.Came c peer) → Judges verdict filter peer old new false
      → IsRefused (seen came) (seen now) c
      → Accepts seen verdict address filter with before now old new (Refused c)
  unset : (c : ℕ) (peer : Peer) (came tried : A) → IsAccepted (seen before) (seen came) (arrivals.Came c peer) → Judges verdict filter peer old new true
      → SetFails c (settings_of (options_of address)) (seen came) (seen tried)
      → IsRefused (seen tried) (seen now) c → Accepts seen verdict address filter with before now old new (SettingsFailed c)
  taken : (c : ℕ) (peer : Peer) (came : A) → IsAccepted (seen before) (seen came) (arrivals.Came c peer) → Judges verdict filter peer old new true
      → AllSet c (settings_of (options_of address)) (seen came) (seen now)
      → Accepts seen verdict address filter with before now old new (Stream (fresh c peer with))

-- which count tells why there is no connection: that of the faults, or that of the waits
abbrev pub AcceptCause : AcceptAnswer → AcceptingData → AcceptingData → Type 0
AcceptCause (Stream stream) before now = Unit {0}
AcceptCause (Refused c) before now = Unit {0}
AcceptCause NotYet before now = Rose before.waits now.waits
AcceptCause (AcceptFailed n) before now = Rose before.faults now.faults
AcceptCause (SettingsFailed c) before now = Rose before.faults now.faults

-- a connection that is taken has what is given, and wasn't polled yet
pub record Has (with : Given) (stream : HandshakeData) : Type 0 where
  pub tls : stream.tls ≡ with.tls
  pub buffer : stream.buffer ≡ with.buffer
  pub callback : stream.callback ≡ with.callback
  pub answer : stream.answer ≡ Pending

abbrev pub HasGiven : Given → AcceptAnswer → Type 0
HasGiven with (Stream stream) = Has with stream
HasGiven with (Refused c) = Unit {0}
HasGiven with NotYet = Unit {0}
HasGiven with (AcceptFailed n) = Unit {0}
HasGiven with (SettingsFailed c) = Unit {0}
