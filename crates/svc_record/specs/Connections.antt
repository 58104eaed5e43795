-- What becomes of a connection.
use Rattle.std.specs.Prelude.{ℕ, Bool, true, false, ◌==◌, ◌≡◌, ◌++◌, not, ◌&&◌, ◌||◌, List, [], ◌∷◌, Option, Some, None, map, filter, if◌then◌else◌}
use Rattle.std.specs.List.{list_any, list_all, find}
use Rattle.svc_record.specs.declared.plan.Plan.{Plan}
use Rattle.svc_record.specs.declared.entry.Entry.{Entry}
use Rattle.svc_record.specs.declared.entry.Entry.TheVariants.{Got, Told}
use Rattle.svc_record.specs.declared.action.Action.TheVariants.{Judged, Refuse, Settings as TellSettings, Handshake, Serve, Drop, Cut, Rest}
use Rattle.svc_record.specs.declared.event.Event.TheVariants.{Arrived, AcceptFailed, Set, Shaken, Finished}
use Rattle.svc_base.specs.declared.settings.Setting.{Setting}
use Rattle.svc_base.specs.declared.settings.Setting.TheVariants.{NoDelay, KeepAlive, Dscp, SndBuf, RcvBuf}
use Rattle.svc_base.specs.declared.settings.TcpKeepalive.{TcpKeepalive}
use Rattle.svc_socket.specs.declared.peer.Peer.{Peer}
use Rattle.svc_socket.specs.declared.peer.Peer.TheVariants.{Unknown, Inet}
use Rattle.svc_socket.specs.declared.peer.PeerAddr.{PeerAddr}
use Rattle.svc_record.specs.Record.{Record, has, times, once_if, before_runtimes, EachEntry, each_entry}
use Rattle.svc_record.specs.Plans.{is_endpoint, is_unix, options_of, filter_of}
use Rattle.svc_record.specs.Asks.{is_settings, is_handshake}

-- a connection that has arrived
pub record Arrival : Type 0 where
  pub service : ℕ
  pub endpoint : ℕ
  pub number : ℕ
  pub peer : Peer

-- the connections that have arrived, the newest first
abbrev pub arrivals : Record → List Arrival
arrivals [] = []
arrivals (Got (Arrived s i c peer) ∷ before) = record { service = s; endpoint = i; number = c; peer = peer } ∷ arrivals before
arrivals (e ∷ before) = arrivals before

-- the event is `Arrived` with this number
abbrev pub is_arrival : ℕ → Entry → Bool
is_arrival c (Got (Arrived s i n peer)) = n == c
is_arrival c _ = false

-- the entry tells `Judged` with this number
abbrev pub is_judged : ℕ → Entry → Bool
is_judged c (Told (Judged n said)) = n == c
is_judged c _ = false

-- the connection was judged so
abbrev pub is_judged_as : Bool → ℕ → Entry → Bool
is_judged_as true c (Told (Judged n true)) = n == c
is_judged_as false c (Told (Judged n false)) = n == c
is_judged_as said c _ = false

-- the entry tells `Refuse` with this number
abbrev pub is_refuse : ℕ → Entry → Bool
is_refuse c (Told (Refuse n)) = n == c
is_refuse c _ = false

-- the entry tells `Serve` with this number
abbrev pub is_serve : ℕ → Entry → Bool
is_serve c (Told (Serve n)) = n == c
is_serve c _ = false

-- the entry tells `Drop` with this number
abbrev pub is_drop : ℕ → Entry → Bool
is_drop c (Told (Drop n)) = n == c
is_drop c _ = false

-- the entry tells `Cut` with this number
abbrev pub is_cut : ℕ → Entry → Bool
is_cut c (Told (Cut n)) = n == c
is_cut c _ = false

-- the event is `Finished` with this number
abbrev pub is_finished : ℕ → Entry → Bool
is_finished c (Got (Finished n)) = n == c
is_finished c _ = false

-- the settings were applied, or weren't; and the handshake
abbrev pub is_set_as : Bool → ℕ → Entry → Bool
is_set_as true c (Got (Set n true)) = n == c
is_set_as false c (Got (Set n false)) = n == c
is_set_as ok c _ = false

-- the event is `Shaken` with this number
abbrev pub is_shaken_as : Bool → ℕ → Entry → Bool
is_shaken_as true c (Got (Shaken n true)) = n == c
is_shaken_as false c (Got (Shaken n false)) = n == c
is_shaken_as ok c _ = false

-- neither refused nor dropped nor finished
abbrev pub goes_on : Record → ℕ → Bool
goes_on q c = not ((has (is_refuse c) q || has (is_drop c) q) || has (is_finished c) q)

-- the numbers of the connections that arrived, the newest first
abbrev pub arrived_numbers : Record → List ℕ
arrived_numbers q = map (λ (x : Arrival). x.number) (arrivals q)

-- the numbers of the live connections, the newest first
abbrev pub live_connections : Record → List ℕ
live_connections q = filter (λ c. goes_on q c && not (has (is_cut c) q)) (arrived_numbers q)

-- the connection is live
abbrev pub is_live_connection : Record → ℕ → Bool
is_live_connection q c = list_any (λ n. n == c) (live_connections q)

-- the two settings are equal
abbrev pub same_keepalive : TcpKeepalive → TcpKeepalive → Bool
same_keepalive a b = (a.idle == b.idle && a.interval == b.interval) && (a.count == b.count && a.user_timeout == b.user_timeout)

-- the two are equal
abbrev pub same_setting : Setting → Setting → Bool
same_setting NoDelay NoDelay = true
same_setting (KeepAlive a) (KeepAlive b) = same_keepalive a b
same_setting (Dscp a) (Dscp b) = a == b
same_setting (SndBuf a) (SndBuf b) = a == b
same_setting (RcvBuf a) (RcvBuf b) = a == b
same_setting _ _ = false

-- the two lists are equal
abbrev pub same_settings : List Setting → List Setting → Bool
same_settings [] [] = true
same_settings (a ∷ more) (b ∷ others) = same_setting a b && same_settings more others
same_settings _ _ = false

-- a setting on keeping alive
abbrev pub is_keepalive : Setting → Bool
is_keepalive (KeepAlive x) = true
is_keepalive _ = false

-- a setting on DSCP
abbrev pub is_dscp : Setting → Bool
is_dscp (Dscp x) = true
is_dscp _ = false

-- a setting on the send buffer
abbrev pub is_send_buffer : Setting → Bool
is_send_buffer (SndBuf x) = true
is_send_buffer _ = false

-- a setting on the receive buffer
abbrev pub is_receive_buffer : Setting → Bool
is_receive_buffer (RcvBuf x) = true
is_receive_buffer _ = false

-- the first that passes the test, as a list of at most one
abbrev pub first_of : (Setting → Bool) → List Setting → List Setting
first_of test [] = []
first_of test (x ∷ more) = if test x then x ∷ [] else first_of test more

-- the settings of the endpoint's connections: no delay, and for an endpoint that isn't Unix the first option of each other sort
abbrev pub settings_list : Plan → ℕ → ℕ → List Setting
settings_list p s i =
    NoDelay ∷ (if is_unix p s i then [] else
    (first_of is_keepalive (options_of p s i)
    ++ (first_of is_dscp (options_of p s i) ++ (first_of is_send_buffer (options_of p s i) ++ first_of is_receive_buffer (options_of p s i)))))

-- the entry tells these settings of the connection
abbrev pub is_settings_of : List Setting → ℕ → Entry → Bool
is_settings_of list c (Told (TellSettings n told)) = n == c && same_settings told list
is_settings_of list c _ = false

-- the peer is known
abbrev pub is_known : Peer → Bool
is_known Unknown = false
is_known _ = true

-- the endpoint has a filter
abbrev pub has_filter : Plan → ℕ → ℕ → Bool
has_filter p s i = is_some_filter (filter_of p s i)
  where
    is_some_filter : Option ℕ → Bool
    is_some_filter (Some f) = true
    is_some_filter None = false

-- the connection was there at `ShutdownRuntimes`, and went on
abbrev pub is_cut_off : Record → ℕ → Bool
is_cut_off q c = has (is_arrival c) (before_runtimes q) && goes_on (before_runtimes q) c

-- each entry on the connection stands where it is due, once, and not at all elsewhere
abbrev pub connection_right : Plan → Record → Arrival → Bool
connection_right p q x = ((((once_if (is_known x.peer) (is_judged x.number) q
    && (has_filter p x.service x.endpoint || not (has (is_judged_as false x.number) q)))
    && once_if (has (is_judged_as false x.number) q) (is_refuse x.number) q)
    && (once_if (not (has (is_judged_as false x.number) q)) (is_settings x.number) q
    && once_if (not (has (is_judged_as false x.number) q)) (is_settings_of (settings_list p x.service x.endpoint) x.number) q))
    && (once_if (has (is_set_as true x.number) q) (is_handshake x.number) q
    && once_if (has (is_shaken_as true x.number) q) (is_serve x.number) q))
    && (once_if (has (is_set_as false x.number) q || has (is_shaken_as false x.number) q) (is_drop x.number) q
    && once_if (is_cut_off q x.number) (is_cut x.number) q)

-- accepting failed since too many files are open
abbrev pub is_full : Entry → Bool
is_full (Got (AcceptFailed s i n)) = n == 24
is_full _ = false

-- the entry tells `Rest`
abbrev pub is_rest : Entry → Bool
is_rest (Told (Rest s i)) = true
is_rest _ = false

-- the last event is such a failure of the endpoint, and no rest was told since
abbrev pub is_full_at : Record → ℕ → ℕ → Bool
is_full_at [] s i = false
is_full_at (Got (AcceptFailed t j n) ∷ before) s i = (t == s && j == i) && n == 24
is_full_at (Got e ∷ before) s i = false
is_full_at (Told (Rest t j) ∷ before) s i = false
is_full_at (Told a ∷ before) s i = is_full_at before s i

-- a loop rests only after such a failure
abbrev pub rest_due : Entry → Record → Bool
rest_due (Told (Rest s i)) before = is_full_at before s i
rest_due _ before = true

-- and after each of them
abbrev pub rests_right : Record → Bool
rests_right q = times is_rest q == times is_full q

-- each connection is right, and loops rest exactly after the failures that ask for it
abbrev pub conn_right : Plan → Record → Bool
conn_right p q = (list_all (connection_right p q) (arrivals q) && rests_right q) && each_entry rest_due q

-- the peer as a filter is asked for it
abbrev pub asked_peer : Peer → Option PeerAddr
asked_peer (Inet a) = Some a
asked_peer _ = None

-- the connection with this number
abbrev pub arrival_of : Record → ℕ → Option Arrival
arrival_of q c = find (λ (x : Arrival). x.number == c) (arrivals q)

-- the connection came to an endpoint with this filter
abbrev pub is_filter : Plan → ℕ → Arrival → Bool
is_filter p f x = same (filter_of p x.service x.endpoint)
  where
    same : Option ℕ → Bool
    same (Some n) = n == f
    same None = false

-- the peers for which the filter was asked, the first one first
abbrev pub peers_asked : Plan → Record → ℕ → List (Option PeerAddr)
peers_asked p [] f = []
peers_asked p (Told (Judged c said) ∷ before) f = peers_asked p before f ++ of (arrival_of before c)
  where
    of : Option Arrival → List (Option PeerAddr)
    of (Some x) = if is_filter p f x then asked_peer x.peer ∷ [] else []
    of None = []
peers_asked p (e ∷ before) f = peers_asked p before f

-- both say the same
abbrev pub same_answer : Bool → Bool → Bool
same_answer true said = said
same_answer false said = not said

-- what a filter answers to a peer after it was asked for others
abbrev pub Verdict : Type 0
Verdict = ℕ → List (Option PeerAddr) → Option PeerAddr → Bool

-- a judgement of an endpoint with a filter is that filter's verdict
abbrev pub said_right : Verdict → Plan → Entry → Record → Bool
said_right verdict p (Told (Judged c said)) before = of (arrival_of before c)
  where
    by : Arrival → Option ℕ → Bool
    by x (Some f) = same_answer said (verdict f (peers_asked p before f) (asked_peer x.peer))
    by x None = said

    of : Option Arrival → Bool
    of (Some x) = by x (filter_of p x.service x.endpoint)
    of None = false
said_right verdict p _ before = true

-- the same as a fact
pub record ConnRight (p : Plan) (q : Record) : Type 0 where
  pub each : list_all (connection_right p q) (arrivals q) ≡ true
  pub rests : rests_right q ≡ true
  pub in_turn : EachEntry (λ e before. rest_due e before ≡ true) q

-- stronger: a loop that rests is of an endpoint of the plan, and what is told of a connection is of one that has arrived
abbrev pub connection_known : Plan → Entry → Record → Bool
connection_known p (Told (Rest s i)) before = is_endpoint p s i
connection_known p (Told (Judged c said)) before = has (is_arrival c) before
connection_known p (Told (Refuse c)) before = has (is_arrival c) before
connection_known p (Told (TellSettings c list)) before = has (is_arrival c) before
connection_known p (Told (Handshake c)) before = has (is_arrival c) before
connection_known p (Told (Serve c)) before = has (is_arrival c) before
connection_known p (Told (Drop c)) before = has (is_arrival c) before
connection_known p (Told (Cut c)) before = has (is_arrival c) before
connection_known p _ before = true
