-- What each call makes of the part on connections, and what it tells.
use Rattle.std.specs.Prelude.{ℕ, Bool, ◌==◌, not, ◌&&◌, List, [], ◌∷◌, ◌++◌, map, filter, nat_lt, if◌then◌else◌}
use Rattle.svc_base.specs.declared.settings.Setting.{Setting}
use Rattle.svc_base.specs.declared.settings.Setting.TheVariants.{NoDelay}
use Rattle.svc_socket.specs.declared.peer.Peer.{Peer}
use Rattle.svc_record.specs.declared.action.Action.{Action}
use Rattle.svc_record.specs.declared.action.Action.TheVariants.{Judged, Refuse, Settings as TellSettings, Handshake, Serve, Drop, Cut, Rest}
use Rattle.svc_record.specs.Connections.{is_known, first_of, is_keepalive, is_dscp, is_send_buffer, is_receive_buffer}
use Rattle.svc_base.specs.NumberSets.{put_number}
use Rattle.svc_connections.specs.declared.settings.Sort.{Sort}
use Rattle.svc_connections.specs.declared.settings.Sort.TheVariants.{KeepAlive, Dscp, SendBuffer, ReceiveBuffer}
use Rattle.svc_connections.specs.declared.stage.Connection.{Connection}
use Rattle.svc_connections.specs.declared.stage.Stage.{Stage}
use Rattle.svc_connections.specs.declared.stage.Stage.TheVariants as stages
use Rattle.svc_connections.specs.ConnectionsData.{ConnectionsData}
use Rattle.svc_connections.specs.ConnectionsState.{numbers}

-- the setting is of this sort
abbrev pub is_of_sort : Sort → Setting → Bool
is_of_sort KeepAlive = is_keepalive
is_of_sort Dscp = is_dscp
is_of_sort SendBuffer = is_send_buffer
is_of_sort ReceiveBuffer = is_receive_buffer

-- the settings of an endpoint's connections: no delay, and for one that isn't Unix the first option of each sort
abbrev pub settings_for : Bool → List Setting → List Setting
settings_for unix options =
    NoDelay ∷ (if unix then [] else
    (first_of is_keepalive options ++ (first_of is_dscp options ++ (first_of is_send_buffer options ++ first_of is_receive_buffer options))))

-- nothing has arrived
abbrev pub nothing : ConnectionsData
nothing = record { live = []; came = [] }

-- the live connections with one more, in ascending number; one that is there stays as it is
abbrev pub put_connection : Connection → List Connection → List Connection
put_connection x [] = x ∷ []
put_connection x (y ∷ more) = if nat_lt x.number y.number then x ∷ y ∷ more else (if y.number == x.number then y ∷ more else y ∷ put_connection x more)

-- the connection, at this stage where it has the number
abbrev pub moved : ℕ → Stage → Connection → Connection
moved c stage x = if x.number == c then record { number = x.number; stage = stage } else x

-- the live connections, the one with this number at this stage
abbrev pub at_stage : ℕ → Stage → List Connection → List Connection
at_stage c stage live = map (moved c stage) live

-- the live connections without the one with this number
abbrev pub without : ℕ → List Connection → List Connection
without c live = filter (λ (x : Connection). not (x.number == c)) live

-- the connection is judged, and the answer is no
abbrev pub is_refused : Peer → Bool → Bool
is_refused peer said = is_known peer && not said

-- the part after a connection arrived that is refused or set up
abbrev pub taken_in : ℕ → Bool → ConnectionsData → ConnectionsData
taken_in c refused d =
    record { live = if refused then d.live else put_connection (record { number = c; stage = stages.Setting }) d.live; came = put_number c d.came }

-- the part after a connection arrived, of which its filter says this
abbrev pub arrived : ℕ → Peer → Bool → ConnectionsData → ConnectionsData
arrived c peer said d = taken_in c (is_refused peer said) d

-- a known peer is judged
abbrev pub judged_told : ℕ → Peer → Bool → List Action
judged_told c peer said = if is_known peer then Judged c said ∷ [] else []

-- the connection is refused, or these settings are applied
abbrev pub begun_told : ℕ → Peer → Bool → List Setting → List Action
begun_told c peer said list = if is_refused peer said then Refuse c ∷ [] else TellSettings c list ∷ []

-- what an arrival tells
abbrev pub arrived_told : ℕ → Peer → Bool → List Setting → List Action
arrived_told c peer said list = judged_told c peer said ++ begun_told c peer said list

-- the part after the connection went on to the stage, or failed
abbrev pub gone_on : ℕ → Bool → Stage → ConnectionsData → ConnectionsData
gone_on c ok stage d = record { live = if ok then at_stage c stage d.live else without c d.live; came = d.came }

-- what the answer to the settings tells
abbrev pub set_told : ℕ → Bool → List Action
set_told c ok = if ok then Handshake c ∷ [] else Drop c ∷ []

-- what the answer to the handshake tells
abbrev pub shaken_told : ℕ → Bool → List Action
shaken_told c ok = if ok then Serve c ∷ [] else Drop c ∷ []

-- the part after the application is done with the connection
abbrev pub finished : ℕ → ConnectionsData → ConnectionsData
finished c d = record { live = without c d.live; came = d.came }

-- what it tells that accepting failed with this number
abbrev pub rest_told : ℕ → ℕ → ℕ → List Action
rest_told s i number = if number == 24 then Rest s i ∷ [] else []

-- each live connection is cut, in ascending number
abbrev pub cuts : List Connection → List Action
cuts live = map Cut (numbers live)
