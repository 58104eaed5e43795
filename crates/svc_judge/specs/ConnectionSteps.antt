-- Parts of the test of a connection.
use Rattle.std.specs.Prelude.{ℕ, Bool, true, false, not, ◌&&◌, ◌||◌, ◌++◌, List, [], ◌∷◌, Option, Some, None, if◌then◌else◌}
use Rattle.std.specs.List.{list_all}
use Rattle.svc_base.specs.declared.settings.Setting.{Setting}
use Rattle.svc_socket.specs.declared.peer.Peer.{Peer}
use Rattle.svc_record.specs.declared.plan.Plan.{Plan}
use Rattle.svc_record.specs.Record.{Record, has, once_if}
use Rattle.svc_record.specs.Plans.{is_unix, options_of}
use Rattle.svc_record.specs.Asks.{is_settings}
use Rattle.svc_record.specs.Connections.{Arrival, arrivals, is_known, has_filter, is_judged, is_judged_as, is_refuse, is_settings_of, settings_list, first_of, connection_right, same_setting, is_keepalive, is_dscp, is_send_buffer, is_receive_buffer}
use Rattle.svc_judge.specs.declared.connections.Sort.{Sort}
use Rattle.svc_judge.specs.declared.connections.Sort.TheVariants.{KeepAlive, Dscp, SendBuffer, ReceiveBuffer}

-- the setting is of this sort
abbrev pub sort_test : Sort → Setting → Bool
sort_test KeepAlive = is_keepalive
sort_test Dscp = is_dscp
sort_test SendBuffer = is_send_buffer
sort_test ReceiveBuffer = is_receive_buffer

-- the settings without these at their front; none where they don't begin with them
abbrev pub without_front : List Setting → Option (List Setting) → Option (List Setting)
without_front [] told = told
without_front (x ∷ more) None = None
without_front (x ∷ more) (Some []) = None
without_front (x ∷ more) (Some (y ∷ others)) = if same_setting y x then without_front more (Some others) else None

-- the connection of these parts
abbrev pub arrival : ℕ → ℕ → ℕ → Peer → Arrival
arrival s i c peer = record { service = s; endpoint = i; number = c; peer = peer }

-- what a filter said of the connection stands where it is due, and what is told for it
abbrev pub judgement_right : Plan → Record → ℕ → ℕ → ℕ → Peer → Bool
judgement_right p q s i c peer = ((once_if (is_known peer) (is_judged c) q
    && (has_filter p s i || not (has (is_judged_as false c) q)))
    && once_if (has (is_judged_as false c) q) (is_refuse c) q)
    && (once_if (not (has (is_judged_as false c) q)) (is_settings c) q
    && once_if (not (has (is_judged_as false c) q)) (is_settings_of (settings_list p s i) c) q)

-- each connection is right
abbrev pub connections_right : Plan → Record → Bool
connections_right p q = list_all (connection_right p q) (arrivals q)

-- the first option of each sort
abbrev pub first_of_each : List Setting → List Setting
first_of_each options =
    first_of is_keepalive options ++ (first_of is_dscp options ++ (first_of is_send_buffer options ++ first_of is_receive_buffer options))

-- the settings of the endpoint's connections behind the first one
abbrev pub options_list : Plan → ℕ → ℕ → List Setting
options_list p s i = if is_unix p s i then [] else first_of_each (options_of p s i)

-- there are settings, and none is left
abbrev pub is_done : Option (List Setting) → Bool
is_done (Some []) = true
is_done (Some (x ∷ more)) = false
is_done None = false

-- the connection is right
unfoldable pub is_kept : Plan → Record → Arrival → Bool
is_kept p q x = connection_right p q x
