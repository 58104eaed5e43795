-- Endpoints that are added to listeners.
use Rattle.std.specs.Prelude.{◌≡◌, ℕ, List, [], ◌∷◌, ◌++◌, map, Option, Some, None}
use Rattle.std.specs.List.{AllByRecursion}
use Rattle.svc_graph.specs.declared.plan.EndpointPlan.{EndpointPlan}
use Rattle.svc_socket.specs.OptionLists.{settings_of}
use Rattle.svc_socket.specs.declared.protocols.l4.ext.TcpSocketOptions.{TcpSocketOptions}
use Rattle.svc_socket.specs.declared.protocols.tls.noop_tls.listeners.TlsSettings.{TlsSettings}
use Rattle.svc_streams.specs.declared.protocols.l4.stream.L4BufferSettings.{L4BufferSettings}
use Rattle.svc_listen.specs.declared.listeners.l4.Permissions.{Permissions}
use Rattle.svc_listen.specs.declared.listeners.l4.ServerAddress.{ServerAddress}
use Rattle.svc_listen.specs.declared.listeners.l4.ServerAddress.TheVariants.{Tcp, Uds}
use Rattle.svc_listen.specs.Addresses.{text_of, is_unix, options_of}
use Rattle.svc_listen.specs.EndpointData.{ConfigData, EndpointData, ListenersData}

-- TLS settings: there is one value of them
abbrev pub any_tls : TlsSettings
any_tls = record {}

-- buffers of the default sizes
abbrev pub default_buffer : L4BufferSettings
default_buffer = record { read = None; write = None }

-- an endpoint of TCP with buffers of the default sizes
abbrev pub tcp_config : List ℕ → Option TcpSocketOptions → Option TlsSettings → ConfigData
tcp_config text options tls = record { address = Tcp text options; tls = tls; buffer = default_buffer }

-- an endpoint of the Unix domain with buffers of the default sizes
abbrev pub uds_config : List ℕ → Option Permissions → ConfigData
uds_config text mode = record { address = Uds text mode; tls = None; buffer = default_buffer }

-- an endpoint of an address with buffers of the default sizes
abbrev pub address_config : ServerAddress → Option TlsSettings → ConfigData
address_config address tls = record { address = address; tls = tls; buffer = default_buffer }

-- listeners without endpoints, a filter and a callback
abbrev pub no_listeners : ListenersData
no_listeners = record { endpoints = []; filter = None; callback = None }

-- the endpoint of a configuration, with the filter and the callback in force
abbrev pub endpoint_of : ConfigData → Option ℕ → Option ℕ → EndpointData
endpoint_of config filter callback = record { address = config.address; tls = config.tls; buffer = config.buffer; filter = filter; callback = callback }

-- one endpoint more, the last, with the filter and the callback in force
abbrev pub added : ListenersData → ConfigData → ListenersData
added listeners config = record listeners { endpoints = listeners.endpoints ++ endpoint_of config listeners.filter listeners.callback ∷ [] }

-- the endpoint with another filter, or with another callback
abbrev pub filtered : ℕ → EndpointData → EndpointData
filtered filter e = record e { filter = Some filter }

abbrev pub called_back : ℕ → EndpointData → EndpointData
called_back callback e = record e { callback = Some callback }

-- the filter is in force, for those that are there and those that come
abbrev pub with_filter : ℕ → ListenersData → ListenersData
with_filter filter listeners = record { endpoints = map (filtered filter) listeners.endpoints; filter = Some filter; callback = listeners.callback }

-- the callback is in force, for those that are there and those that come
abbrev pub with_callback : ℕ → ListenersData → ListenersData
with_callback callback listeners = record { endpoints = map (called_back callback) listeners.endpoints; filter = listeners.filter; callback = Some callback }

-- the addresses, in order
abbrev pub addresses : ListenersData → List (List ℕ)
addresses listeners = map (λ e. text_of e.address) listeners.endpoints

-- what a server is told of an endpoint: its settings are those of its options
abbrev pub plan_of : EndpointData → EndpointPlan
plan_of e = record { address = text_of e.address; unix = is_unix e.address; options = settings_of (options_of e.address); filter = e.filter }

-- each endpoint has the filter and the callback that were set last
abbrev pub AreInForce : ListenersData → Type 0
AreInForce listeners = AllByRecursion (λ e. (e.filter ≡ listeners.filter) × (e.callback ≡ listeners.callback)) listeners.endpoints

-- these are added, one after the other
abbrev pub all_added : ListenersData → List ConfigData → ListenersData
all_added listeners [] = listeners
all_added listeners (config ∷ configs) = all_added (added listeners config) configs

-- each endpoint has this filter, or this callback
abbrev pub AreFiltered : ℕ → ListenersData → Type 0
AreFiltered filter listeners = AllByRecursion (λ e. e.filter ≡ Some filter) listeners.endpoints

abbrev pub AreCalledBack : ℕ → ListenersData → Type 0
AreCalledBack callback listeners = AllByRecursion (λ e. e.callback ≡ Some callback) listeners.endpoints
