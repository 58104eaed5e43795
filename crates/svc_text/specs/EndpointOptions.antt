-- The options of a service line's endpoints.
use Rattle.std.specs.Prelude.{ℕ, zero, suc, ◌+◌, ◌^◌, Bool, true, false, if◌then◌else◌, List, [], ◌∷◌, ◌++◌, codes, slice_get, Option, Some, None, unwrap_or}
use Rattle.std.specs.Option.{option_map, option_or}
use Rattle.std.specs.Str.{bytes_eq}
use Rattle.svc_base.specs.declared.settings.Setting.{Setting}
use Rattle.svc_base.specs.declared.settings.Setting.TheVariants.{NoDelay, KeepAlive, Dscp, SndBuf, RcvBuf}
use Rattle.svc_base.specs.declared.settings.TcpKeepalive.{TcpKeepalive}
use Rattle.svc_base.specs.Options.{◌>>=◌}
use Rattle.svc_base.specs.Words.{number_of}
use Rattle.svc_text.specs.NumberLists.{joined_of}
use Rattle.svc_text.specs.declared.service.EndpointLine.{EndpointLine}

-- the two settings are of one sort
abbrev pub same_sort : Setting → Setting → Bool
same_sort NoDelay NoDelay = true
same_sort (KeepAlive a) (KeepAlive b) = true
same_sort (Dscp a) (Dscp b) = true
same_sort (SndBuf a) (SndBuf b) = true
same_sort (RcvBuf a) (RcvBuf b) = true
same_sort _ _ = false

-- the keepalive of four numbers
abbrev pub keepalive_from : List ℕ → Option TcpKeepalive
keepalive_from (idle ∷ interval ∷ count ∷ timeout ∷ []) = Some (record { idle = idle; interval = interval; count = count; user_timeout = timeout })
keepalive_from _ = None

-- the keepalive that a word says: four numbers joined by commas
unfoldable pub keepalive_of : List ℕ → Option TcpKeepalive
keepalive_of word = joined_of word >>= keepalive_from

-- the option that a key and a word say
unfoldable pub option_of : List ℕ → List ℕ → Option Setting
option_of key word =
    if bytes_eq key (codes "dscp") then option_map Dscp (number_of (2 ^ 8) word)
    else (if bytes_eq key (codes "sndbuf") then option_map SndBuf (number_of (2 ^ 64) word)
    else (if bytes_eq key (codes "rcvbuf") then option_map RcvBuf (number_of (2 ^ 64) word)
    else (if bytes_eq key (codes "keepalive") then option_map KeepAlive (keepalive_of word) else None)))

-- the number of the last TCP endpoint, of those that are numbered from n on
abbrev pub last_tcp_from : ℕ → List EndpointLine → Option ℕ
last_tcp_from n [] = None
last_tcp_from n (e ∷ es) = option_or (last_tcp_from (n + 1) es) (if e.unix then None else Some n)

-- the options of endpoint k
abbrev pub options_at : ℕ → List EndpointLine → List Setting
options_at k es = unwrap_or (option_map (λ (e : EndpointLine). e.options) (slice_get es k)) []

-- the endpoint with one more option
abbrev pub with_option : Setting → EndpointLine → EndpointLine
with_option option e = record e { options = e.options ++ option ∷ [] }

-- the endpoints, of which number k has one more option
abbrev pub with_option_at : ℕ → Setting → List EndpointLine → List EndpointLine
with_option_at k option [] = []
with_option_at zero option (e ∷ es) = with_option option e ∷ es
with_option_at (suc k) option (e ∷ es) = e ∷ with_option_at k option es
