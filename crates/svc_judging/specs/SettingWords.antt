-- What the words of an action's line say as settings.
use Rattle.std.specs.Prelude.{ℕ, Bool, ◌+◌, ◌^◌, ◌==◌, if◌then◌else◌, List, ◌∷◌, take, drop, map, codes, position, Option, Some, None}
use Rattle.std.specs.Option.{option_map}
use Rattle.std.specs.Str.{bytes_eq}
use Rattle.svc_base.specs.declared.settings.TcpKeepalive.{TcpKeepalive}
use Rattle.svc_base.specs.declared.settings.Setting.{Setting}
use Rattle.svc_base.specs.declared.settings.Setting.TheVariants.{NoDelay, KeepAlive, Dscp, SndBuf, RcvBuf}
use Rattle.svc_base.specs.Options.{◌>>=◌}
use Rattle.svc_base.specs.Words.{number_of, words}
use Rattle.svc_record.specs.declared.event.Event.{Event}
use Rattle.svc_record.specs.declared.event.Event.TheVariants.{Received}
use Rattle.svc_text.specs.EndpointOptions.{keepalive_from}
use Rattle.svc_text.specs.EventLines.{event_of}
use Rattle.svc_text.specs.NumberLists.{all_some}

-- the keepalive of a message's numbers, where these are four
unfoldable pub four_numbers : Event → Option TcpKeepalive
four_numbers (Received bytes numbers) = keepalive_from numbers
four_numbers _ = None

-- the keepalive of a word: four numbers joined by commas, as those of a message are
unfoldable pub keepalive_of : List ℕ → Option TcpKeepalive
keepalive_of word = event_of (codes "received" ∷ codes "-" ∷ words word) >>= four_numbers

-- the setting that a name and a value say
unfoldable pub named_setting : List ℕ → List ℕ → Option Setting
named_setting name value =
    if bytes_eq name (codes "keepalive") then option_map KeepAlive (keepalive_of value)
    else (if bytes_eq name (codes "dscp") then option_map Dscp (number_of (2 ^ 8) value)
    else (if bytes_eq name (codes "sndbuf") then option_map SndBuf (number_of (2 ^ 64) value)
    else (if bytes_eq name (codes "rcvbuf") then option_map RcvBuf (number_of (2 ^ 64) value) else None)))

-- the byte between a setting's name and its value
abbrev pub is_equals : ℕ → Bool
is_equals b = b == 61

-- the setting that a word says
unfoldable pub setting_of : List ℕ → Option Setting
setting_of word =
    if bytes_eq word (codes "nodelay") then Some NoDelay
    else (position is_equals word >>= λ n. named_setting (take n word) (drop (n + 1) word))

-- the settings that words say, in order
unfoldable pub settings_of : List (List ℕ) → Option (List Setting)
settings_of ws = all_some (map setting_of ws)
