-- The text of a configuration gives it back.
use Rattle.std.proofs.Common.{◌≡◌, ℕ, suc, Bool, true, false, not, ◌&&◌, List, [], ◌∷◌, ◌++◌, All, Option, Some, None, Result, Ok, refl, sym, ap, ◌∙◌, arith, append_assoc}
use Rattle.std.specs.Prelude.{flat_map, codes}
use Rattle.std.specs.List.{list_all, push}
use Rattle.std.specs.Fmt.{decimal}
use Rattle.std.specs.Str.{is_utf8, chars}
use lib.Utf8.{encode}
use Rattle.std.specs.Str.Lines.{lines}
use Rattle.std.proofs.lemmas.Bool.{and_parts}
use Rattle.std.proofs.lemmas.List.{append-nil}
use Rattle.svc_conf.specs.declared.server.configuration.ServerConf.{ServerConf}
use Rattle.svc_conf.specs.declared.server.configuration.key.Key.{Key}
use Rattle.svc_conf.specs.declared.server.configuration.key.Key.TheVariants as keys
use Rattle.svc_conf.specs.declared.server.configuration.field.Field.{Field}
use Rattle.svc_conf.specs.declared.server.configuration.field.Field.TheVariants as fields
use Rattle.svc_conf.specs.declared.server.configuration.field.ListKey.{ListKey}
use Rattle.svc_conf.specs.declared.server.configuration.field.ListKey.TheVariants as Lists
use Rattle.svc_conf.specs.declared.server.configuration.field.OptionalNumberKey.{OptionalNumberKey}
use Rattle.svc_conf.specs.declared.server.configuration.field.OptionalNumberKey.TheVariants as OptionalNumbers
use Rattle.svc_conf.specs.declared.server.configuration.kind.Kind.{Kind}
use Rattle.svc_conf.specs.declared.server.configuration.kind.Kind.TheVariants.{Known, Opens, Item}
use Rattle.svc_base.specs.declared.runtime.RuntimeMetricsPollTimeHistogramScale.TheVariants.{Linear, Log}
use Rattle.svc_conf.specs.declared.server.configuration.values.Value.{Value}
use Rattle.svc_conf.specs.declared.server.configuration.said.Said.{Said}
use Rattle.svc_conf.specs.declared.server.configuration.said.Said.TheVariants as said
use Rattle.svc_conf.specs.declared.server.configuration.read_error.ReadError.{ReadError}
use Rattle.svc_conf.specs.Configuration.{defaults}
use Rattle.svc_conf.proofs.ShownLemmas.{first_of, more_of}
use Rattle.svc_conf.specs.OptionalNumbers.{is_zero}
use Rattle.svc_conf.specs.Keys.{key_name}
use Rattle.svc_conf.specs.Fields.{field_of, all_keys, key_of, list_key, set_list, held_number, held_flag, held_text, held_optional_text, held_optional_number, held_list}
use Rattle.svc_conf.specs.TextLines.{is_gap}
use Rattle.svc_conf.specs.Kinds.{key_kind, sort_kind, kind_of, kind_in, skips, list_at, keys_in, place_of}
use Rattle.svc_conf.specs.Values.{value_of, text_value, number_value, optional, may_be_zero, is_unset, said_of}
use Rattle.svc_conf.specs.ConfigurationText.{has_key, says, set_said, set_by, said_from, overridden_by, configuration}
use Rattle.svc_conf.specs.Printing.{text_shown, flag_shown, scale_shown, or_null, value_line, item_line, value_shown, list_lines, field_lines, key_lines, yaml, IsText, IsNumber, IsOptional, ValueFits, FieldFits, KeyFits, HasNoZero}
use Rattle.svc_conf.proofs.ConfigurationLemmas.{sets}
use Rattle.svc_conf.proofs.ValueBackLemmas.{is_clean, clean_append, line_back, number_back, number_clean, text_back}

-- what lines make of a configuration behind these kinds of lines
abbrev reads : List Kind → ServerConf → List (List ℕ) → Result ServerConf ReadError
reads before conf ls = overridden_by conf (said_from before ls)

line_reads : (before : List Kind) (conf new : ServerConf) (line : List ℕ) (after : List (List ℕ)) (kind : Kind) (rest : List ℕ) → skips before ≡ false
    → kind_of line ≡ (kind, rest)
    → set_by conf (says (place_of before) kind rest after) ≡ Ok new → reads before conf (line ∷ after) ≡ reads (kind ∷ before) new after
line_reads before conf new line after kind rest none e h =
    let k : kind_in (skips before) line ≡ (kind, rest) = rw (none, e) refl in
    rw k (sets (says (place_of before) kind rest after) (said_from (kind ∷ before) after) conf new h)

-- ---- keys

-- the line of a key is read as that
kind_named : (key : Key) (rest : List ℕ) → is_gap rest ≡ true → kind_of (key_name key ++ 58 ∷ rest) ≡ key_kind (Some key) rest
unfolding kind_of key_of
kind_named keys.Version rest h = rw h refl
kind_named keys.Daemon rest h = rw h refl
kind_named keys.ErrorLog rest h = rw h refl
kind_named keys.PidFile rest h = rw h refl
kind_named keys.UpgradeSock rest h = rw h refl
kind_named keys.User rest h = rw h refl
kind_named keys.Group rest h = rw h refl
kind_named keys.WorkingDirectory rest h = rw h refl
kind_named keys.Threads rest h = rw h refl
kind_named keys.ListenerTasksPerFd rest h = rw h refl
kind_named keys.WorkStealing rest h = rw h refl
kind_named keys.RuntimeEnableAltTimer rest h = rw h refl
kind_named keys.CaFile rest h = rw h refl
kind_named keys.GracePeriodSeconds rest h = rw h refl
kind_named keys.GracefulShutdownTimeoutSeconds rest h = rw h refl
kind_named keys.ClientBindToIpv4 rest h = rw h refl
kind_named keys.ClientBindToIpv6 rest h = rw h refl
kind_named keys.UpstreamKeepalivePoolSize rest h = rw h refl
kind_named keys.UpstreamConnectOffloadThreadpools rest h = rw h refl
kind_named keys.UpstreamConnectOffloadThreadPerPool rest h = rw h refl
kind_named keys.DownstreamTlsOffloadThreadpools rest h = rw h refl
kind_named keys.DownstreamTlsOffloadThreadPerPool rest h = rw h refl
kind_named keys.UpstreamDebugSslKeylog rest h = rw h refl
kind_named keys.MaxRetries rest h = rw h refl
kind_named keys.UpgradeSockConnectAcceptMaxRetries rest h = rw h refl
kind_named keys.MaxBlockingThreads rest h = rw h refl
kind_named keys.BlockingThreadsTtlSeconds rest h = rw h refl
kind_named keys.FastTimeoutToTokioThresholdSeconds rest h = rw h refl
kind_named keys.RuntimeMetricsPollTimeHistogram rest h = rw h refl
kind_named keys.RuntimeMetricsPollTimeHistogramScale rest h = rw h refl
kind_named keys.RuntimeMetricsPollTimeHistogramResolutionMicros rest h = rw h refl
kind_named keys.RuntimeMetricsPollTimeHistogramBuckets rest h = rw h refl
kind_named keys.DaemonWaitForReady rest h = rw h refl
kind_named keys.DaemonReadyTimeoutSeconds rest h = rw h refl
kind_named keys.DaemonNotifyTimeoutSeconds rest h = rw h refl

name_clean : (key : Key) → list_all is_clean (key_name key) ≡ true
name_clean keys.Version = refl
name_clean keys.Daemon = refl
name_clean keys.ErrorLog = refl
name_clean keys.PidFile = refl
name_clean keys.UpgradeSock = refl
name_clean keys.User = refl
name_clean keys.Group = refl
name_clean keys.WorkingDirectory = refl
name_clean keys.Threads = refl
name_clean keys.ListenerTasksPerFd = refl
name_clean keys.WorkStealing = refl
name_clean keys.RuntimeEnableAltTimer = refl
name_clean keys.CaFile = refl
name_clean keys.GracePeriodSeconds = refl
name_clean keys.GracefulShutdownTimeoutSeconds = refl
name_clean keys.ClientBindToIpv4 = refl
name_clean keys.ClientBindToIpv6 = refl
name_clean keys.UpstreamKeepalivePoolSize = refl
name_clean keys.UpstreamConnectOffloadThreadpools = refl
name_clean keys.UpstreamConnectOffloadThreadPerPool = refl
name_clean keys.DownstreamTlsOffloadThreadpools = refl
name_clean keys.DownstreamTlsOffloadThreadPerPool = refl
name_clean keys.UpstreamDebugSslKeylog = refl
name_clean keys.MaxRetries = refl
name_clean keys.UpgradeSockConnectAcceptMaxRetries = refl
name_clean keys.MaxBlockingThreads = refl
name_clean keys.BlockingThreadsTtlSeconds = refl
name_clean keys.FastTimeoutToTokioThresholdSeconds = refl
name_clean keys.RuntimeMetricsPollTimeHistogram = refl
name_clean keys.RuntimeMetricsPollTimeHistogramScale = refl
name_clean keys.RuntimeMetricsPollTimeHistogramResolutionMicros = refl
name_clean keys.RuntimeMetricsPollTimeHistogramBuckets = refl
name_clean keys.DaemonWaitForReady = refl
name_clean keys.DaemonReadyTimeoutSeconds = refl
name_clean keys.DaemonNotifyTimeoutSeconds = refl

list_key_is : (key : Key) (list : ListKey) → field_of key ≡ fields.List list → list_key list ≡ key
list_key_is keys.Version list e = absurd cc
list_key_is keys.Daemon list e = absurd cc
list_key_is keys.ErrorLog list e = absurd cc
list_key_is keys.PidFile list e = absurd cc
list_key_is keys.UpgradeSock list e = absurd cc
list_key_is keys.User list e = absurd cc
list_key_is keys.Group list e = absurd cc
list_key_is keys.WorkingDirectory list e = absurd cc
list_key_is keys.Threads list e = absurd cc
list_key_is keys.ListenerTasksPerFd list e = absurd cc
list_key_is keys.WorkStealing list e = absurd cc
list_key_is keys.RuntimeEnableAltTimer list e = absurd cc
list_key_is keys.CaFile list e = absurd cc
list_key_is keys.GracePeriodSeconds list e = absurd cc
list_key_is keys.GracefulShutdownTimeoutSeconds list e = absurd cc
list_key_is keys.ClientBindToIpv4 list e = let f : Lists.ClientBindToIpv4 ≡ list = cc in ap list_key (sym f)
list_key_is keys.ClientBindToIpv6 list e = let f : Lists.ClientBindToIpv6 ≡ list = cc in ap list_key (sym f)
list_key_is keys.UpstreamKeepalivePoolSize list e = absurd cc
list_key_is keys.UpstreamConnectOffloadThreadpools list e = absurd cc
list_key_is keys.UpstreamConnectOffloadThreadPerPool list e = absurd cc
list_key_is keys.DownstreamTlsOffloadThreadpools list e = absurd cc
list_key_is keys.DownstreamTlsOffloadThreadPerPool list e = absurd cc
list_key_is keys.UpstreamDebugSslKeylog list e = absurd cc
list_key_is keys.MaxRetries list e = absurd cc
list_key_is keys.UpgradeSockConnectAcceptMaxRetries list e = absurd cc
list_key_is keys.MaxBlockingThreads list e = absurd cc
list_key_is keys.BlockingThreadsTtlSeconds list e = absurd cc
list_key_is keys.FastTimeoutToTokioThresholdSeconds list e = absurd cc
list_key_is keys.RuntimeMetricsPollTimeHistogram list e = absurd cc
list_key_is keys.RuntimeMetricsPollTimeHistogramScale list e = absurd cc
list_key_is keys.RuntimeMetricsPollTimeHistogramResolutionMicros list e = absurd cc
list_key_is keys.RuntimeMetricsPollTimeHistogramBuckets list e = absurd cc
list_key_is keys.DaemonWaitForReady list e = absurd cc
list_key_is keys.DaemonReadyTimeoutSeconds list e = absurd cc
list_key_is keys.DaemonNotifyTimeoutSeconds list e = absurd cc

and_off : (x : Bool) → (x && false) ≡ false
and_off true = refl
and_off false = refl

zero_is_allowed : (key : OptionalNumberKey) (conf : ServerConf) → HasNoZero conf → (is_zero (held_optional_number key conf) && not (may_be_zero key)) ≡ false
zero_is_allowed OptionalNumbers.GracePeriodSeconds conf h = and_off (is_zero conf.grace_period_seconds)
zero_is_allowed OptionalNumbers.GracefulShutdownTimeoutSeconds conf h = and_off (is_zero conf.graceful_shutdown_timeout_seconds)
zero_is_allowed OptionalNumbers.UpstreamConnectOffloadThreadpools conf h = and_off (is_zero conf.upstream_connect_offload_threadpools)
zero_is_allowed OptionalNumbers.UpstreamConnectOffloadThreadPerPool conf h = and_off (is_zero conf.upstream_connect_offload_thread_per_pool)
zero_is_allowed OptionalNumbers.DownstreamTlsOffloadThreadpools conf h = and_off (is_zero conf.downstream_tls_offload_threadpools)
zero_is_allowed OptionalNumbers.DownstreamTlsOffloadThreadPerPool conf h = and_off (is_zero conf.downstream_tls_offload_thread_per_pool)
zero_is_allowed OptionalNumbers.UpgradeSockConnectAcceptMaxRetries conf h = and_off (is_zero conf.upgrade_sock_connect_accept_max_retries)
zero_is_allowed OptionalNumbers.MaxBlockingThreads conf h = and_off (is_zero conf.max_blocking_threads)
zero_is_allowed OptionalNumbers.BlockingThreadsTtlSeconds conf h = and_off (is_zero conf.blocking_threads_ttl_seconds)
zero_is_allowed OptionalNumbers.FastTimeoutToTokioThresholdSeconds conf h = and_off (is_zero conf.fast_timeout_to_tokio_threshold_seconds)
zero_is_allowed OptionalNumbers.RuntimeMetricsPollTimeHistogramResolutionMicros conf h =
    and_off (is_zero conf.runtime_metrics_poll_time_histogram_resolution_micros)
zero_is_allowed OptionalNumbers.RuntimeMetricsPollTimeHistogramBuckets conf h = and_off (is_zero conf.runtime_metrics_poll_time_histogram_buckets)
zero_is_allowed OptionalNumbers.DaemonReadyTimeoutSeconds conf h = rw h.0 refl
zero_is_allowed OptionalNumbers.DaemonNotifyTimeoutSeconds conf h = rw h.1 refl

-- ---- values

-- what the line of a key says of what it holds
abbrev said_held : Field → ServerConf → Said
said_held (fields.Number key) conf = said.Number key (held_number key conf)
said_held (fields.Flag key) conf = said.Flag key (held_flag key conf)
said_held (fields.Text key) conf = said.Text key (held_text key conf)
said_held (fields.OptionalText key) conf = said.OptionalText key (held_optional_text key conf)
said_held (fields.OptionalNumber key) conf = said.OptionalNumber key (held_optional_number key conf)
said_held fields.Scale conf = said.Scale conf.runtime_metrics_poll_time_histogram_scale
said_held (fields.List key) conf = said.Empty key

record SaysHeld (field : Field) (conf : ServerConf) (bytes : List ℕ) (s : Said) : Type 0 where
  value : Value
  value_is : value_of (32 ∷ bytes) ≡ Some value
  said_is : said_of field value ≡ Some s
  clean : list_all is_clean bytes ≡ true

null_back : value_of (32 ∷ codes "null") ≡ Some (record { quoted = false; text = codes "null" })
unfolding value_of is_utf8 chars encode
null_back = refl

flag_back : (flag : Bool) → value_of (32 ∷ flag_shown flag) ≡ Some (record { quoted = false; text = flag_shown flag })
unfolding value_of is_utf8 chars encode
flag_back true = refl
flag_back false = refl

linear_back : value_of (32 ∷ codes "linear") ≡ Some (record { quoted = false; text = codes "linear" })
unfolding value_of is_utf8 chars encode
linear_back = refl

log_back : value_of (32 ∷ codes "log") ≡ Some (record { quoted = false; text = codes "log" })
unfolding value_of is_utf8 chars encode
log_back = refl

empty_back : value_of (32 ∷ codes "[]") ≡ Some (record { quoted = false; text = codes "[]" })
unfolding value_of is_utf8 chars encode
empty_back = refl

flag_said : (key : _) (flag : Bool) → said_of (fields.Flag key) (record { quoted = false; text = flag_shown flag }) ≡ Some (said.Flag key flag)
flag_said key true = refl
flag_said key false = refl

flag_clean : (flag : Bool) → list_all is_clean (flag_shown flag) ≡ true
flag_clean true = refl
flag_clean false = refl

text_said : (value : Value) (text : List ℕ) → is_unset value ≡ false → value.text ≡ text → text_value value ≡ Some text
text_said value text e t = rw (e, t) refl

optional_text_back : (text : Option (List ℕ)) → IsOptional IsText text
    → (value : Value) × (value_of (32 ∷ or_null text_shown text) ≡ Some value) × (optional text_value value ≡ Some text)
    × (list_all is_clean (or_null text_shown text) ≡ true)
optional_text_back None h = (record { quoted = false; text = codes "null" }, null_back, refl, refl)
optional_text_back (Some t) h =
    let b = text_back t h in
    let e : is_unset b.value ≡ false = b.unset in
    (b.value, b.value_is, rw (e, b.text_is) refl, b.clean)

optional_number_back : (number : Option ℕ) → IsOptional IsNumber number
    → (value : Value) × (value_of (32 ∷ or_null decimal number) ≡ Some value) × (optional number_value value ≡ Some number)
    × (list_all is_clean (or_null decimal number) ≡ true)
optional_number_back None h = (record { quoted = false; text = codes "null" }, null_back, refl, refl)
optional_number_back (Some n) h =
    let b = number_back n h in
    (record { quoted = false; text = decimal n }, b.value, rw (b.unset, b.number) refl, number_clean n h)

value_back : (field : Field) (conf : ServerConf) → ValueFits field conf → HasNoZero conf → SaysHeld field conf (value_shown field conf) (said_held field conf)
value_back (fields.Number key) conf h z =
    let b = number_back (held_number key conf) h in
    record {
      value = record { quoted = false; text = decimal (held_number key conf) };
      value_is = b.value;
      said_is = rw b.number refl;
      clean = number_clean (held_number key conf) h;
    }
value_back (fields.Flag key) conf h z =
    record {
      value = record { quoted = false; text = flag_shown (held_flag key conf) };
      value_is = flag_back (held_flag key conf);
      said_is = flag_said key (held_flag key conf);
      clean = flag_clean (held_flag key conf);
    }
value_back (fields.Text key) conf h z =
    let b = text_back (held_text key conf) h in
    let e : text_value b.value ≡ Some (held_text key conf) = text_said b.value (held_text key conf) b.unset b.text_is in
    record { value = b.value; value_is = b.value_is; said_is = rw e refl; clean = b.clean }
value_back (fields.OptionalText key) conf h z =
    let b = optional_text_back (held_optional_text key conf) h in
    let e : optional text_value b.0 ≡ Some (held_optional_text key conf) = b.2 in
    record { value = b.0; value_is = b.1; said_is = rw e refl; clean = b.3 }
value_back (fields.OptionalNumber key) conf h z =
    let b = optional_number_back (held_optional_number key conf) h in
    let e : optional number_value b.0 ≡ Some (held_optional_number key conf) = b.2 in
    let kept : (is_zero (held_optional_number key conf) && not (may_be_zero key)) ≡ false = zero_is_allowed key conf z in
    record { value = b.0; value_is = b.1; said_is = rw (e, kept) refl; clean = b.3 }
value_back fields.Scale conf h z = scale conf.runtime_metrics_poll_time_histogram_scale refl
  where
    scale : (o : _) → conf.runtime_metrics_poll_time_histogram_scale ≡ o → SaysHeld fields.Scale conf (or_null scale_shown o) (said.Scale o)
    scale None e = record { value = record { quoted = false; text = codes "null" }; value_is = null_back; said_is = refl; clean = refl }
    scale (Some Linear) e = record { value = record { quoted = false; text = codes "linear" }; value_is = linear_back; said_is = refl; clean = refl }
    scale (Some Log) e = record { value = record { quoted = false; text = codes "log" }; value_is = log_back; said_is = refl; clean = refl }
value_back (fields.List key) conf h z = record { value = record { quoted = false; text = codes "[]" }; value_is = empty_back; said_is = refl; clean = refl }

-- ---- lines

-- what stands behind lines that were read
record Reads (before : List Kind) (conf new : ServerConf) (text rest : List ℕ) (seen : List Key) : Type 0 where
  now : List Kind
  keys_are : keys_in now ≡ seen
  none : skips now ≡ false
  same : reads before conf (lines text) ≡ reads now new (lines rest)

known_set : (before : List Kind) (conf : ServerConf) (key : Key) (field : Field) (rest : List ℕ) (after : List (List ℕ)) (value : Value) (s : Said)
    → has_key key (keys_in before) ≡ false → field_of key ≡ field
    → value_of rest ≡ Some value → said_of field value ≡ Some s → set_by conf (says (place_of before) (Known key) rest after) ≡ Ok (set_said s conf)
known_set before conf key field rest after value s free f v e =
    let e' : said_of (field_of key) value ≡ Some s = ap (λ (x : Field). said_of x value) f ∙ e in
    rw (free, v, e') refl

-- the line of a key with a value
value_line_reads : (before : List Kind) (conf : ServerConf) (key : Key) (field : Field) (bytes rest : List ℕ) (value : Value) (s : Said)
    → has_key key (keys_in before) ≡ false → skips before ≡ false
    → field_of key ≡ field → key_kind (Some key) (32 ∷ bytes) ≡ (Known key, 32 ∷ bytes) → value_of (32 ∷ bytes) ≡ Some value → said_of field value ≡ Some s
    → list_all is_clean bytes ≡ true
    → Reads before conf (set_said s conf) (value_line key bytes ++ rest) rest (keys_in before ++ key ∷ [])
value_line_reads before conf key field bytes rest value s free none f k v e clean =
    let line : List ℕ = key_name key ++ 58 ∷ 32 ∷ bytes in
    let joined_up : value_line key bytes ++ rest ≡ line ++ 10 ∷ rest = simp append_assoc in
    let is_line : lines (value_line key bytes ++ rest) ≡ line ∷ lines rest =
    ap lines joined_up ∙ line_back line rest (clean_append (key_name key) (58 ∷ 32 ∷ bytes) (name_clean key) clean) in
    record {
      now = Known key ∷ before;
      keys_are = refl;
      none = refl;
      same = ap (reads before conf) is_line
          ∙ line_reads before conf (set_said s conf) line (lines rest) (Known key) (32 ∷ bytes) none (kind_named key (32 ∷ bytes) refl ∙ k)
          (known_set before conf key field (32 ∷ bytes) (lines rest) value s free f v e);
    }

-- ---- lists

item_named : (shown : List ℕ) → kind_of (45 ∷ 32 ∷ shown) ≡ (Item, 32 ∷ shown)
unfolding kind_of
item_named [] = refl
item_named (b ∷ bs) = refl

held_again : (list : ListKey) (conf : ServerConf) → set_list list (held_list list conf ++ []) conf ≡ conf
held_again Lists.ClientBindToIpv4 conf = rw (append-nil conf.client_bind_to_ipv4) refl
held_again Lists.ClientBindToIpv6 conf = rw (append-nil conf.client_bind_to_ipv6) refl

set_again : (list : ListKey) (xs ys zs : List (List ℕ)) (conf : ServerConf) → xs ++ ys ≡ zs
    → set_list list (held_list list (set_list list xs conf) ++ ys) (set_list list xs conf) ≡ set_list list zs conf
set_again Lists.ClientBindToIpv4 xs ys zs conf e = ap (λ (v : List (List ℕ)). set_list Lists.ClientBindToIpv4 v conf) e
set_again Lists.ClientBindToIpv6 xs ys zs conf e = ap (λ (v : List (List ℕ)). set_list Lists.ClientBindToIpv6 v conf) e

item_lines_are : (t : List ℕ) (ts : List (List ℕ)) (rest : List ℕ) → IsText t
    → lines (flat_map item_line (t ∷ ts) ++ rest) ≡ (45 ∷ 32 ∷ text_shown t) ∷ lines (flat_map item_line ts ++ rest)
item_lines_are t ts rest h =
    let b = text_back t h in
    let up : flat_map item_line (t ∷ ts) ++ rest ≡ (45 ∷ 32 ∷ text_shown t) ++ 10 ∷ (flat_map item_line ts ++ rest) = simp append_assoc in
    ap lines up ∙ line_back (45 ∷ 32 ∷ text_shown t) (flat_map item_line ts ++ rest) b.clean

item_set : (before : List Kind) (conf : ServerConf) (list : ListKey) (t : List ℕ) (after : List (List ℕ)) → IsText t → list_at before ≡ Some list
    → set_by conf (says (place_of before) Item (32 ∷ text_shown t) after) ≡ Ok (set_list list (push (held_list list conf) t) conf)
item_set before conf list t after h at =
    let b = text_back t h in
    let e : text_value b.value ≡ Some t = text_said b.value t b.unset b.text_is in
    rw (at, b.value_is, e) refl

items_read : (list : ListKey) (ts : List (List ℕ)) (before : List Kind) (conf : ServerConf) (rest : List ℕ) → All IsText ts → list_at before ≡ Some list
    → skips before ≡ false
    → Reads before conf (set_list list (held_list list conf ++ ts) conf) (flat_map item_line ts ++ rest) rest (keys_in before)
items_read list [] before conf rest h at none =
    record { now = before; keys_are = refl; none = none; same = ap (λ (c : ServerConf). reads before c (lines rest)) (sym (held_again list conf)) }
items_read list (t ∷ ts) before conf rest h at none =
    let one : ServerConf = set_list list (push (held_list list conf) t) conf in
    let more : Reads (Item ∷ before) one (set_list list (held_list list one ++ ts) one) (flat_map item_line ts ++ rest) rest (keys_in before) =
    items_read list ts (Item ∷ before) one rest (more_of IsText t ts h) at refl in
    let again : set_list list (held_list list one ++ ts) one ≡ set_list list (held_list list conf ++ t ∷ ts) conf =
    set_again list (push (held_list list conf) t) ts (held_list list conf ++ t ∷ ts) conf (append_assoc (held_list list conf) (t ∷ []) ts) in
    record {
      now = more.now;
      keys_are = more.keys_are;
      none = more.none;
      same = ap (reads before conf) (item_lines_are t ts rest (first_of IsText t ts h))
          ∙ line_reads before conf one (45 ∷ 32 ∷ text_shown t) (lines (flat_map item_line ts ++ rest)) Item (32 ∷ text_shown t) none
          (item_named (text_shown t)) (item_set before conf list t (lines (flat_map item_line ts ++ rest)) (first_of IsText t ts h) at)
          ∙ more.same
          ∙ ap (λ (c : ServerConf). reads more.now c (lines rest)) again;
    }

-- ---- the lines of a key

-- the configuration with what another holds for a key
abbrev copied : Field → ServerConf → ServerConf → ServerConf
copied (fields.List list) target conf = set_list list (held_list list target) conf
copied field target conf = set_said (said_held field target) conf

plain_reads : (target : ServerConf) (before : List Kind) (conf : ServerConf) (key : Key) (field : Field) (rest : List ℕ) → field_of key ≡ field
    → has_key key (keys_in before) ≡ false → skips before ≡ false
    → ValueFits field target → HasNoZero target → sort_kind key (32 ∷ value_shown field target) field ≡ (Known key, 32 ∷ value_shown field target)
    → Reads before conf (set_said (said_held field target) conf) (value_line key (value_shown field target) ++ rest) rest (keys_in before ++ key ∷ [])
plain_reads target before conf key field rest f free none h z k =
    let b = value_back field target h z in
    value_line_reads before conf key field (value_shown field target) rest b.value (said_held field target) free none f
    (ap (sort_kind key (32 ∷ value_shown field target)) f ∙ k) b.value_is b.said_is b.clean

opening_set : (before : List Kind) (conf : ServerConf) (key : Key) (list : ListKey) (t : List ℕ) (ts : List (List ℕ)) (rest : List ℕ) → IsText t
    → list_key list ≡ key → has_key key (keys_in before) ≡ false
    → set_by conf (says (place_of before) (Opens list) [] (lines (flat_map item_line (t ∷ ts) ++ rest))) ≡ Ok (set_list list [] conf)
opening_set before conf key list t ts rest h e free =
    let free' : has_key (list_key list) (keys_in before) ≡ false = ap (λ (k : Key). has_key k (keys_in before)) e ∙ free in
    rw (free', item_lines_are t ts rest h) refl

list_reads : (items : List (List ℕ)) (before : List Kind) (conf : ServerConf) (key : Key) (list : ListKey) (rest : List ℕ) → field_of key ≡ fields.List list
    → has_key key (keys_in before) ≡ false → skips before ≡ false
    → All IsText items → Reads before conf (set_list list items conf) (list_lines key items ++ rest) rest (keys_in before ++ key ∷ [])
list_reads [] before conf key list rest f free none h =
    value_line_reads before conf key (fields.List list) (codes "[]") rest (record { quoted = false; text = codes "[]" }) (said.Empty list) free none f
    (ap (sort_kind key (32 ∷ codes "[]")) f) empty_back refl refl
list_reads (t ∷ ts) before conf key list rest f free none h =
    let e : list_key list ≡ key = list_key_is key list f in
    let line : List ℕ = key_name key ++ 58 ∷ [] in
    let more : Reads (Opens list ∷ before) (set_list list [] conf) (set_list list (held_list list (set_list list [] conf) ++ (t ∷ ts)) (set_list list [] conf))
    (flat_map item_line (t ∷ ts) ++ rest) rest (keys_in before ++ list_key list ∷ []) =
    items_read list (t ∷ ts) (Opens list ∷ before) (set_list list [] conf) rest h refl refl in
    let up : list_lines key (t ∷ ts) ++ rest ≡ line ++ 10 ∷ (flat_map item_line (t ∷ ts) ++ rest) = simp append_assoc in
    let is_line : lines (list_lines key (t ∷ ts) ++ rest) ≡ line ∷ lines (flat_map item_line (t ∷ ts) ++ rest) =
    ap lines up ∙ line_back line (flat_map item_line (t ∷ ts) ++ rest) (clean_append (key_name key) (58 ∷ []) (name_clean key) refl) in
    record {
      now = more.now;
      keys_are = more.keys_are ∙ ap (λ (k : Key). keys_in before ++ k ∷ []) e;
      none = more.none;
      same = ap (reads before conf) is_line
          ∙ line_reads before conf (set_list list [] conf) line (lines (flat_map item_line (t ∷ ts) ++ rest)) (Opens list) [] none
          (kind_named key [] refl ∙ ap (sort_kind key []) f) (opening_set before conf key list t ts rest (first_of IsText t ts h) e free)
          ∙ more.same
          ∙ ap (λ (c : ServerConf). reads more.now c (lines rest)) (set_again list [] (t ∷ ts) (t ∷ ts) conf refl);
    }

field_reads : (target : ServerConf) (before : List Kind) (conf : ServerConf) (key : Key) (field : Field) (rest : List ℕ) → field_of key ≡ field
    → has_key key (keys_in before) ≡ false → skips before ≡ false
    → FieldFits field target → HasNoZero target
    → Reads before conf (copied field target conf) (field_lines key field target ++ rest) rest (keys_in before ++ key ∷ [])
field_reads target before conf key (fields.Number k) rest f free none h z = plain_reads target before conf key (fields.Number k) rest f free none h z refl
field_reads target before conf key (fields.Flag k) rest f free none h z = plain_reads target before conf key (fields.Flag k) rest f free none h z refl
field_reads target before conf key (fields.Text k) rest f free none h z = plain_reads target before conf key (fields.Text k) rest f free none h z refl
field_reads target before conf key (fields.OptionalText k) rest f free none h z =
    plain_reads target before conf key (fields.OptionalText k) rest f free none h z refl
field_reads target before conf key (fields.OptionalNumber k) rest f free none h z =
    plain_reads target before conf key (fields.OptionalNumber k) rest f free none h z refl
field_reads target before conf key fields.Scale rest f free none h z = plain_reads target before conf key fields.Scale rest f free none h z refl
field_reads target before conf key (fields.List k) rest f free none h z = list_reads (held_list k target) before conf key k rest f free none h

-- ---- all keys

-- each key is new where it stands
abbrev all_new : List Key → List Key → Bool
all_new [] seen = true
all_new (key ∷ todo) seen = not (has_key key seen) && all_new todo (seen ++ key ∷ [])

abbrev copied_all : List Key → ServerConf → ServerConf → ServerConf
copied_all [] target conf = conf
copied_all (key ∷ todo) target conf = copied_all todo target (copied (field_of key) target conf)

off_from : (x : Bool) → not x ≡ true → x ≡ false
off_from true h = absurd cc
off_from false h = refl

keys_read : (target : ServerConf) (todo : List Key) (before : List Kind) (conf : ServerConf) → all_new todo (keys_in before) ≡ true → skips before ≡ false
    → All (KeyFits target) todo → HasNoZero target
    → reads before conf (lines (flat_map (key_lines target) todo)) ≡ Ok (copied_all todo target conf)
unfolding key_lines
keys_read target [] before conf new none h z = refl
keys_read target (key ∷ todo) before conf new none h z =
    let p = and_parts (not (has_key key (keys_in before))) (all_new todo (keys_in before ++ key ∷ [])) new in
    let one : Reads before conf (copied (field_of key) target conf) (field_lines key (field_of key) target ++ flat_map (key_lines target) todo)
    (flat_map (key_lines target) todo) (keys_in before ++ key ∷ []) =
    field_reads target before conf key (field_of key) (flat_map (key_lines target) todo) refl (off_from _ p.0) none (h 0 key (omega arith)) z in
    one.same ∙ keys_read target todo one.now (copied (field_of key) target conf) (ap (all_new todo) one.keys_are ∙ p.1) one.none
    (λ k d lt. h (suc k) d (omega arith)) z

copied_back : (conf : ServerConf) → copied_all all_keys conf defaults ≡ conf
copied_back conf = refl

pub yaml_back : (conf : ServerConf) → All (KeyFits conf) all_keys → HasNoZero conf → configuration (yaml conf) ≡ Ok conf
unfolding configuration yaml
yaml_back conf h z = keys_read conf all_keys [] defaults refl refl h z ∙ ap (λ (c : ServerConf). Ok c) (copied_back conf)

pub text_back_whole : (conf : ServerConf) (bytes text : List ℕ) → text ≡ bytes → bytes ≡ yaml conf → All (KeyFits conf) all_keys → HasNoZero conf
    → configuration text ≡ Ok conf
text_back_whole conf bytes text e f h z = ap configuration (e ∙ f) ∙ yaml_back conf h z
