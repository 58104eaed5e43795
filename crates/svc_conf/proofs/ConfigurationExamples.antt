-- What the definitions say of closed texts.
use Rattle.std.proofs.Common.{◌≡◌, ℕ, List, [], ◌∷◌, ◌++◌, Some, None, Ok, Err, refl, true}
use Rattle.std.specs.Prelude.{codes, flat_map}
use Rattle.std.specs.Str.{is_utf8, chars}
use Rattle.std.specs.Fmt.{digits}
use lib.Utf8.{encode}
use Rattle.svc_conf.specs.declared.server.configuration.key.Key.TheVariants as keys
use Rattle.svc_conf.specs.declared.server.configuration.read_error.ReadError.TheVariants as errors
use Rattle.svc_conf.specs.Configuration.{defaults}
use Rattle.svc_conf.specs.Fields.{key_of}
use Rattle.svc_conf.specs.Kinds.{kind_of}
use Rattle.svc_conf.specs.Values.{value_of}
use Rattle.svc_base.specs.Words.{number_of}
use Rattle.svc_conf.specs.ConfigurationText.{configuration, new_text}

abbrev text : List (List ℕ) → List ℕ
text ls = flat_map (λ l. l ++ (10 ∷ [])) ls

first_version : configuration (codes "version: 1") ≡ Ok (record defaults { version = 1 })
unfolding configuration kind_of value_of number_of key_of is_utf8 chars digits encode
first_version = refl

second_version : configuration (text (codes "version: 1" ∷ codes "version: 1" ∷ [])) ≡ Err (errors.Line 2)
unfolding configuration kind_of value_of number_of key_of is_utf8 chars digits encode
second_version = refl

unknown_key : configuration (text (codes "extra:" ∷ codes "  - a" ∷ codes "threads: 3" ∷ [])) ≡ Ok (record defaults { threads = 3 })
unfolding configuration kind_of value_of number_of key_of is_utf8 chars digits encode
unknown_key = refl

leading_zero : configuration (codes "threads: 03") ≡ Err (errors.Value keys.Threads 1)
unfolding configuration kind_of value_of number_of key_of is_utf8 chars digits encode
leading_zero = refl

two_texts : configuration (text (codes "client_bind_to_ipv4:" ∷ codes "- 1.2.3.4" ∷ codes "- 5.6.7.8" ∷ []))
    ≡ Ok (record defaults { client_bind_to_ipv4 = codes "1.2.3.4" ∷ codes "5.6.7.8" ∷ [] })
unfolding configuration kind_of value_of number_of key_of is_utf8 chars digits encode
two_texts = refl

pub started : configuration new_text ≡ Ok (record defaults { version = 1 })
unfolding configuration kind_of value_of number_of key_of is_utf8 chars digits encode
started = refl

hash_in_quotes : configuration (text (codes "user: 'a # b' # c" ∷ codes "group: a#b # c" ∷ []))
    ≡ Ok (record defaults { user = Some (codes "a # b"); group = Some (codes "a#b") })
unfolding configuration kind_of value_of number_of key_of is_utf8 chars digits encode
hash_in_quotes = refl

null_words : configuration
    (text (codes "user: null" ∷ codes "group: 'null'" ∷ codes "fast_timeout_to_tokio_threshold_seconds:" ∷ codes "max_blocking_threads: ~ #" ∷ []))
    ≡ Ok (record defaults { group = Some (codes "null"); fast_timeout_to_tokio_threshold_seconds = None })
unfolding configuration kind_of value_of number_of key_of is_utf8 chars digits encode
null_words = refl

null_text : configuration (codes "pid_file: null") ≡ Err (errors.Value keys.PidFile 1)
unfolding configuration kind_of value_of number_of key_of is_utf8 chars digits encode
null_text = refl

empty_list : configuration (text (codes "client_bind_to_ipv4: []" ∷ codes "client_bind_to_ipv6:" ∷ codes "# none" ∷ codes "threads: 3" ∷ []))
    ≡ Err (errors.Value keys.ClientBindToIpv6 2)
unfolding configuration kind_of value_of number_of key_of is_utf8 chars digits encode
empty_list = refl

flow_list : configuration (text (codes "# a" ∷ codes "client_bind_to_ipv4: [a]" ∷ [])) ≡ Err (errors.Line 2)
unfolding configuration kind_of value_of number_of key_of is_utf8 chars digits encode
flow_list = refl

double_quotes : configuration (text ((codes "user: " ++ (34 ∷ []) ++ codes "a\\" ++ (34 ∷ []) ++ codes "b\\n" ++ (34 ∷ []) ++ codes "  # c") ∷ []))
    ≡ Ok (record defaults { user = Some (97 ∷ 34 ∷ 98 ∷ 10 ∷ []) })
unfolding configuration kind_of value_of number_of key_of is_utf8 chars digits encode
double_quotes = refl

unquoted_end : configuration (codes "user: 'a' b") ≡ Err (errors.Line 1)
unfolding configuration kind_of value_of number_of key_of is_utf8 chars digits encode
unquoted_end = refl

start_twice : configuration (text (codes "--- # c" ∷ [] ∷ codes "---" ∷ [])) ≡ Err (errors.Line 3)
unfolding configuration kind_of value_of number_of key_of is_utf8 chars digits encode
start_twice = refl

start_in_unknown : configuration (text (codes "extra: {" ∷ codes "---" ∷ codes " daemon: x" ∷ codes "daemon: True" ∷ []))
    ≡ Ok (record defaults { daemon = true })
unfolding configuration kind_of value_of number_of key_of is_utf8 chars digits encode
start_in_unknown = refl

indented : configuration (text (codes "threads: 2" ∷ codes " daemon: true" ∷ [])) ≡ Err (errors.Line 2)
unfolding configuration kind_of value_of number_of key_of is_utf8 chars digits encode
indented = refl

no_zero : configuration (codes "daemon_ready_timeout_seconds: 0") ≡ Err (errors.Value keys.DaemonReadyTimeoutSeconds 1)
unfolding configuration kind_of value_of number_of key_of is_utf8 chars digits encode
no_zero = refl

dash_alone : configuration (text (codes "client_bind_to_ipv4:" ∷ codes "-" ∷ [])) ≡ Err (errors.Value keys.ClientBindToIpv4 1)
unfolding configuration kind_of value_of number_of key_of is_utf8 chars digits encode
dash_alone = refl

empty_item : configuration (text (codes "client_bind_to_ipv4:" ∷ codes "- " ∷ [])) ≡ Err (errors.Value keys.ClientBindToIpv4 2)
unfolding configuration kind_of value_of number_of key_of is_utf8 chars digits encode
empty_item = refl
