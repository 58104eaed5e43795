-- The text of a configuration: a line for each key, in the order of the keys.
use Rattle.std.specs.Prelude.{◌≡◌, ◌<◌, ◌^◌, ℕ, Bool, true, false, not, ◌||◌, ◌&&◌, ◌==◌, if◌then◌else◌, List, [], ◌∷◌, ◌++◌, All, flat_map, codes, Option, Some, None}
use Rattle.std.specs.List.{list_any, list_all}
use Rattle.std.specs.Char.{is_ascii_alphanumeric}
use Rattle.std.specs.Fmt.{decimal}
use Rattle.std.specs.Str.{is_utf8}
use Rattle.svc_conf.specs.declared.server.configuration.ServerConf.{ServerConf}
use Rattle.svc_conf.specs.declared.server.configuration.key.Key.{Key}
use Rattle.svc_base.specs.declared.runtime.RuntimeMetricsPollTimeHistogramScale.{RuntimeMetricsPollTimeHistogramScale}
use Rattle.svc_base.specs.declared.runtime.RuntimeMetricsPollTimeHistogramScale.TheVariants.{Linear, Log}
use Rattle.svc_conf.specs.declared.server.configuration.field.Field.{Field}
use Rattle.svc_conf.specs.declared.server.configuration.field.Field.TheVariants as fields
use Rattle.svc_conf.specs.OptionalNumbers.{is_zero}
use Rattle.svc_conf.specs.Keys.{key_name}
use Rattle.svc_conf.specs.Fields.{field_of, all_keys, held_number, held_flag, held_text, held_optional_text, held_optional_number, held_list}
use Rattle.svc_conf.specs.TextLines.{first_is}
use Rattle.svc_conf.specs.Values.{is_null_word, ends_in_colon}

-- the bytes of a text that needs no quotes: letters, digits and _ - . / : ,
abbrev pub is_plain_byte : ℕ → Bool
is_plain_byte b = is_ascii_alphanumeric b || list_any (λ m. m == b) (codes "_-./:,")

-- with these it begins
abbrev pub is_plain_front : ℕ → Bool
is_plain_front b = is_ascii_alphanumeric b || list_any (λ m. m == b) (codes "/._")

abbrev pub needs_no_quotes : List ℕ → Bool
needs_no_quotes text = first_is is_plain_front text && not (is_null_word text) && list_all is_plain_byte text && not (ends_in_colon text)

-- a byte between double quotes
abbrev pub escape : ℕ → List ℕ
escape b =
    if b == 34 then 92 ∷ 34 ∷ []
    else (if b == 92 then 92 ∷ 92 ∷ []
    else (if b == 10 then 92 ∷ 110 ∷ []
    else (if b == 13 then 92 ∷ 114 ∷ []
    else (if b == 9 then 92 ∷ 116 ∷ [] else b ∷ []))))

unfoldable pub text_shown : List ℕ → List ℕ
text_shown text = if needs_no_quotes text then text else 34 ∷ (flat_map escape text ++ 34 ∷ [])

abbrev pub flag_shown : Bool → List ℕ
flag_shown true = codes "true"
flag_shown false = codes "false"

abbrev pub scale_shown : RuntimeMetricsPollTimeHistogramScale → List ℕ
scale_shown Linear = codes "linear"
scale_shown Log = codes "log"

-- an unset value is the word `null`
abbrev pub or_null : {A : Type 0} → (A → List ℕ) → Option A → List ℕ
or_null show None = codes "null"
or_null show (Some value) = show value

-- the line of a key with a value
abbrev pub value_line : Key → List ℕ → List ℕ
value_line key value = key_name key ++ 58 ∷ 32 ∷ (value ++ 10 ∷ [])

abbrev pub item_line : List ℕ → List ℕ
item_line text = 45 ∷ 32 ∷ (text_shown text ++ 10 ∷ [])

-- the value of a key; a list's is the empty one
abbrev pub value_shown : Field → ServerConf → List ℕ
value_shown (fields.Number k) conf = decimal (held_number k conf)
value_shown (fields.Flag k) conf = flag_shown (held_flag k conf)
value_shown (fields.Text k) conf = text_shown (held_text k conf)
value_shown (fields.OptionalText k) conf = or_null text_shown (held_optional_text k conf)
value_shown (fields.OptionalNumber k) conf = or_null decimal (held_optional_number k conf)
value_shown fields.Scale conf = or_null scale_shown conf.runtime_metrics_poll_time_histogram_scale
value_shown (fields.List k) conf = codes "[]"

-- a list without items is `[]`; else its items stand below the key, one in a line
abbrev pub list_lines : Key → List (List ℕ) → List ℕ
list_lines key [] = value_line key (codes "[]")
list_lines key (item ∷ more) = key_name key ++ 58 ∷ 10 ∷ flat_map item_line (item ∷ more)

abbrev pub field_lines : Key → Field → ServerConf → List ℕ
field_lines key (fields.List k) conf = list_lines key (held_list k conf)
field_lines key field conf = value_line key (value_shown field conf)

-- the lines of a key
unfoldable pub key_lines : ServerConf → Key → List ℕ
key_lines conf key = field_lines key (field_of key) conf

-- the text of a configuration
unfoldable pub yaml : ServerConf → List ℕ
yaml conf = flat_map (key_lines conf) all_keys

-- the values of a key are those of its type
abbrev pub IsText : List ℕ → Type 0
IsText text = is_utf8 text ≡ true

abbrev pub IsNumber : ℕ → Type 0
IsNumber n = n < 2 ^ 64

abbrev pub IsOptional : {A : Type 0} → (A → Type 0) → Option A → Type 0
IsOptional P None = Unit {0}
IsOptional P (Some x) = P x

abbrev pub ValueFits : Field → ServerConf → Type 0
ValueFits (fields.Number k) conf = IsNumber (held_number k conf)
ValueFits (fields.Flag k) conf = Unit {0}
ValueFits (fields.Text k) conf = IsText (held_text k conf)
ValueFits (fields.OptionalText k) conf = IsOptional IsText (held_optional_text k conf)
ValueFits (fields.OptionalNumber k) conf = IsOptional IsNumber (held_optional_number k conf)
ValueFits fields.Scale conf = Unit {0}
ValueFits (fields.List k) conf = Unit {0}

abbrev pub FieldFits : Field → ServerConf → Type 0
FieldFits (fields.List k) conf = All IsText (held_list k conf)
FieldFits field conf = ValueFits field conf

abbrev pub KeyFits : ServerConf → Key → Type 0
KeyFits conf key = FieldFits (field_of key) conf

-- neither of the daemon's timeouts is 0
abbrev pub HasNoZero : ServerConf → Type 0
HasNoZero conf = (is_zero conf.daemon_ready_timeout_seconds ≡ false) × (is_zero conf.daemon_notify_timeout_seconds ≡ false)
