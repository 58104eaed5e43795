-- What the values of a configuration text are, and what they are worth for a key.
use Rattle.std.specs.Prelude.{ℕ, ◌^◌, Bool, true, false, not, ◌||◌, ◌&&◌, ◌==◌, if◌then◌else◌, List, [], ◌∷◌, ◌++◌, length, drop, Option, Some, None, codes}
use Rattle.std.specs.Option.{option_map}
use Rattle.std.specs.List.{list_any}
use Rattle.std.specs.Str.{bytes_eq, is_utf8}
use Rattle.svc_base.specs.declared.runtime.RuntimeMetricsPollTimeHistogramScale.{RuntimeMetricsPollTimeHistogramScale}
use Rattle.svc_base.specs.declared.runtime.RuntimeMetricsPollTimeHistogramScale.TheVariants.{Linear, Log}
use Rattle.svc_conf.specs.declared.server.configuration.field.OptionalNumberKey.{OptionalNumberKey}
use Rattle.svc_conf.specs.declared.server.configuration.field.OptionalNumberKey.TheVariants.{DaemonReadyTimeoutSeconds, DaemonNotifyTimeoutSeconds}
use Rattle.svc_conf.specs.declared.server.configuration.field.Field.{Field}
use Rattle.svc_conf.specs.declared.server.configuration.field.Field.TheVariants as fields
use Rattle.svc_conf.specs.declared.server.configuration.values.Value.{Value}
use Rattle.svc_conf.specs.declared.server.configuration.said.Said.{Said}
use Rattle.svc_conf.specs.declared.server.configuration.said.Said.TheVariants as said
use Rattle.svc_conf.specs.TextLines.{first_is, past_blanks, is_end, before_comment, without_end}
use Rattle.svc_conf.specs.OptionalNumbers.{is_zero}
use Rattle.svc_base.specs.Words.{number_of}

-- these bytes before a quoted text
abbrev pub behind : List ℕ → Option (List ℕ × List ℕ) → Option (List ℕ × List ℕ)
behind front None = None
behind front (Some cut) = Some (front ++ cut.0, cut.1)

-- the text up to a closing single quote, and what follows it; two quotes are one byte of the text
abbrev pub single : List ℕ → Option (List ℕ × List ℕ)
single [] = None
single (b ∷ []) = if b == 39 then Some ([], []) else None
single (b ∷ c ∷ bs) = if b == 39 then (if c == 39 then behind (39 ∷ []) (single bs) else Some ([], c ∷ bs)) else behind (b ∷ []) (single (c ∷ bs))

-- what a byte behind a backslash stands for
abbrev pub escaped : ℕ → Option ℕ
escaped b =
    if b == 34 then Some 34
    else (if b == 92 then Some 92
    else (if b == 110 then Some 10
    else (if b == 114 then Some 13
    else (if b == 116 then Some 9 else None))))

abbrev pub behind_escape : Option ℕ → Option (List ℕ × List ℕ) → Option (List ℕ × List ℕ)
behind_escape None rest = None
behind_escape (Some b) rest = behind (b ∷ []) rest

-- the text up to a closing double quote, and what follows it
abbrev pub double : List ℕ → Option (List ℕ × List ℕ)
double [] = None
double (b ∷ []) = if b == 34 then Some ([], []) else None
double (b ∷ c ∷ bs) = if b == 34 then Some ([], c ∷ bs) else (if b == 92 then behind_escape (escaped c) (double bs) else behind (b ∷ []) (double (c ∷ bs)))

-- the bytes as a value, where they are a text
abbrev pub value_in : Bool → List ℕ → Option Value
value_in quoted bytes = if is_utf8 bytes then Some (record { quoted = quoted; text = bytes }) else None

-- behind the closing quote at most a comment may stand
abbrev pub quoted_value : Option (List ℕ × List ℕ) → Option Value
quoted_value None = None
quoted_value (Some cut) = if is_end cut.1 then value_in true cut.0 else None

-- a byte with which no plain value begins: one of [ { ] } & * ! | > % @ , ? and the back quote
abbrev pub is_mark : ℕ → Bool
is_mark b = list_any (λ m. m == b) (codes "[{]}&*!|>%@,?`")

-- a colon with a space behind it
abbrev pub has_colon : List ℕ → Bool
has_colon [] = false
has_colon (b ∷ bs) = ((b == 58) && first_is (λ c. c == 32) bs) || has_colon bs

-- the last byte is a colon
abbrev pub ends_in_colon : List ℕ → Bool
ends_in_colon [] = false
ends_in_colon (b ∷ []) = b == 58
ends_in_colon (b ∷ c ∷ bs) = ends_in_colon (c ∷ bs)

-- the empty list, or what no mark begins, without a colon that would make a key
abbrev pub is_plain : List ℕ → Bool
is_plain text = bytes_eq text (codes "[]") || (not (first_is is_mark text) && not (has_colon text) && not (ends_in_colon text))

abbrev pub plain_value : List ℕ → Option Value
plain_value text = if is_plain text then value_in false text else None

-- the value that stands past the blanks: in single quotes, in double quotes, or plain
abbrev pub value_from : List ℕ → Option Value
value_from text =
    if first_is (λ b. b == 39) text then quoted_value (single (drop 1 text))
    else (if first_is (λ b. b == 34) text then quoted_value (double (drop 1 text))
    else plain_value (without_end (before_comment true text)))

unfoldable pub value_of : List ℕ → Option Value
value_of rest = value_from (past_blanks rest)

-- what a value is worth

-- one of the words for no value
abbrev pub is_null_word : List ℕ → Bool
is_null_word text = bytes_eq text (codes "null") || bytes_eq text (codes "Null") || bytes_eq text (codes "NULL") || bytes_eq text (codes "~")

-- no value: nothing, or a null word
abbrev pub is_unset : Value → Bool
is_unset value = not value.quoted && ((length value.text == 0) || is_null_word value.text)

abbrev pub number_in : List ℕ → Option ℕ
number_in text = number_of (2 ^ 64) text

abbrev pub flag_in : List ℕ → Option Bool
flag_in text =
    if bytes_eq text (codes "true") || bytes_eq text (codes "True") || bytes_eq text (codes "TRUE") then Some true
    else (if bytes_eq text (codes "false") || bytes_eq text (codes "False") || bytes_eq text (codes "FALSE") then Some false else None)

abbrev pub scale_in : List ℕ → Option RuntimeMetricsPollTimeHistogramScale
scale_in text = if bytes_eq text (codes "linear") then Some Linear else (if bytes_eq text (codes "log") then Some Log else None)

abbrev pub number_value : Value → Option ℕ
number_value value = if value.quoted then None else number_in value.text

abbrev pub flag_value : Value → Option Bool
flag_value value = if value.quoted then None else flag_in value.text

abbrev pub scale_value : Value → Option RuntimeMetricsPollTimeHistogramScale
scale_value value = if value.quoted then None else scale_in value.text

abbrev pub text_value : Value → Option (List ℕ)
text_value value = if is_unset value then None else Some value.text

-- the value, or no value
abbrev pub optional : {A : Type 0} → (Value → Option A) → Value → Option (Option A)
optional read value = if is_unset value then Some None else option_map (λ x. Some x) (read value)

-- 0 is no value of the daemon's timeouts
abbrev pub may_be_zero : OptionalNumberKey → Bool
may_be_zero DaemonReadyTimeoutSeconds = false
may_be_zero DaemonNotifyTimeoutSeconds = false
may_be_zero _ = true

abbrev pub allowed : OptionalNumberKey → Option (Option ℕ) → Option (Option ℕ)
allowed key None = None
allowed key (Some number) = if is_zero number && not (may_be_zero key) then None else Some number

abbrev pub empty_list : Value → Bool
empty_list value = not value.quoted && bytes_eq value.text (codes "[]")

-- what the value of a key's line says, if it is of the key's sort; a list's is the empty list
abbrev pub said_of : Field → Value → Option Said
said_of (fields.Number key) value = option_map (λ x. said.Number key x) (number_value value)
said_of (fields.Flag key) value = option_map (λ x. said.Flag key x) (flag_value value)
said_of (fields.Text key) value = option_map (λ x. said.Text key x) (text_value value)
said_of (fields.OptionalText key) value = option_map (λ x. said.OptionalText key x) (optional text_value value)
said_of (fields.OptionalNumber key) value = option_map (λ x. said.OptionalNumber key x) (allowed key (optional number_value value))
said_of fields.Scale value = option_map (λ x. said.Scale x) (optional scale_value value)
said_of (fields.List key) value = if empty_list value then Some (said.Empty key) else None
