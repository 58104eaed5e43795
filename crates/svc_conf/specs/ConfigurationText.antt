-- What a configuration text says: the defaults, overridden by the keys that its lines have; or the
-- first line that is refused.
use Rattle.std.specs.Prelude.{◌≡◌, ℕ, ◌+◌, Bool, false, if◌then◌else◌, List, [], ◌∷◌, ◌++◌, ◌||◌, codes, Option, Some, None, Result, Ok, Err}
use Rattle.std.specs.List.{list_any, push}
use Rattle.std.specs.Str.{bytes_eq}
use Rattle.std.specs.Str.Lines.{lines}
use Rattle.svc_conf.specs.declared.server.configuration.ServerConf.{ServerConf}
use Rattle.svc_conf.specs.declared.server.configuration.Opt.{Opt}
use Rattle.svc_conf.specs.declared.server.configuration.key.Key.{Key}
use Rattle.svc_conf.specs.declared.server.configuration.field.ListKey.{ListKey}
use Rattle.svc_conf.specs.declared.server.configuration.kind.Kind.{Kind}
use Rattle.svc_conf.specs.declared.server.configuration.kind.Kind.TheVariants.{Skipped, Start, Known, Opens, Unknown, Item, Other}
use Rattle.svc_conf.specs.declared.server.configuration.place.Place.{Place}
use Rattle.svc_conf.specs.declared.server.configuration.values.Value.{Value}
use Rattle.svc_conf.specs.declared.server.configuration.said.Said.{Said}
use Rattle.svc_conf.specs.declared.server.configuration.said.Said.TheVariants as said
use Rattle.svc_conf.specs.declared.server.configuration.read_error.ReadError.{ReadError}
use Rattle.svc_conf.specs.declared.server.configuration.read_error.ReadError.TheVariants as errors
use Rattle.svc_base.specs.declared.files.FileError.{FileError}
use Rattle.svc_base.specs.declared.files.FileError.TheVariants as files
use Rattle.svc_conf.specs.Configuration.{defaults, judged}
use Rattle.svc_conf.specs.Keys.{key_name}
use Rattle.svc_conf.specs.Fields.{field_of, list_key, set_number, set_flag, set_text, set_optional_text, set_optional_number, set_list, set_scale, held_list}
use Rattle.svc_conf.specs.TextLines.{is_skipped, is_item}
use Rattle.svc_conf.specs.Kinds.{kind_in, skips, place_of}
use Rattle.svc_conf.specs.Values.{value_of, text_value, said_of}

-- the next line that isn't blank and isn't a comment is an item
abbrev pub item_follows : List (List ℕ) → Bool
item_follows [] = false
item_follows (line ∷ after) = if is_skipped line then item_follows after else is_item line

-- the key is among these
abbrev pub has_key : Key → List Key → Bool
has_key key keys = list_any (λ other. bytes_eq (key_name other) (key_name key)) keys

-- what is said, or the refusal of a value that isn't of its key's sort
abbrev pub said_by : ℕ → Key → Option Said → Result (Option Said) ReadError
said_by number key None = Err (errors.Value key number)
said_by number key (Some s) = Ok (Some s)

-- what a key's line says by its value
abbrev pub known_says : ℕ → Key → Option Value → Result (Option Said) ReadError
known_says number key None = Err (errors.Line number)
known_says number key (Some value) = said_by number key (said_of (field_of key) value)

-- a list that has no value has to have items
abbrev pub opening_says : ℕ → ListKey → Bool → Result (Option Said) ReadError
opening_says number list followed = if followed then Ok (Some (said.Empty list)) else Err (errors.Value (list_key list) number)

-- the item that a text is
abbrev pub item_of : ListKey → Option (List ℕ) → Option Said
item_of list None = None
item_of list (Some text) = Some (said.Item list text)

abbrev pub value_item : ℕ → ListKey → Option Value → Result (Option Said) ReadError
value_item number list None = Err (errors.Line number)
value_item number list (Some value) = said_by number (list_key list) (item_of list (text_value value))

-- an item stands in a list alone
abbrev pub item_says : ℕ → Option ListKey → List ℕ → Result (Option Said) ReadError
item_says number None rest = Err (errors.Line number)
item_says number (Some list) rest = value_item number list (value_of rest)

-- the line's number is one more than the lines before it

-- what a line of this kind says in its place, before these lines, or how it is refused
abbrev pub says : Place → Kind → List ℕ → List (List ℕ) → Result (Option Said) ReadError
says place Skipped rest after = Ok None
says place Start rest after = if place.begun then Err (errors.Line (place.passed + 1)) else Ok None
says place (Known key) rest after = if has_key key place.keys then Err (errors.Line (place.passed + 1)) else known_says (place.passed + 1) key (value_of rest)
says place (Opens list) rest after =
    if has_key (list_key list) place.keys then Err (errors.Line (place.passed + 1)) else opening_says (place.passed + 1) list (item_follows after)
says place Unknown rest after = Ok None
says place Item rest after = item_says (place.passed + 1) place.list rest
says place Other rest after = Err (errors.Line (place.passed + 1))

-- the first refusal, or all that is said
abbrev pub joined : Result (Option Said) ReadError → Result (List Said) ReadError → Result (List Said) ReadError
joined (Err e) more = Err e
joined (Ok None) more = more
joined (Ok (Some s)) (Err e) = Err e
joined (Ok (Some s)) (Ok more) = Ok (s ∷ more)

-- what lines say behind these kinds of lines
abbrev pub said_from : List Kind → List (List ℕ) → Result (List Said) ReadError
said_from before [] = Ok []
said_from before (line ∷ after) =
    let kind : Kind × List ℕ = kind_in (skips before) line in
    joined (says (place_of before) kind.0 kind.1 after) (said_from (kind.0 ∷ before) after)

-- the configuration with one setting replaced; an item goes behind those of its list
abbrev pub set_said : Said → ServerConf → ServerConf
set_said (said.Number key value) conf = set_number key value conf
set_said (said.Flag key value) conf = set_flag key value conf
set_said (said.Text key value) conf = set_text key value conf
set_said (said.OptionalText key value) conf = set_optional_text key value conf
set_said (said.OptionalNumber key value) conf = set_optional_number key value conf
set_said (said.Scale value) conf = set_scale value conf
set_said (said.Empty list) conf = set_list list [] conf
set_said (said.Item list text) conf = set_list list (push (held_list list conf) text) conf

-- the configuration overridden by what is said
abbrev pub overridden : ServerConf → List Said → ServerConf
overridden conf [] = conf
overridden conf (s ∷ more) = overridden (set_said s conf) more

abbrev pub overridden_by : ServerConf → Result (List Said) ReadError → Result ServerConf ReadError
overridden_by conf (Err e) = Err e
overridden_by conf (Ok saids) = Ok (overridden conf saids)

-- what a configuration text says
unfoldable pub configuration : List ℕ → Result ServerConf ReadError
configuration bytes = overridden_by defaults (said_from [] (lines bytes))

-- a configuration that no rule refuses
abbrev pub allowed_by : ServerConf → Result (Unit {0}) Key → Result ServerConf ReadError
allowed_by conf (Ok x) = Ok conf
allowed_by conf (Err key) = Err (errors.Invalid key)

-- what is read, if it breaks no rule
abbrev pub valid : Result ServerConf ReadError → Result ServerConf ReadError
valid (Err e) = Err e
valid (Ok conf) = allowed_by conf (judged conf)

-- the text of a new configuration
abbrev pub new_text : List ℕ
new_text = codes "---" ++ (10 ∷ codes "version: 1")

-- a daemon where the configuration or the flag asks for it
abbrev pub merged : Opt → ServerConf → ServerConf
merged opt conf = record conf { daemon = conf.daemon || opt.daemon }

abbrev pub merged_by : Opt → Result ServerConf ReadError → Result ServerConf ReadError
merged_by opt (Err e) = Err e
merged_by opt (Ok conf) = Ok (merged opt conf)

-- what is read from a file that answered so
abbrev pub loaded : Result (List ℕ) FileError → Result ServerConf ReadError
loaded (Ok text) = valid (configuration text)
loaded (Err files.Failed) = Err errors.Fault
loaded (Err files.NoMemory) = Err errors.NoMemory

-- the configuration after what a line says
abbrev pub set_by : ServerConf → Result (Option Said) ReadError → Result ServerConf ReadError
set_by conf (Err e) = Err e
set_by conf (Ok None) = Ok conf
set_by conf (Ok (Some s)) = Ok (set_said s conf)

-- the answer is the definition's, unless memory ran out
abbrev pub Answers : {A : Type 0} → Result A ReadError → Result A ReadError → Type 0
Answers (Err errors.NoMemory) read = Unit {0}
Answers (Ok x) read = read ≡ Ok x
Answers (Err (errors.Line number)) read = read ≡ Err (errors.Line number)
Answers (Err (errors.Value key number)) read = read ≡ Err (errors.Value key number)
Answers (Err (errors.Invalid key)) read = read ≡ Err (errors.Invalid key)
Answers (Err errors.Fault) read = read ≡ Err errors.Fault
Answers (Err errors.NoPath) read = read ≡ Err errors.NoPath

-- a configuration that was changed, where it was
abbrev pub changed : Result (Unit {0}) ReadError → ServerConf → Result ServerConf ReadError
changed (Ok x) conf = Ok conf
changed (Err e) conf = Err e
