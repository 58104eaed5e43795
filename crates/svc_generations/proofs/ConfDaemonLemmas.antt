-- A configuration of which no line makes the server a daemon doesn't either.
use Rattle.std.proofs.Common.{◌≡◌, ◌⊎◌, ℕ, ◌+◌, Bool, true, false, not, ◌&&◌, List, [], ◌∷◌, Option, Some, None, Result, Ok, Err, inl, inr, refl, sym, ap, subst, ◌∙◌, arith, if◌then◌else◌}
use Rattle.std.specs.List.{list_all}
use Rattle.std.specs.Str.{is_utf8}
use Rattle.std.specs.Str.Lines.{lines}
use Rattle.std.proofs.lemmas.Bool.{and_parts}
use Rattle.svc_base.specs.Words.{is_feed}
use Rattle.svc_base.proofs.LineLemmas.{lines-last}
use Rattle.svc_conf.specs.declared.server.configuration.ServerConf.{ServerConf}
use Rattle.svc_conf.specs.declared.server.configuration.key.Key.{Key}
use Rattle.svc_conf.specs.declared.server.configuration.field.NumberKey.{NumberKey}
use Rattle.svc_conf.specs.declared.server.configuration.field.NumberKey.TheVariants as Numbers
use Rattle.svc_conf.specs.declared.server.configuration.field.FlagKey.{FlagKey}
use Rattle.svc_conf.specs.declared.server.configuration.field.FlagKey.TheVariants as Flags
use Rattle.svc_conf.specs.declared.server.configuration.field.TextKey.{TextKey}
use Rattle.svc_conf.specs.declared.server.configuration.field.TextKey.TheVariants as Texts
use Rattle.svc_conf.specs.declared.server.configuration.field.OptionalTextKey.{OptionalTextKey}
use Rattle.svc_conf.specs.declared.server.configuration.field.OptionalTextKey.TheVariants as OptionalTexts
use Rattle.svc_conf.specs.declared.server.configuration.field.OptionalNumberKey.{OptionalNumberKey}
use Rattle.svc_conf.specs.declared.server.configuration.field.OptionalNumberKey.TheVariants as OptionalNumbers
use Rattle.svc_conf.specs.declared.server.configuration.field.ListKey.{ListKey}
use Rattle.svc_conf.specs.declared.server.configuration.field.ListKey.TheVariants as Lists
use Rattle.svc_conf.specs.declared.server.configuration.kind.Kind.{Kind}
use Rattle.svc_conf.specs.declared.server.configuration.kind.Kind.TheVariants.{Skipped, Start, Known, Opens, Unknown, Item, Other}
use Rattle.svc_conf.specs.declared.server.configuration.place.Place.{Place}
use Rattle.svc_conf.specs.declared.server.configuration.values.Value.{Value}
use Rattle.svc_conf.specs.declared.server.configuration.said.Said.{Said}
use Rattle.svc_conf.specs.declared.server.configuration.said.Said.TheVariants as said
use Rattle.svc_conf.specs.declared.server.configuration.read_error.ReadError.{ReadError}
use Rattle.svc_conf.specs.declared.server.configuration.read_error.ReadError.TheVariants as errors
use Rattle.svc_conf.specs.Configuration.{defaults}
use Rattle.svc_conf.specs.Fields.{field_of, list_key, set_number, set_flag, set_text, set_optional_text, set_optional_number, set_list}
use Rattle.svc_conf.specs.TextLines.{is_inner}
use Rattle.svc_conf.specs.Kinds.{kind_of, kind_in, skips, place_of}
use Rattle.svc_conf.specs.Values.{value_of, text_value, said_of}
use Rattle.svc_conf.specs.ConfigurationText.{has_key, said_by, known_says, opening_says, item_of, value_item, item_says, item_follows, says, joined, said_from, set_said, overridden, overridden_by, configuration}
use Rattle.svc_main.proofs.PieceLemmas.{none_of, none_each}
use Rattle.svc_main.specs.TextLines.{has_daemon, is_daemon}

-- ---- what one line says of the flag

-- the flag is set to this
abbrev pub flag_said : Bool → Said
flag_said v = said.Flag Flags.Daemon v

flag_by : (n : ℕ) (key : Key) (o : Option Said) (v : Bool) → said_by n key o ≡ Ok (Some (flag_said v)) → o ≡ Some (flag_said v)
flag_by n key None v e = absurd (cc)
flag_by n key (Some s) v e = cc

known_alone : (n : ℕ) (key : Key) (o : Option Value) (v : Bool) → known_says n key o ≡ Ok (Some (flag_said v)) → known_says 1 key o ≡ Ok (Some (flag_said v))
known_alone n key None v e = absurd (cc)
known_alone n key (Some value) v e = ap (said_by 1 key) (flag_by n key (said_of (field_of key) value) v e)

no_flag_text : (n : ℕ) (list : ListKey) (o : Option (List ℕ)) (v : Bool) → said_by n (list_key list) (item_of list o) ≡ Ok (Some (flag_said v)) → ⊥
no_flag_text n list None v e = cc
no_flag_text n list (Some text) v e = cc

no_flag_value : (n : ℕ) (list : ListKey) (o : Option Value) (v : Bool) → value_item n list o ≡ Ok (Some (flag_said v)) → ⊥
no_flag_value n list None v e = cc
no_flag_value n list (Some value) v e = no_flag_text n list (text_value value) v e

no_flag_item : (n : ℕ) (o : Option ListKey) (rest : List ℕ) (v : Bool) → item_says n o rest ≡ Ok (Some (flag_said v)) → ⊥
no_flag_item n None rest v e = cc
no_flag_item n (Some list) rest v e = no_flag_value n list (value_of rest) v e

no_flag_opening : (n : ℕ) (list : ListKey) (followed : Bool) (v : Bool) → opening_says n list followed ≡ Ok (Some (flag_said v)) → ⊥
no_flag_opening n list true v e = cc
no_flag_opening n list false v e = cc

-- a line that says the flag says it alone too
flag_alone : (place : Place) (kind : Kind) (rest : List ℕ) (after : List (List ℕ)) (v : Bool) → says place kind rest after ≡ Ok (Some (flag_said v))
    → says (place_of []) kind rest [] ≡ Ok (Some (flag_said v))
flag_alone place Skipped rest after v e = absurd (cc)
flag_alone place Start rest after v e = by place.begun e
  where
    by : (b : Bool) → (if b then Err (errors.Line (place.passed + 1)) else Ok None) ≡ Ok (Some (flag_said v))
        → says (place_of []) Start rest [] ≡ Ok (Some (flag_said v))
    by true h = absurd (cc)
    by false h = absurd (cc)
flag_alone place (Known key) rest after v e = by (has_key key place.keys) e
  where
    by : (b : Bool) → (if b then Err (errors.Line (place.passed + 1)) else known_says (place.passed + 1) key (value_of rest)) ≡ Ok (Some (flag_said v))
        → known_says 1 key (value_of rest) ≡ Ok (Some (flag_said v))
    by true h = absurd (cc)
    by false h = known_alone (place.passed + 1) key (value_of rest) v h
flag_alone place (Opens list) rest after v e = absurd (by (has_key (list_key list) place.keys) e)
  where
    by : (b : Bool) → (if b then Err (errors.Line (place.passed + 1)) else opening_says (place.passed + 1) list (item_follows after)) ≡ Ok (Some (flag_said v))
        → ⊥
    by true h = cc
    by false h = no_flag_opening (place.passed + 1) list (item_follows after) v h
flag_alone place Unknown rest after v e = absurd (cc)
flag_alone place Item rest after v e = absurd (no_flag_item (place.passed + 1) place.list rest v e)
flag_alone place Other rest after v e = absurd (cc)

kind_alone : (s : Bool) (line : List ℕ) → ((kind_in s line).0 ≡ Skipped) ⊎ (kind_in s line ≡ kind_in false line)
kind_alone s line = by (s && is_inner line)
  where
    by : (b : Bool) → let k : Kind × List ℕ = if b then (Skipped, []) else kind_of line in (k.0 ≡ Skipped) ⊎ (k ≡ kind_of line)
    by true = inl refl
    by false = inr refl

line_alone : (before : List Kind) (line : List ℕ) (after : List (List ℕ)) (v : Bool)
    → says (place_of before) (kind_in (skips before) line).0 (kind_in (skips before) line).1 after ≡ Ok (Some (flag_said v))
    → says (place_of []) (kind_in false line).0 (kind_in false line).1 [] ≡ Ok (Some (flag_said v))
line_alone before line after v e = elim (kind_alone (skips before) line) [
  | inl skipped ↦
      absurd (let none : Ok None ≡ Ok (Some (flag_said v)) =
      subst (λ (k : Kind). says (place_of before) k (kind_in (skips before) line).1 after ≡ Ok (Some (flag_said v))) skipped e in cc)
  | inr same ↦
      flag_alone (place_of before) (kind_in false line).0 (kind_in false line).1 after v
      (subst (λ (k : Kind × List ℕ). says (place_of before) k.0 k.1 after ≡ Ok (Some (flag_said v))) same e)
]

one_alone : (line : List ℕ) (v : Bool) → none_of is_feed line ≡ true
    → says (place_of []) (kind_in false line).0 (kind_in false line).1 [] ≡ Ok (Some (flag_said v)) → lines line ≡ line ∷ []
unfolding kind_of
one_alone [] v none e = absurd (cc)
one_alone (b ∷ bs) v none e = lines-last (b ∷ bs) (omega arith) (none_each is_feed (b ∷ bs) none)

conf_alone : (line : List ℕ) (v : Bool) → lines line ≡ line ∷ [] → says (place_of []) (kind_in false line).0 (kind_in false line).1 [] ≡ Ok (Some (flag_said v))
    → configuration line ≡ Ok (set_flag Flags.Daemon v defaults)
unfolding configuration
conf_alone line v one e =
    ap (λ (ls : List (List ℕ)). overridden_by defaults (said_from [] ls)) one
    ∙ ap (λ (r : Result (Option Said) ReadError). overridden_by defaults (joined r (Ok []))) e

-- a line of text without a line feed, which doesn't make the server a daemon
abbrev pub is_quiet : List ℕ → Bool
is_quiet line = is_utf8 line && (none_of is_feed line && not (is_daemon line))

not_on : (b : Bool) → not b ≡ true → b ≡ false
not_on true e = absurd (cc)
not_on false e = refl

flag_is : (line : List ℕ) (v : Bool) → is_utf8 line ≡ true → is_daemon line ≡ false → configuration line ≡ Ok (set_flag Flags.Daemon v defaults) → v ≡ false
unfolding is_daemon
flag_is line v text off e = sym (ap has_daemon e) ∙ (rw text at off)

flag_off : (before : List Kind) (line : List ℕ) (after : List (List ℕ)) (v : Bool) → is_quiet line ≡ true
    → says (place_of before) (kind_in (skips before) line).0 (kind_in (skips before) line).1 after ≡ Ok (Some (flag_said v)) → v ≡ false
flag_off before line after v quiet e =
    let parts = and_parts (is_utf8 line) (none_of is_feed line && not (is_daemon line)) quiet in
    let more = and_parts (none_of is_feed line) (not (is_daemon line)) parts.1 in
    let alone = line_alone before line after v e in
    flag_is line v parts.0 (not_on (is_daemon line) more.1) (conf_alone line v (one_alone line v more.0 alone) alone)

-- ---- what is set

number_keeps : (key : NumberKey) (x : ℕ) (conf : ServerConf) → (set_number key x conf).daemon ≡ conf.daemon
number_keeps Numbers.Version x conf = refl
number_keeps _ x conf = refl

flag_keeps : (key : FlagKey) (x : Bool) (conf : ServerConf) → ((v : Bool) → said.Flag key x ≡ flag_said v → v ≡ false) → conf.daemon ≡ false
    → (set_flag key x conf).daemon ≡ false
flag_keeps Flags.Daemon x conf says off = says x refl
flag_keeps _ x conf says off = off

text_keeps : (key : TextKey) (x : List ℕ) (conf : ServerConf) → (set_text key x conf).daemon ≡ conf.daemon
text_keeps Texts.PidFile x conf = refl
text_keeps _ x conf = refl

optional_text_keeps : (key : OptionalTextKey) (x : Option (List ℕ)) (conf : ServerConf) → (set_optional_text key x conf).daemon ≡ conf.daemon
optional_text_keeps OptionalTexts.ErrorLog x conf = refl
optional_text_keeps _ x conf = refl

optional_number_keeps : (key : OptionalNumberKey) (x : Option ℕ) (conf : ServerConf) → (set_optional_number key x conf).daemon ≡ conf.daemon
optional_number_keeps OptionalNumbers.GracePeriodSeconds x conf = refl
optional_number_keeps _ x conf = refl

list_keeps : (key : ListKey) (x : List (List ℕ)) (conf : ServerConf) → (set_list key x conf).daemon ≡ conf.daemon
list_keeps Lists.ClientBindToIpv4 x conf = refl
list_keeps _ x conf = refl

said_keeps : (s : Said) (conf : ServerConf) → ((v : Bool) → s ≡ flag_said v → v ≡ false) → conf.daemon ≡ false → (set_said s conf).daemon ≡ false
said_keeps (said.Number key x) conf says off = number_keeps key x conf ∙ off
said_keeps (said.Flag key x) conf says off = flag_keeps key x conf says off
said_keeps (said.Text key x) conf says off = text_keeps key x conf ∙ off
said_keeps (said.OptionalText key x) conf says off = optional_text_keeps key x conf ∙ off
said_keeps (said.OptionalNumber key x) conf says off = optional_number_keeps key x conf ∙ off
said_keeps (said.Scale x) conf says off = off
said_keeps (said.Empty key) conf says off = list_keeps key [] conf ∙ off
said_keeps (said.Item key x) conf says off = list_keeps key _ conf ∙ off

-- ---- all lines

-- what one line says, and then the others
line_then : (r : Result (Option Said) ReadError) (m : Result (List Said) ReadError) (saids : List Said) (conf : ServerConf)
    → ((s : Said) (v : Bool) → r ≡ Ok (Some s) → s ≡ flag_said v → v ≡ false)
    → ((more : List Said) (c : ServerConf) → m ≡ Ok more → c.daemon ≡ false → (overridden c more).daemon ≡ false) → joined r m ≡ Ok saids → conf.daemon ≡ false
    → (overridden conf saids).daemon ≡ false
line_then (Err x) m saids conf here later e off = absurd (cc)
line_then (Ok None) m saids conf here later e off = later saids conf e off
line_then (Ok (Some s)) (Err x) saids conf here later e off = absurd (cc)
line_then (Ok (Some s)) (Ok more) saids conf here later e off =
    let all : s ∷ more ≡ saids = cc in
    subst (λ (xs : List Said). (overridden conf xs).daemon ≡ false) all (later more (set_said s conf) refl (said_keeps s conf (λ v is. here s v refl is) off))

quiet_lines : (before : List Kind) (ls : List (List ℕ)) (saids : List Said) (conf : ServerConf) → list_all is_quiet ls ≡ true → said_from before ls ≡ Ok saids
    → conf.daemon ≡ false → (overridden conf saids).daemon ≡ false
quiet_lines before [] saids conf quiet e off =
    let none : [] ≡ saids = cc in
    subst (λ (xs : List Said). (overridden conf xs).daemon ≡ false) none off
quiet_lines before (line ∷ after) saids conf quiet e off =
    let rest = and_parts (is_quiet line) (list_all is_quiet after) quiet in
    let kind : Kind × List ℕ = kind_in (skips before) line in
    line_then (says (place_of before) kind.0 kind.1 after) (said_from (kind.0 ∷ before) after) saids conf
    (λ s v said is. flag_off before line after v rest.0 (said ∙ ap (λ (x : Said). Ok (Some x)) is))
    (λ more c next no. quiet_lines (kind.0 ∷ before) after more c rest.1 next no) e off

conf_of : (r : Result (List Said) ReadError) (conf : ServerConf) → ((saids : List Said) → r ≡ Ok saids → (overridden defaults saids).daemon ≡ false)
    → overridden_by defaults r ≡ Ok conf → conf.daemon ≡ false
conf_of (Err x) conf each e = absurd (cc)
conf_of (Ok saids) conf each e =
    let is : overridden defaults saids ≡ conf = cc in
    subst (λ (c : ServerConf). c.daemon ≡ false) is (each saids refl)

-- a configuration of such lines
pub quiet_conf : (ls : List (List ℕ)) (conf : ServerConf) → list_all is_quiet ls ≡ true → overridden_by defaults (said_from [] ls) ≡ Ok conf
    → conf.daemon ≡ false
quiet_conf ls conf quiet e = conf_of (said_from [] ls) conf (λ saids is. quiet_lines [] ls saids defaults quiet is refl) e
