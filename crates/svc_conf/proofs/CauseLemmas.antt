-- No text makes a fault of files, or is without a path.
use Rattle.std.proofs.Common.{◌≡◌, ℕ, Bool, true, false, cond, List, [], ◌∷◌, Option, Some, None, Result, Ok, Err, subst}
use Rattle.std.specs.Str.Lines.{lines}
use Rattle.svc_conf.specs.declared.server.configuration.ServerConf.{ServerConf}
use Rattle.svc_conf.specs.declared.server.configuration.key.Key.{Key}
use Rattle.svc_conf.specs.declared.server.configuration.field.ListKey.{ListKey}
use Rattle.svc_conf.specs.declared.server.configuration.kind.Kind.{Kind}
use Rattle.svc_conf.specs.declared.server.configuration.kind.Kind.TheVariants.{Skipped, Start, Known, Opens, Unknown, Item, Other}
use Rattle.svc_conf.specs.declared.server.configuration.place.Place.{Place}
use Rattle.svc_conf.specs.declared.server.configuration.values.Value.{Value}
use Rattle.svc_conf.specs.declared.server.configuration.said.Said.{Said}
use Rattle.svc_conf.specs.declared.server.configuration.read_error.ReadError.{ReadError}
use Rattle.svc_conf.specs.declared.server.configuration.read_error.ReadError.TheVariants as errors
use Rattle.svc_base.specs.declared.files.FileError.{FileError}
use Rattle.svc_base.specs.declared.files.FileError.TheVariants as files
use Rattle.svc_conf.specs.Configuration.{defaults, judged}
use Rattle.svc_conf.specs.Fields.{field_of, list_key}
use Rattle.svc_conf.specs.Kinds.{kind_in, skips, place_of}
use Rattle.svc_conf.specs.Values.{value_of, said_of, text_value}
use Rattle.svc_conf.specs.ConfigurationText.{item_follows, has_key, said_by, known_says, item_of, value_item, item_says, says, joined, said_from, overridden_by, configuration, allowed_by, valid, loaded, Answers}

-- an error that a text can make
abbrev pub MadeByText : ReadError → Type 0
MadeByText (errors.Line n) = Unit {0}
MadeByText (errors.Value key n) = Unit {0}
MadeByText (errors.Invalid key) = Unit {0}
MadeByText errors.Fault = ⊥
MadeByText errors.NoPath = ⊥
MadeByText errors.NoMemory = ⊥

abbrev pub ByText : {A : Type 0} → Result A ReadError → Type 0
ByText (Ok x) = Unit {0}
ByText (Err e) = MadeByText e

either : {A : Type 0} (b : Bool) (x y : Result A ReadError) → ByText x → ByText y → ByText (cond b x y)
either true x y p q = p
either false x y p q = q

said_text : (n : ℕ) (key : Key) (o : Option Said) → ByText (said_by n key o)
said_text n key None = tt
said_text n key (Some s) = tt

known_text : (n : ℕ) (key : Key) (o : Option Value) → ByText (known_says n key o)
known_text n key None = tt
known_text n key (Some v) = said_text n key (said_of (field_of key) v)

value_item_text : (n : ℕ) (list : ListKey) (o : Option Value) → ByText (value_item n list o)
value_item_text n list None = tt
value_item_text n list (Some v) = said_text n (list_key list) (item_of list (text_value v))

item_text : (n : ℕ) (o : Option ListKey) (rest : List ℕ) → ByText (item_says n o rest)
item_text n None rest = tt
item_text n (Some list) rest = value_item_text n list (value_of rest)

says_text : (place : Place) (kind : Kind) (rest : List ℕ) (after : List (List ℕ)) → ByText (says place kind rest after)
says_text place Skipped rest after = tt
says_text place Start rest after = either place.begun _ _ tt tt
says_text place (Known key) rest after = either (has_key key place.keys) _ _ tt (known_text _ key (value_of rest))
says_text place (Opens list) rest after = either (has_key (list_key list) place.keys) _ _ tt (either (item_follows after) _ _ tt tt)
says_text place Unknown rest after = tt
says_text place Item rest after = item_text _ place.list rest
says_text place Other rest after = tt

joined_text : (r : Result (Option Said) ReadError) (more : Result (List Said) ReadError) → ByText r → ByText more → ByText (joined r more)
joined_text (Err e) more p q = p
joined_text (Ok None) more p q = q
joined_text (Ok (Some s)) (Err e) p q = q
joined_text (Ok (Some s)) (Ok more) p q = tt

lines_text : (before : List Kind) (ls : List (List ℕ)) → ByText (said_from before ls)
lines_text before [] = tt
lines_text before (line ∷ after) =
    joined_text _ _ (says_text (place_of before) (kind_in (skips before) line).0 (kind_in (skips before) line).1 after)
    (lines_text ((kind_in (skips before) line).0 ∷ before) after)

overridden_text : (conf : ServerConf) (r : Result (List Said) ReadError) → ByText r → ByText (overridden_by conf r)
overridden_text conf (Err e) p = p
overridden_text conf (Ok saids) p = tt

configuration_text : (text : List ℕ) → ByText (configuration text)
unfolding configuration
configuration_text text = overridden_text defaults _ (lines_text [] (lines text))

valid_text : (r : Result ServerConf ReadError) → ByText r → ByText (valid r)
valid_text (Err e) p = p
valid_text (Ok conf) p = allowed_text (judged conf)
  where
    allowed_text : (j : Result (Unit {0}) Key) → ByText (allowed_by conf j)
    allowed_text (Ok x) = tt
    allowed_text (Err key) = tt

pub no_fault : (r : Result ServerConf ReadError) (text : List ℕ) → Answers r (valid (configuration text)) → r ≡ Err errors.Fault → ⊥
no_fault r text h e =
    let made : valid (configuration text) ≡ Err errors.Fault = subst (λ v. Answers v (valid (configuration text))) e h in
    subst ByText made (valid_text _ (configuration_text text))

pub no_missing_path : (r : Result ServerConf ReadError) (answer : Result (List ℕ) FileError) → Answers r (loaded answer) → r ≡ Err errors.NoPath → ⊥
no_missing_path r answer h e = never answer (subst (λ v. Answers v (loaded answer)) e h)
  where
    never : (a : Result (List ℕ) FileError) → loaded a ≡ Err errors.NoPath → ⊥
    never (Ok text) h = subst ByText h (valid_text _ (configuration_text text))
    never (Err files.Failed) h = absurd cc
    never (Err files.NoMemory) h = absurd cc
