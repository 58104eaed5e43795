-- A refused line of a configuration is one of its lines.
use Rattle.std.proofs.Common.{◌≡◌, ℕ, ◌+◌, ◌≤◌, Bool, true, false, cond, List, [], ◌∷◌, length, Option, Some, None, Result, Ok, Err, subst, zero-add, arith}
use Rattle.std.specs.Str.Lines.{lines}
use Rattle.svc_conf.specs.declared.server.configuration.ServerConf.{ServerConf}
use Rattle.svc_conf.specs.declared.server.configuration.key.Key.{Key}
use Rattle.svc_conf.specs.declared.server.configuration.field.ListKey.{ListKey}
use Rattle.svc_conf.specs.declared.server.configuration.kind.Kind.{Kind}
use Rattle.svc_conf.specs.declared.server.configuration.kind.Kind.TheVariants.{Skipped, Start, Known, Opens, Unknown, Item, Other}
use Rattle.svc_conf.specs.declared.server.configuration.place.Place.{Place}
use Rattle.svc_conf.specs.declared.server.configuration.values.Value.{Value}
use Rattle.svc_conf.specs.declared.server.configuration.said.Said.{Said}
use Rattle.svc_conf.specs.declared.server.configuration.read_error.ReadError.{ReadError}
use Rattle.svc_conf.specs.declared.server.configuration.read_error.ReadError.TheVariants as errors
use Rattle.svc_conf.specs.Configuration.{defaults}
use Rattle.svc_conf.specs.Fields.{field_of, list_key}
use Rattle.svc_conf.specs.Kinds.{kind_in, skips, place_of}
use Rattle.svc_conf.specs.Values.{value_of, said_of, text_value}
use Rattle.svc_conf.specs.ConfigurationText.{item_follows, has_key, said_by, known_says, item_of, value_item, item_says, says, joined, said_from, overridden_by, configuration}

-- the error names a line up to this one
abbrev pub NamesUpTo : ℕ → ReadError → Type 0
NamesUpTo n (errors.Line m) = m ≤ n
NamesUpTo n (errors.Value key m) = m ≤ n
NamesUpTo n (errors.Invalid key) = ⊥
NamesUpTo n errors.Fault = ⊥
NamesUpTo n errors.NoPath = ⊥
NamesUpTo n errors.NoMemory = ⊥

-- where it is refused, then at a line up to this one
abbrev pub RefusedUpTo : {A : Type 0} → ℕ → Result A ReadError → Type 0
RefusedUpTo n (Ok x) = Unit {0}
RefusedUpTo n (Err e) = NamesUpTo n e

either : {A : Type 0} (n : ℕ) (b : Bool) (x y : Result A ReadError) → RefusedUpTo n x → RefusedUpTo n y → RefusedUpTo n (cond b x y)
either n true x y p q = p
either n false x y p q = q

said_to : (n m : ℕ) (key : Key) (o : Option Said) → m ≤ n → RefusedUpTo n (said_by m key o)
said_to n m key None h = h
said_to n m key (Some s) h = tt

known_to : (n m : ℕ) (key : Key) (o : Option Value) → m ≤ n → RefusedUpTo n (known_says m key o)
known_to n m key None h = h
known_to n m key (Some v) h = said_to n m key (said_of (field_of key) v) h

value_item_to : (n m : ℕ) (list : ListKey) (o : Option Value) → m ≤ n → RefusedUpTo n (value_item m list o)
value_item_to n m list None h = h
value_item_to n m list (Some v) h = said_to n m (list_key list) (item_of list (text_value v)) h

item_to : (n m : ℕ) (o : Option ListKey) (rest : List ℕ) → m ≤ n → RefusedUpTo n (item_says m o rest)
item_to n m None rest h = h
item_to n m (Some list) rest h = value_item_to n m list (value_of rest) h

says_to : (n : ℕ) (place : Place) (kind : Kind) (rest : List ℕ) (after : List (List ℕ)) → place.passed + 1 ≤ n → RefusedUpTo n (says place kind rest after)
says_to n place Skipped rest after h = tt
says_to n place Start rest after h = either n place.begun _ _ h tt
says_to n place (Known key) rest after h = either n (has_key key place.keys) _ _ h (known_to n _ key (value_of rest) h)
says_to n place (Opens list) rest after h = either n (has_key (list_key list) place.keys) _ _ h (either n (item_follows after) _ _ tt h)
says_to n place Unknown rest after h = tt
says_to n place Item rest after h = item_to n _ place.list rest h
says_to n place Other rest after h = h

joined_to : (n : ℕ) (r : Result (Option Said) ReadError) (more : Result (List Said) ReadError) → RefusedUpTo n r → RefusedUpTo n more
    → RefusedUpTo n (joined r more)
joined_to n (Err e) more p q = p
joined_to n (Ok None) more p q = q
joined_to n (Ok (Some s)) (Err e) p q = q
joined_to n (Ok (Some s)) (Ok more) p q = tt

lines_to : (before : List Kind) (ls : List (List ℕ)) → RefusedUpTo (length before + length ls) (said_from before ls)
lines_to before [] = tt
lines_to before (line ∷ after) =
    let kind : Kind × List ℕ = kind_in (skips before) line in
    let n : ℕ = length before + length (line ∷ after) in
    let same : length (kind.0 ∷ before) + length after ≡ n = omega arith in
    let more : RefusedUpTo n (said_from (kind.0 ∷ before) after) =
    subst (λ m. RefusedUpTo m (said_from (kind.0 ∷ before) after)) same (lines_to (kind.0 ∷ before) after) in
    joined_to n _ _ (says_to n (place_of before) kind.0 kind.1 after (omega arith)) more

overridden_to : (n : ℕ) (conf : ServerConf) (r : Result (List Said) ReadError) → RefusedUpTo n r → RefusedUpTo n (overridden_by conf r)
overridden_to n conf (Err e) p = p
overridden_to n conf (Ok saids) p = tt

pub text_refused : (text : List ℕ) → RefusedUpTo (length (lines text)) (configuration text)
unfolding configuration
text_refused text =
    overridden_to (length (lines text)) defaults _
    (subst (λ (n : ℕ). RefusedUpTo n (said_from [] (lines text))) (zero-add (length (lines text))) (lines_to [] (lines text)))

-- the same of the error that it is
pub error_in : (text : List ℕ) (e : ReadError) → configuration text ≡ Err e → NamesUpTo (length (lines text)) e
error_in text e h = subst (RefusedUpTo (length (lines text))) h (text_refused text)
