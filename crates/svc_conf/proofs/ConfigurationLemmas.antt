-- How what a text says goes along its lines.
use Rattle.std.proofs.Common.{◌≡◌, ℕ, ◌+◌, List, [], ◌∷◌, length, Option, Some, None, Result, Ok, Err, refl, sym, ap, subst, ◌∙◌, arith}
use Rattle.std.specs.Str.Lines.{lines}
use Rattle.svc_conf.specs.declared.server.configuration.ServerConf.{ServerConf}
use Rattle.svc_conf.specs.declared.server.configuration.kind.Kind.{Kind}
use Rattle.svc_conf.specs.declared.server.configuration.kind.Kind.TheVariants.{Skipped, Start, Known, Opens, Unknown, Item, Other}
use Rattle.svc_conf.specs.declared.server.configuration.place.Place.{Place}
use Rattle.svc_conf.specs.declared.server.configuration.said.Said.{Said}
use Rattle.svc_conf.specs.declared.server.configuration.read_error.ReadError.{ReadError}
use Rattle.svc_conf.specs.Configuration.{defaults}
use Rattle.svc_conf.specs.Kinds.{kind_in, place_of, behind_line}
use Rattle.svc_conf.specs.ConfigurationText.{says, joined, said_from, set_said, set_by, overridden_by, configuration, valid, new_text, Answers}
use Rattle.svc_conf.specs.declared.server.configuration.read_error.ReadError.TheVariants as errors
use Rattle.svc_conf.proofs.ConfigurationExamples.{started}

-- what is still to be said behind these lines decides what the text says
pub record IsReading (text rest : List ℕ) (place : Place) (conf : ServerConf) : Type 0 where
  pub before : List Kind
  pub place_is : place ≡ place_of before
  pub rest_says : overridden_by conf (said_from before (lines rest)) ≡ configuration text

pub place_of-behind : (before : List Kind) (kind : Kind) → place_of (kind ∷ before) ≡ behind_line (place_of before) kind
place_of-behind before Skipped = let e : length (Skipped ∷ before) ≡ length before + 1 = omega arith in rw e refl
place_of-behind before Start = let e : length (Start ∷ before) ≡ length before + 1 = omega arith in rw e refl
place_of-behind before (Known key) = let e : length (Known key ∷ before) ≡ length before + 1 = omega arith in rw e refl
place_of-behind before (Opens list) = let e : length (Opens list ∷ before) ≡ length before + 1 = omega arith in rw e refl
place_of-behind before Unknown = let e : length (Unknown ∷ before) ≡ length before + 1 = omega arith in rw e refl
place_of-behind before Item = let e : length (Item ∷ before) ≡ length before + 1 = omega arith in rw e refl
place_of-behind before Other = let e : length (Other ∷ before) ≡ length before + 1 = omega arith in rw e refl

pub sets : (r : Result (Option Said) ReadError) (more : Result (List Said) ReadError) (conf new : ServerConf) → set_by conf r ≡ Ok new
    → overridden_by conf (joined r more) ≡ overridden_by new more
sets (Err e) more conf new h = absurd cc
sets (Ok None) more conf new h = let e : conf ≡ new = cc in ap (λ (c : ServerConf). overridden_by c more) e
sets (Ok (Some s)) (Err e) conf new h = refl
sets (Ok (Some s)) (Ok more) conf new h = let e : set_said s conf ≡ new = cc in ap (λ (c : ServerConf). overridden_by c (Ok more)) e

stops : (r : Result (Option Said) ReadError) (more : Result (List Said) ReadError) (conf : ServerConf) (e : ReadError) → set_by conf r ≡ Err e
    → overridden_by conf (joined r more) ≡ Err e
stops (Err f) more conf e h = let g : f ≡ e = cc in rw g refl
stops (Ok None) more conf e h = absurd cc
stops (Ok (Some s)) more conf e h = absurd cc

pub reads_none : (text : List ℕ) → IsReading text text (place_of []) defaults
unfolding configuration
reads_none text = record { before = []; place_is = refl; rest_says = refl }

one_line_says : (text rest line after : List ℕ) (place : Place) (conf : ServerConf) (r : IsReading text rest place conf) → lines rest ≡ line ∷ lines after
    → overridden_by conf
    (joined (says place (kind_in place.skips line).0 (kind_in place.skips line).1 (lines after))
    (said_from ((kind_in place.skips line).0 ∷ r.before) (lines after))) ≡ configuration text
one_line_says text rest line after place conf r e =
    rw r.place_is (sym (ap (λ (ls : List (List ℕ)). overridden_by conf (said_from r.before ls)) e) ∙ r.rest_says)

pub reads_more : (text rest line after : List ℕ) (place behind : Place) (conf new : ServerConf) → IsReading text rest place conf
    → lines rest ≡ line ∷ lines after
    → set_by conf (says place (kind_in place.skips line).0 (kind_in place.skips line).1 (lines after)) ≡ Ok new
    → behind ≡ behind_line place (kind_in place.skips line).0 → IsReading text after behind new
reads_more text rest line after place behind conf new r e h b = record {
  before = (kind_in place.skips line).0 ∷ r.before;
  place_is = b ∙ ap (λ (p : Place). behind_line p (kind_in place.skips line).0) r.place_is ∙ sym (place_of-behind r.before (kind_in place.skips line).0);
  rest_says = sym (sets _ (said_from ((kind_in place.skips line).0 ∷ r.before) (lines after)) conf new h) ∙ one_line_says text rest line after place conf r e;
}

pub refuses : (text rest line after : List ℕ) (place : Place) (conf : ServerConf) (error : ReadError) → IsReading text rest place conf
    → lines rest ≡ line ∷ lines after
    → set_by conf (says place (kind_in place.skips line).0 (kind_in place.skips line).1 (lines after)) ≡ Err error → configuration text ≡ Err error
refuses text rest line after place conf error r e h =
    sym (one_line_says text rest line after place conf r e) ∙ stops _ (said_from ((kind_in place.skips line).0 ∷ r.before) (lines after)) conf error h

pub passed-behind : (place : Place) (kind : Kind) → (behind_line place kind).passed ≡ place.passed + 1
passed-behind place Skipped = refl
passed-behind place Start = refl
passed-behind place (Known key) = refl
passed-behind place (Opens list) = refl
passed-behind place Unknown = refl
passed-behind place Item = refl
passed-behind place Other = refl

-- an error that is the answer to one is the answer to the other
pub error_answers : {A : Type 0} (e : ReadError) (r s : Result A ReadError) → ((f : ReadError) → r ≡ Err f → s ≡ Err f) → Answers (Err e) r → Answers (Err e) s
error_answers errors.Fault r s f h = f errors.Fault h
error_answers (errors.Line n) r s f h = f (errors.Line n) h
error_answers (errors.Value key n) r s f h = f (errors.Value key n) h
error_answers (errors.Invalid key) r s f h = f (errors.Invalid key) h
error_answers errors.NoPath r s f h = f errors.NoPath h
error_answers errors.NoMemory r s f h = tt

-- the configuration of the new text
pub new_is : (conf : ServerConf) → valid (configuration new_text) ≡ Ok conf → conf ≡ record defaults { version = 1 }
new_is conf h =
    let made : valid (configuration new_text) ≡ Ok (record defaults { version = 1 }) = ap valid started in
    let e = sym h ∙ made in
    cc

-- nothing but want of memory keeps the new text from being read
answered : (error : ReadError) (conf : ServerConf) → Answers (Err error) (Ok conf) → error ≡ errors.NoMemory
answered errors.NoMemory conf h = refl
answered errors.Fault conf h = absurd cc
answered (errors.Line n) conf h = absurd cc
answered (errors.Value key n) conf h = absurd cc
answered (errors.Invalid key) conf h = absurd cc
answered errors.NoPath conf h = absurd cc

pub new_refused : (result : Result ServerConf ReadError) (error : ReadError) → result ≡ Err error → Answers result (valid (configuration new_text))
    → error ≡ errors.NoMemory
new_refused result error e h =
    let made : valid (configuration new_text) ≡ Ok (record defaults { version = 1 }) = ap valid started in
    answered error (record defaults { version = 1 })
    (subst (λ (r : Result ServerConf ReadError). Answers (Err error) r) made
    (subst (λ (r : Result ServerConf ReadError). Answers r (valid (configuration new_text))) e h))
