-- A configuration that was read is accepted, with the flags too.
use Rattle.std.proofs.Common.{◌≡◌, ℕ, List, Option, Some, None, Result, Ok, Err, MatchOption, IfOk, refl, sym, ap, ◌∙◌}
use Rattle.std.specs.Result.{IfErr}
use Rattle.svc_conf.specs.declared.server.configuration.ServerConf.{ServerConf}
use Rattle.svc_conf.specs.declared.server.configuration.Opt.{Opt}
use Rattle.svc_conf.specs.declared.server.configuration.key.Key.{Key}
use Rattle.svc_conf.specs.declared.server.configuration.read_error.ReadError.{ReadError}
use Rattle.svc_conf.specs.declared.server.configuration.read_error.ReadError.TheVariants as errors
use Rattle.svc_base.specs.declared.files.FileError.{FileError}
use Rattle.svc_base.specs.declared.files.FileError.TheVariants as files
use Rattle.svc_conf.specs.Configuration.{judged}
use Rattle.svc_conf.specs.ConfigurationText.{configuration, allowed_by, valid, loaded}
use Rattle.svc_server.specs.declared.server.Server.{Server}
use Rattle.svc_server.specs.Servers.{merged}
use Rattle.svc_server.specs.Making.{fresh, Configures}

-- nothing is judged of what the flags set
judged-merged : (options : Option Opt) (conf : ServerConf) → judged (merged options conf) ≡ judged conf
judged-merged None conf = refl
judged-merged (Some opt) conf = refl

abbrev pub fresh_read : Result ServerConf ReadError
fresh_read = Ok fresh

pub fresh_accepted : (conf : ServerConf) → fresh_read ≡ Ok conf → judged conf ≡ Ok tt
fresh_accepted conf e = let same : fresh ≡ conf = cc in ap judged (sym same)

allowed : (c conf : ServerConf) (j : Result (Unit {0}) Key) → judged c ≡ j → allowed_by c j ≡ Ok conf → judged conf ≡ Ok tt
allowed c conf (Ok x) e h = let same : c ≡ conf = cc in ap judged (sym same) ∙ e
allowed c conf (Err key) e h = absurd cc

valid_accepted : (r : Result ServerConf ReadError) (conf : ServerConf) → valid r ≡ Ok conf → judged conf ≡ Ok tt
valid_accepted (Err e) conf h = absurd cc
valid_accepted (Ok c) conf h = allowed c conf (judged c) refl h

pub loaded_accepted : (answer : Result (List ℕ) FileError) (conf : ServerConf) → loaded answer ≡ Ok conf → judged conf ≡ Ok tt
loaded_accepted (Ok text) conf h = valid_accepted (configuration text) conf h
loaded_accepted (Err files.Failed) conf h = absurd cc
loaded_accepted (Err files.NoMemory) conf h = absurd cc

-- what a server is made of
pub configures : {B F : Type 0} (options : Option Opt) (conf : ServerConf) (read : Result ServerConf ReadError) (result : Result (Server B F) ReadError)
    → read ≡ Ok conf → judged conf ≡ Ok tt
    → IfOk result (λ server. server.configuration ≡ merged options conf)
    → IfErr result (λ error. (key : Key) × (error ≡ errors.Invalid key) × (judged (merged options conf) ≡ Err key)) → Configures options read result
configures options conf read (Ok server) e a c r = (conf, e, c)
configures options conf read (Err error) e a c (key, is, refused) = absurd (let both = sym a ∙ sym (judged-merged options conf) ∙ refused in cc)

pub match_both : {A : Type 0} (o : Option A) {P P' : Type 0} {Q Q' : A → Type 0} → MatchOption o P Q → (P → P') → ((x : A) → Q x → Q' x) → MatchOption o P' Q'
match_both None h f g = f h
match_both (Some x) h f g = g x h
