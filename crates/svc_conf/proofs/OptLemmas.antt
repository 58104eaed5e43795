-- The command that reads a server's flags, and what its matches give.
use Rattle.std.proofs.Common.{◌≡◌, ◌≢◌, ◌⊎◌, true, List, [], refl, sym, ap, subst, ◌∙◌, inl, inr, codes}
use Rattle.clap.specs.Walk.{Text, Row, first_of, rows_of}
use Rattle.clap.specs.Simple.{App, is_simple, matches_of}
use Rattle.clap.specs.Words.{first_value}
use Rattle.clap.specs.Takes.{takes}
use Rattle.clap.specs.Faults.{fault_of, is_simple_and_free}
use Rattle.clap.specs.Kinds.{IsAmong}
use Rattle.clap.specs.declared.error.kind.ErrorKind.{ErrorKind}
use Rattle.clap.specs.declared.error.kind.ErrorKind.TheVariants.{OutOfMemory}
use Rattle.clap.specs.declared.parser.matches.Found.{Found}
use Rattle.clap.proofs.WalkLemmas.{first_value-rows}
use Rattle.clap.proofs.OnLiterals.{clap_on_literals}
use Rattle.svc_conf.specs.declared.server.configuration.Opt.{Opt}
use Rattle.svc_conf.specs.OptWords.{opt_app, opt_of, is_true}

pub opt_free : is_simple_and_free opt_app ≡ true
unfolding clap_on_literals
opt_free = refl

pub opt_from : (f : Found) (opt : Opt) → opt.upgrade ≡ is_true (first_value f (codes "upgrade")) → opt.daemon ≡ is_true (first_value f (codes "daemon"))
    → opt.nocapture ≡ is_true (first_value f (codes "nocapture"))
    → opt.test ≡ is_true (first_value f (codes "test")) → opt.conf ≡ first_value f (codes "conf") → opt ≡ opt_of (rows_of f)
opt_from f opt u d n t c =
    let u' : opt.upgrade ≡ is_true (first_of (codes "upgrade") (rows_of f)) = u ∙ ap is_true (first_value-rows f (codes "upgrade")) in
    let d' : opt.daemon ≡ is_true (first_of (codes "daemon") (rows_of f)) = d ∙ ap is_true (first_value-rows f (codes "daemon")) in
    let n' : opt.nocapture ≡ is_true (first_of (codes "nocapture") (rows_of f)) = n ∙ ap is_true (first_value-rows f (codes "nocapture")) in
    let t' : opt.test ≡ is_true (first_of (codes "test") (rows_of f)) = t ∙ ap is_true (first_value-rows f (codes "test")) in
    let c' : opt.conf ≡ first_of (codes "conf") (rows_of f) = c ∙ first_value-rows f (codes "conf") in
    λ i. record { upgrade = u' i; daemon = d' i; nocapture = n' i; test = t' i; conf = c' i }

pub words_taken : (a : App) (words : List Text) → a ≡ opt_app → (is_simple_and_free a ≡ true → fault_of a words ≡ []) → fault_of opt_app words ≡ []
words_taken a words e h = ap (λ (b : App). fault_of b words) (sym e) ∙ h (ap is_simple_and_free e ∙ opt_free)

pub words_refused : (a : App) (words : List Text) (k kind : ErrorKind) → a ≡ opt_app → k ≡ kind → (k ≡ OutOfMemory → ⊥)
    → (takes a words ≡ true → k ≡ OutOfMemory)
    → (is_simple_and_free a ≡ true → (k ≡ OutOfMemory) ⊎ IsAmong k (fault_of a words))
    → (takes opt_app words ≢ true) × IsAmong kind (fault_of opt_app words) × (kind ≢ OutOfMemory)
words_refused a words k kind e q never passes kinds = (
  (λ t. never (passes (ap (λ (b : App). takes b words) e ∙ t))),
  subst (λ (j : ErrorKind). IsAmong j (fault_of opt_app words)) q among,
  (λ o. never (q ∙ o)),
)
  where
    among : IsAmong k (fault_of opt_app words)
    among = elim (kinds (ap is_simple_and_free e ∙ opt_free)) [
      | inl o ↦ absurd (never o)
      | inr i ↦ subst (λ (b : App). IsAmong k (fault_of b words)) e i
    ]

opt_simple : is_simple opt_app ≡ true
unfolding clap_on_literals
opt_simple = refl

-- the flags of words are those of the matches that the command finds in them
pub words_give : {More : Type 0} (a : App) (words : List Text) (rows : List Row) (opt : Opt) → a ≡ opt_app
    → (is_simple a ≡ true → (rows ≡ matches_of a words) × More) → opt ≡ opt_of rows → opt ≡ opt_of (matches_of opt_app words)
words_give a words rows opt e has is = is ∙ ap opt_of ((has (ap is_simple e ∙ opt_simple)).0 ∙ ap (λ (b : App). matches_of b words) e)
