-- What the command says of words that are written out.
use Rattle.std.proofs.Common.{◌≡◌, [], ◌∷◌, Some, None, true, false, refl}
use Rattle.std.specs.Prelude.{codes}
use Rattle.clap.specs.Simple.{matches_of}
use Rattle.clap.specs.Takes.{takes}
use Rattle.clap.specs.Faults.{fault_of}
use Rattle.clap.specs.declared.error.kind.ErrorKind.TheVariants.{DisplayHelp, UnknownArgument, ArgumentConflict}
use Rattle.clap.proofs.OnLiterals.{clap_on_literals}
use Rattle.svc_conf.specs.OptWords.{opt_app, opt_of}

upgrade_and_conf : opt_of (matches_of opt_app (codes "svc" ∷ codes "-u" ∷ codes "-c" ∷ codes "a.yaml" ∷ []))
    ≡ record { upgrade = true; daemon = false; nocapture = false; test = false; conf = Some (codes "a.yaml") }
unfolding clap_on_literals
upgrade_and_conf = refl

upgrade_is_taken : takes opt_app (codes "svc" ∷ codes "-u" ∷ codes "-c" ∷ codes "a.yaml" ∷ []) ≡ true
unfolding clap_on_literals
upgrade_is_taken = refl

all_long : opt_of (matches_of opt_app (codes "svc" ∷ codes "--daemon" ∷ codes "--test" ∷ codes "--nocapture" ∷ codes "--conf=b" ∷ []))
    ≡ record { upgrade = false; daemon = true; nocapture = true; test = true; conf = Some (codes "b") }
unfolding clap_on_literals
all_long = refl

no_words : opt_of (matches_of opt_app (codes "svc" ∷ [])) ≡ record { upgrade = false; daemon = false; nocapture = false; test = false; conf = None }
unfolding clap_on_literals
no_words = refl

help_is_a_fault : fault_of opt_app (codes "svc" ∷ codes "--help" ∷ []) ≡ DisplayHelp ∷ []
unfolding clap_on_literals
help_is_a_fault = refl

unknown_is_a_fault : fault_of opt_app (codes "svc" ∷ codes "--other" ∷ []) ≡ UnknownArgument ∷ []
unfolding clap_on_literals
unknown_is_a_fault = refl

twice_is_a_fault : fault_of opt_app (codes "svc" ∷ codes "-u" ∷ codes "-u" ∷ []) ≡ ArgumentConflict ∷ []
unfolding clap_on_literals
twice_is_a_fault = refl
