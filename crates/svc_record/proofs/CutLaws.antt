-- Before a signal there is no cut, and nothing has passed.
use Rattle.std.proofs.Common.{Bool, false, ◌||◌, ◌∷◌, [], Option, Some, None, ◌≡◌, refl, ap, ◌∙◌}
use Rattle.svc_record.specs.declared.plan.Plan.{Plan}
use Rattle.svc_record.specs.declared.entry.Entry.TheVariants.{Got, Told}
use Rattle.svc_record.specs.declared.event.Event.TheVariants.{Signal}
use Rattle.svc_record.specs.declared.event.ShutdownSignal.{ShutdownSignal}
use Rattle.svc_record.specs.Record.{Record, signal_of, first_or, has_cut}
use Rattle.svc_record.specs.Drain.{waits_are_over, has_passed_by}

some-first : (s : Option ShutdownSignal) (kind : ShutdownSignal) (cut : Bool) → first_or s kind ≡ None → cut ≡ false
some-first (Some earlier) kind cut h = absurd (cc)
some-first None kind cut h = absurd (cc)

pub unsignalled-uncut : (q : Record) → signal_of q ≡ None → has_cut q ≡ false
unsignalled-uncut [] h = refl
unsignalled-uncut (Got (Signal kind) ∷ q) h = some-first (signal_of q) kind (has_cut (Got (Signal kind) ∷ q)) h
unsignalled-uncut (Got e ∷ q) h = unsignalled-uncut q h
unsignalled-uncut (Told a ∷ q) h = unsignalled-uncut q h

pub unsignalled-unpassed : (p : Plan) (q : Record) → signal_of q ≡ None → waits_are_over p q ≡ false
unsignalled-unpassed p q none = ap (λ b. b || has_passed_by p q (signal_of q)) (unsignalled-uncut q none) ∙ ap (has_passed_by p q) none
