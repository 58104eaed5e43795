-- A service that fails is given up once.
use Rattle.std.proofs.Common.{ℕ, Bool, true, false, ◌||◌, ◌==◌, ◌∷◌, ◌≡◌, ap, sym, ◌∙◌, subst, arith, ◌+◌, if◌then◌else◌}
use Rattle.std.proofs.lemmas.Bool.{eqb-true}
use Rattle.svc_record.specs.declared.plan.Plan.{Plan}
use Rattle.svc_record.specs.declared.entry.Entry.TheVariants.{Got, Told}
use Rattle.svc_record.specs.declared.event.Event.{Event}
use Rattle.svc_record.specs.declared.action.Action.TheVariants.{Fail}
use Rattle.svc_record.specs.Record.{Record, times}
use Rattle.svc_record.specs.Failed.{has_failed, is_fail}
use Rattle.svc_record.specs.AskRules.{FailsRight}

one_up : (here f : Bool) (n : ℕ) → n ≡ (if f then 1 else 0) → (here ≡ true → f ≡ false) → (if here then n + 1 else n) ≡ (if f || here then 1 else 0)
one_up here f n e h = grind (arith, h)

-- after an answer by which the service fails, and no other
pub fails-up : (p : Plan) (q : Record) (e : Event) (s : ℕ) → ((t : ℕ) → has_failed p (Got e ∷ q) t ≡ (has_failed p q t || (s == t))) → has_failed p q s ≡ false
    → FailsRight p q → FailsRight p (Told (Fail s) ∷ Got e ∷ q)
fails-up p q e s step free was t lt =
    one_up (s == t) (has_failed p q t) (times (is_fail t) q) (was t lt) (λ h. subst (λ u. has_failed p q u ≡ false) (eqb-true s t h) free)
    ∙ ap (λ b. if b then 1 else 0) (sym (step t))

-- after one by which none fails
pub fails-same : (p : Plan) (q : Record) (e : Event) → ((t : ℕ) → has_failed p (Got e ∷ q) t ≡ has_failed p q t) → FailsRight p q → FailsRight p (Got e ∷ q)
fails-same p q e same was t lt = was t lt ∙ ap (λ b. if b then 1 else 0) (sym (same t))
