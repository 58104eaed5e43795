-- The first of what is found, where the newest entry is looked at first.
use Rattle.std.proofs.Common.{ℕ, ◌∷◌, Bool, true, false, ◌≡◌, ◌⊎◌, inl, inr, refl, Option, Some, None, if◌then◌else◌}
use Rattle.svc_record.specs.declared.plan.Plan.{Plan}
use Rattle.svc_record.specs.declared.entry.Entry.TheVariants.{Got}
use Rattle.svc_record.specs.declared.event.Event.TheVariants.{Moment}
use Rattle.svc_record.specs.declared.event.ShutdownSignal.{ShutdownSignal}
use Rattle.svc_record.specs.Record.{Record, first_or}
use Rattle.svc_record.specs.Drain.{rest_end}
use Rattle.svc_judge.specs.Firsts.{first_of}
use Rattle.svc_judge.specs.Steps.{has_rested}

-- an earlier signal stays the first
pub signal_step : (s : Option ShutdownSignal) (kind : ShutdownSignal) (found : Option ShutdownSignal)
    → first_of (first_or s kind) found ≡ first_of s (Some kind)
signal_step (Some earlier) kind found = refl
signal_step None kind found = refl

some_or_none : (o : Option ℕ) → (o ≡ None) ⊎ ((m : ℕ) × (o ≡ Some m))
some_or_none None = inl refl
some_or_none (Some m) = inr (m, refl)

if_first : (b : Bool) (ms : ℕ) (found : Option ℕ) → first_of (if b then Some ms else None) found ≡ (if b then Some ms else found)
if_first true ms found = refl
if_first false ms found = refl

-- an earlier moment stays the first
pub rest_step : (p : Plan) (ms : ℕ) (q : Record) (found : Option ℕ)
    → first_of (rest_end p (Got (Moment ms) ∷ q)) found ≡ first_of (rest_end p q) (if has_rested p q ms then Some ms else found)
rest_step p ms q found = elim (some_or_none (rest_end p q)) [
  | inl none ↦ rw (none) (if_first (has_rested p q ms) ms found)
  | inr (m, some) ↦ rw (some)
]
