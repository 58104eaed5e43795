-- What an operator hears of a file that isn't served.
use Rattle.std.specs.Prelude.{ℕ, List, ◌≡◌, Option, Some, None, ◌⊎◌}
use Rattle.svc_system.specs.declared.offer.UpgradeAnswer.{UpgradeAnswer}
use Rattle.svc_system.specs.declared.offer.UpgradeAnswer.TheVariants as answers
use Rattle.svc_serve.specs.declared.ending.Ending.{Ending}
use Rattle.svc_serve.specs.declared.ending.Ending.TheVariants as endings
use Rattle.svc_serve.specs.declared.refusal.Refusal.{Refusal}

-- the cause, or want of memory where there is none
abbrev pub answered : Option (List ℕ) → UpgradeAnswer
answered (Some cause) = answers.Refused cause
answered None = answers.NoMemory

-- a program ends so by the refusal, or by want of memory
abbrev pub IsEndedBy : Ending → Refusal → Type 0
IsEndedBy ending refusal = (refusal.ending ≡ ending) ⊎ (refusal.ending ≡ endings.NoMemory)
