-- What a run of jobs may answer.
use Rattle.std.specs.Prelude.{Result, Ok, Err}
use Rattle.svc_server.specs.declared.run.Outcome.{Outcome}
use Rattle.svc_server.specs.declared.run.Outcome.TheVariants.{TestPassed, Parent}
use Rattle.svc_server.specs.declared.run.RunError.{RunError}
use Rattle.svc_server.specs.declared.run.RunError.TheVariants.{Bootstrap, TurnsSpent}

-- it has turns left, bootstraps nothing, isn't a test, and has no parent
abbrev pub MayEnd : Result Outcome RunError → Type 0
MayEnd (Ok TestPassed) = ⊥
MayEnd (Ok (Parent n)) = ⊥
MayEnd (Err (Bootstrap error)) = ⊥
MayEnd (Err TurnsSpent) = ⊥
MayEnd answer = Unit {0}
