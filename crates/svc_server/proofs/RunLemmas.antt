-- The run of a server, beside the run of its plan.
use Rattle.std.proofs.Common.{ℕ, ◌≡◌}
use Rattle.std.specs.Prelude.{Result, Ok, Err, ◌↔◌}
use Rattle.svc_conf.specs.declared.server.configuration.key.Key.{Key}
use Rattle.svc_server.specs.declared.run.Outcome.{Outcome}
use Rattle.svc_server.specs.declared.run.Outcome.TheVariants.{Served, TestPassed, Parent}
use Rattle.svc_server.specs.declared.run.RunError.{RunError}
use Rattle.svc_server.specs.declared.run.RunError.TheVariants.{Config}
use Rattle.svc_server.specs.Servers.{status_of}

-- a status is no refusal of a run, and an error is as it is
pub config-status : (answer : Result Outcome RunError) (status : Result ℕ RunError) (key : Key) (K : Type 0) → status ≡ status_of answer
    → ((answer ≡ Err (Config key)) ↔ K) → ((status ≡ Err (Config key)) ↔ K)
config-status (Ok Served) status key K is h = (λ e. absurd (cc), λ k. absurd (let refused = h.1 k in cc))
config-status (Ok TestPassed) status key K is h = (λ e. absurd (cc), λ k. absurd (let refused = h.1 k in cc))
config-status (Ok (Parent n)) status key K is h = (λ e. absurd (cc), λ k. absurd (let refused = h.1 k in cc))
config-status (Err error) status key K is h =
    (λ e. h.0 (let same : error ≡ Config key = cc in cc), λ k. (let refused = h.1 k in let same : error ≡ Config key = cc in cc))
