-- The tries to notify a parent, one after the other.
use Rattle.std.proofs.Common.{◌≡◌, ℕ, ◌+◌, ◌*◌, ◌≤◌, [], ◌∷◌}
use Rattle.svc_moments.specs.Limits.{Limit}
use Rattle.svc_proc.specs.ProcessData.{ProcessData, Asks}
use Rattle.svc_proc.specs.declared.process.ProcessCall.TheVariants.{Notify, Rest}
use Rattle.svc_proc.specs.declared.process.SignalAnswer.TheVariants as answers
use Rattle.svc_proc.specs.Notifying.{denied_tries, BeganInTime}

abbrev pub limit_from : ℕ → ProcessData → Limit
limit_from seconds start = record { seconds = seconds; start = start.moment }

-- so many tries were denied, and a next one may follow
pub record HasTried {S : Type 0} (seen : S → ProcessData) (pid seconds : ℕ) (old now : S) (retry : Limit) (tries most : ℕ) : Type 0 where
  pub asks : Asks (seen old) (seen now) (denied_tries pid tries)
  pub retry_is : retry ≡ limit_from seconds (seen old)
  pub within : tries ≤ most
  pub most_is : most ≡ seconds * 10
  pub in_time : (k : ℕ) → tries ≡ k + 1 → BeganInTime seen pid (limit_from seconds (seen old)) old now k (Notify pid answers.Denied ∷ Rest 100 ∷ [])
