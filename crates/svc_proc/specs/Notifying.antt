-- How a daemon tells its parent that it is ready.
use Rattle.std.specs.Prelude.{◌≡◌, ℕ, zero, suc, ◌+◌, ◌*◌, ◌≤◌, false, true, List, [], ◌∷◌, ◌++◌, length, ◌⊎◌}
use Rattle.svc_moments.specs.Limits.{Limit, has_passed}
use Rattle.svc_proc.specs.ProcessData.{ProcessData, Asks}
use Rattle.svc_proc.specs.declared.process.ProcessCall.{ProcessCall}
use Rattle.svc_proc.specs.declared.process.ProcessCall.TheVariants.{Notify, Rest}
use Rattle.svc_proc.specs.declared.process.SignalAnswer.{SignalAnswer}
use Rattle.svc_proc.specs.declared.process.SignalAnswer.TheVariants as answers
use Rattle.svc_proc.specs.declared.server.daemon.notify.NotifyNext.{NotifyNext}
use Rattle.svc_proc.specs.declared.server.daemon.notify.NotifyNext.TheVariants.{Done, Again, GaveUp}
use Rattle.svc_proc.specs.declared.server.daemon.notify.Notified.{Notified}
use Rattle.svc_proc.specs.declared.server.daemon.notify.Notified.TheVariants.{Sent, Denied, Other}

-- what follows a try
abbrev pub notify_next : SignalAnswer → NotifyNext
notify_next answers.Sent = Done
notify_next answers.Denied = Again
notify_next (answers.Other n) = GaveUp n

-- so many tries that were denied, with a rest of 100 milliseconds after each
abbrev pub denied_tries : ℕ → ℕ → List ProcessCall
denied_tries pid zero = []
denied_tries pid (suc k) = denied_tries pid k ++ Notify pid answers.Denied ∷ Rest 100 ∷ []

-- the try that ended it, if a try did
abbrev pub last_try : ℕ → Notified → List ProcessCall
last_try pid Sent = Notify pid answers.Sent ∷ []
last_try pid Denied = []
last_try pid (Other n) = Notify pid (answers.Other n) ∷ []

-- the last try: after so many denied ones the process was at a moment at which the limit hadn't passed, and from there it was asked this
pub record BeganInTime {S : Type 0} (seen : S → ProcessData) (pid : ℕ) (limit : Limit) (old new : S) (denied : ℕ) (last : List ProcessCall) : Type 0 where
  pub at : S
  pub tried : Asks (seen old) (seen at) (denied_tries pid denied)
  pub in_time : has_passed limit (seen at).moment ≡ false
  pub try : Asks (seen at) (seen new) last

-- the last try, where there was one, began in time. So did the earlier ones, since moments don't go back
abbrev pub InTime : {S : Type 0} → (S → ProcessData) → ℕ → Limit → S → S → ℕ → Notified → Type 0
InTime seen pid limit old new denied Sent = BeganInTime seen pid limit old new denied (last_try pid Sent)
InTime seen pid limit old new denied Denied = (k : ℕ) → denied ≡ k + 1 → BeganInTime seen pid limit old new k (Notify pid answers.Denied ∷ Rest 100 ∷ [])
InTime seen pid limit old new denied (Other n) = BeganInTime seen pid limit old new denied (last_try pid (Other n))

-- why no further try was made
abbrev pub Ended : ℕ → Limit → ℕ → Notified → Type 0
Ended denied limit to Sent = Unit {0}
Ended denied limit to Denied = (denied ≡ 10 * limit.seconds) ⊎ (has_passed limit to ≡ true)
Ended denied limit to (Other n) = Unit {0}

-- the parent of this number was notified: some tries were denied, and at most one more was made, at most ten
-- for each second, and each before the limit had passed. It was given up as denied where no further try was left
pub record Notifies {S : Type 0} (seen : S → ProcessData) (pid seconds : ℕ) (old new : S) (answer : Notified) : Type 0 where
  pub denied : ℕ
  pub asks : Asks (seen old) (seen new) (denied_tries pid denied ++ last_try pid answer)
  pub few : denied + length (last_try pid answer) ≤ 10 * seconds
  pub in_time : InTime seen pid (record { seconds = seconds; start = (seen old).moment }) old new denied answer
  pub ended : Ended denied (record { seconds = seconds; start = (seen old).moment }) (seen new).moment answer
