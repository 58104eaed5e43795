-- What contracts see of a binder, and what its calls change.
use Rattle.std.specs.Prelude.{◌≡◌, ℕ, ◌+◌, ◌≤◌, Bool, true, false, List, [], ◌∷◌, Option}
use Rattle.svc_base.specs.Streams.{Rose}
use Rattle.svc_base.specs.Calls.{Adds, Stays}
use Rattle.svc_listen.specs.declared.listeners.l4.ServerAddress.{ServerAddress}
use Rattle.svc_listen.specs.declared.binder.BindAnswer.{BindAnswer}
use Rattle.svc_listen.specs.declared.binder.BindAnswer.TheVariants as answers
use Rattle.svc_listen.specs.declared.binder.BindOutcome.{BindOutcome}
use Rattle.svc_listen.specs.declared.binder.BindOutcome.TheVariants.{Bound, InUse, Failed}
use Rattle.svc_listen.specs.declared.binder.BinderCall.{BinderCall}
use Rattle.svc_listen.specs.declared.binder.BinderCall.TheVariants.{Bind, Adopt, Rest}

-- the calls that it was asked, the oldest first, where it tells them; for how many more calls it is sure to tell them; how often it
-- failed, and how often an address was in use
pub record BinderData : Type 0 where
  pub called : Option (List BinderCall)
  pub room : ℕ
  pub faults : ℕ
  pub waits : ℕ

-- an answer, with the number of its descriptor
abbrev pub outcome_of : BindAnswer → BindOutcome
outcome_of (answers.Bound fd) = Bound fd
outcome_of answers.InUse = InUse
outcome_of answers.Failed = Failed

-- the count of faults rises where it failed, and stays at every other answer
abbrev pub BindFaults : BindOutcome → ℕ → ℕ → Type 0
BindFaults (Bound fd) before now = now ≡ before
BindFaults InUse before now = now ≡ before
BindFaults Failed before now = Rose before now

-- the count of waits rises where the address was in use, and stays at every other answer
abbrev pub BindWaits : BindOutcome → ℕ → ℕ → Type 0
BindWaits (Bound fd) before now = now ≡ before
BindWaits InUse before now = Rose before now
BindWaits Failed before now = now ≡ before

-- it was asked once to bind the address, with this answer; what was told stays told as long as there is room
pub record IsBound (before now : BinderData) (address : ServerAddress) (outcome : BindOutcome) : Type 0 where
  pub called : Adds before.called now.called (Bind address outcome ∷ [])
  pub stays : Stays before.called now.called before.room now.room
  pub faults : BindFaults outcome before.faults now.faults
  pub waits : BindWaits outcome before.waits now.waits

-- the count of faults rises where it wasn't adopted
abbrev pub AdoptFaults : Bool → ℕ → ℕ → Type 0
AdoptFaults true before now = now ≡ before
AdoptFaults false before now = Rose before now

-- it was asked to adopt the descriptor of the address, with this answer; what was told stays told as long as there is room
pub record IsAdopted (before now : BinderData) (address : ServerAddress) (fd : ℕ) (adopted : Bool) : Type 0 where
  pub called : Adds before.called now.called (Adopt address fd adopted ∷ [])
  pub stays : Stays before.called now.called before.room now.room
  pub faults : AdoptFaults adopted before.faults now.faults
  pub waits : now.waits ≡ before.waits

-- it rested so many milliseconds; what was told stays told as long as there is room, and the call takes the place of one
pub record IsRested (before now : BinderData) (ms : ℕ) : Type 0 where
  pub called : Adds before.called now.called (Rest ms ∷ [])
  pub stays : Stays before.called now.called before.room now.room
  pub place : before.room ≤ now.room + 1
  pub faults : now.faults ≡ before.faults
  pub waits : now.waits ≡ before.waits
