-- What contracts see of a process, and what its calls change.
use Rattle.std.specs.Prelude.{◌≡◌, ℕ, ◌≤◌, List, [], ◌∷◌, Option}
use Rattle.svc_base.specs.Streams.{Rose}
use Rattle.svc_base.specs.Calls.{Adds, Stays}
use Rattle.svc_proc.specs.declared.process.ForkAnswer.{ForkAnswer}
use Rattle.svc_proc.specs.declared.process.ForkAnswer.TheVariants.{Child, Parent, Failed}
use Rattle.svc_proc.specs.declared.process.ProcessCall.{ProcessCall}
use Rattle.svc_proc.specs.declared.process.ProcessCall.TheVariants.{Fork}

-- the calls that it was asked, the oldest first, where it tells them, and for how many more it is sure to tell them; its moment,
-- its number, and how often a fork failed
pub record ProcessData : Type 0 where
  pub called : Option (List ProcessCall)
  pub room : ℕ
  pub moment : ℕ
  pub number : ℕ
  pub faults : ℕ

-- it was asked these calls; beside them nothing changed, but time may have passed
pub record Asks (before now : ProcessData) (calls : List ProcessCall) : Type 0 where
  pub called : Adds before.called now.called calls
  pub stays : Stays before.called now.called before.room now.room
  pub passed : before.moment ≤ now.moment
  pub number : now.number ≡ before.number
  pub faults : now.faults ≡ before.faults

-- the count of faults rises where a fork fails, and stays at every other answer
abbrev pub ForkFaults : ForkAnswer → ℕ → ℕ → Type 0
ForkFaults Child before now = now ≡ before
ForkFaults Parent before now = now ≡ before
ForkFaults Failed before now = Rose before now

-- it was asked to fork; its number may have changed
pub record Forks (before now : ProcessData) (answer : ForkAnswer) : Type 0 where
  pub called : Adds before.called now.called (Fork answer ∷ [])
  pub stays : Stays before.called now.called before.room now.room
  pub passed : before.moment ≤ now.moment
  pub faults : ForkFaults answer before.faults now.faults
