-- What the run of a schedule keeps from step to step, in its two servers.
use Rattle.std.specs.Prelude.{◌≡◌, true, List, [], ◌∷◌, ◌++◌, reverse, MatchBool}
use Rattle.svc_record.specs.declared.plan.Plan.{Plan}
use Rattle.svc_record.specs.declared.action.Action.{Action}
use Rattle.svc_record.specs.declared.action.StepEnd.{StepEnd}
use Rattle.svc_core.specs.Stands.{MayCome}
use Rattle.svc_session.specs.SessionData.{SessionData}
use Rattle.svc_session.specs.Sessions.{Takes}
use Rattle.svc_handover.specs.declared.pair.PairStep.{PairStep}
use Rattle.svc_handover.specs.declared.servers.Servers.{Servers}
use Rattle.svc_handover.specs.Pair.{World, is_allowed}
use Rattle.svc_handover.specs.Law.{HandsOver, PairStands}

-- the server took the step
abbrev pub TakesStep : SessionData → SessionData → PairStep → Type 0
TakesStep old new step = (end : StepEnd) × ((told : List Action) × Takes old new step.event step.said end told)

-- the servers have run this schedule: they stand for the world that it leaves, in which the laws hold
pub record Runs (p n : Plan) (before : List PairStep) (servers : Servers) : Type 0 where
  pub world : World
  pub over : HandsOver p n before world
  pub stands : PairStands servers.predecessor.core servers.successor.core world
  pub old_plan : servers.predecessor.core.plan ≡ p
  pub new_plan : servers.successor.core.plan ≡ n
  pub old_is : reverse servers.predecessor.entries ≡ world.old
  pub new_is : reverse servers.successor.entries ≡ world.new
  pub channel_is : servers.channel ≡ world.channel

-- the step's server can take it
abbrev pub MayTake : Servers → PairStep → Type 0
MayTake servers step = MatchBool step.old (MayCome servers.predecessor.core step.event) (MayCome servers.successor.core step.event)

-- whatever schedule was run, if the step may come now, the schedule with it is run
abbrev pub Grows : Servers → Servers → PairStep → Type 0
Grows old new step = (p n : Plan) (before : List PairStep) → (runs : Runs p n before old) → is_allowed p n runs.world step ≡ true
    → Runs p n (before ++ step ∷ []) new
