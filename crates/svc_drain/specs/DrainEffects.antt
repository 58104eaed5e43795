-- What each call makes of the part on the end of a run, and what it tells.
use Rattle.std.specs.Prelude.{ℕ, Bool, true, false, ◌++◌, ◌&&◌, ◌||◌, List, [], ◌∷◌, map, Option, Some, None, if◌then◌else◌, is_some}
use Rattle.svc_record.specs.declared.plan.Plan.{Plan}
use Rattle.svc_record.specs.declared.action.Action.{Action}
use Rattle.svc_record.specs.declared.action.Action.TheVariants.{Phase, Broadcast, Cut, Close, Stop}
use Rattle.svc_record.specs.declared.action.ExecutionPhase.TheVariants.{Running as RunningPhase, GracefulUpgradeTransferringFds, GracefulUpgradeCloseTimeout, GracefulTerminate, ShutdownStarted, ShutdownGracePeriod, ShutdownRuntimes, Terminated}
use Rattle.svc_record.specs.declared.event.ShutdownSignal.{ShutdownSignal}
use Rattle.svc_record.specs.declared.event.ShutdownSignal.TheVariants.{FastShutdown, GracefulTerminate as TerminateSignal, GracefulUpgrade}
use Rattle.svc_record.specs.Record.{is_graceful}
use Rattle.svc_record.specs.Offer.{is_upgrade}
use Rattle.svc_record.specs.Drain.{is_fast}
use Rattle.svc_drain.specs.declared.stage.Stage.{Stage}
use Rattle.svc_drain.specs.declared.stage.Stage.TheVariants.{Running, Offering, CloseTimeout, Grace, Terminating, CutShort}
use Rattle.svc_drain.specs.DrainData.{DrainData}
use Rattle.svc_drain.specs.DrainState.{rest_from, is_cut}

-- nothing has happened
abbrev pub still : DrainData
still = record { running = false; moment = 0; signal = None; since = 0; offers = false; stage = Running }

-- time has gone on
abbrev pub at_moment : ℕ → DrainData → DrainData
at_moment ms d = record { running = d.running; moment = ms; signal = d.signal; since = d.since; offers = d.offers; stage = d.stage }

-- the shutdown is told as far as this
abbrev pub at_stage : Stage → DrainData → DrainData
at_stage stage d = record { running = d.running; moment = d.moment; signal = d.signal; since = d.since; offers = d.offers; stage = stage }

-- a further signal of this kind cuts the waits of the first one short: a fast one after a graceful one
abbrev pub cuts : Option ShutdownSignal → ShutdownSignal → Bool
cuts first FastShutdown = is_graceful first
cuts first _ = false

-- the stage at a cut
abbrev pub cut_stage : Stage → Stage
cut_stage (Grace at) = CutShort true
cut_stage (CutShort started) = CutShort started
cut_stage Terminating = Terminating
cut_stage _ = CutShort false

-- a further signal came: only a cut changes anything
abbrev pub further : ShutdownSignal → DrainData → DrainData
further kind d = if cuts d.signal kind then at_stage (cut_stage d.stage) d else d

-- a signal came, by which something is offered or not
abbrev pub signalled : ShutdownSignal → Bool → DrainData → DrainData
signalled kind offers d = by d.signal
  where
    by : Option ShutdownSignal → DrainData
    by (Some earlier) = further kind d
    by None = record {
      running = d.running;
      moment = d.moment;
      signal = Some kind;
      since = d.moment;
      offers = is_upgrade (Some kind)
          && offers;
      stage = d.stage;
    }

-- the server runs
abbrev pub run : DrainData → DrainData
run d = record { running = true; moment = d.moment; signal = d.signal; since = d.since; offers = d.offers; stage = d.stage }

-- what is told so that it runs, at most once
abbrev pub run_told : DrainData → List Action
run_told d = if d.running then [] else Phase RunningPhase d.moment ∷ []

-- the stage that is told next, where one is due
abbrev pub next_stage : Stage → Option ShutdownSignal → Bool → Option ℕ → ℕ → Stage
next_stage Running None offers over t = Running
next_stage Running (Some FastShutdown) offers over t = Terminating
next_stage Running (Some TerminateSignal) offers over t = Grace t
next_stage Running (Some GracefulUpgrade) false over t = Grace t
next_stage Running (Some GracefulUpgrade) true over t = if is_some over then CloseTimeout else Offering
next_stage Offering signal offers over t = if is_some over then CloseTimeout else Offering
next_stage CloseTimeout signal offers over t = if is_some (rest_from over t) then Grace t else CloseTimeout
next_stage (Grace at) signal offers over t = Grace at
next_stage Terminating signal offers over t = Terminating
next_stage (CutShort started) signal offers over t = CutShort true

-- what is told as the offer is over, at the moment t
abbrev pub timeout_told : Option ℕ → ℕ → List Action
timeout_told over t = if is_some over then Phase GracefulUpgradeCloseTimeout t ∷ [] else []

-- what is told as the grace period begins
abbrev pub grace_told : ℕ → List Action
grace_told t = Phase ShutdownStarted t ∷ Phase ShutdownGracePeriod t ∷ []

-- what is told as the rest is over
abbrev pub rested_told : Option ℕ → ℕ → List Action
rested_told over t = if is_some (rest_from over t) then Broadcast ∷ grace_told t else []

-- what is told then
abbrev pub stage_told : Stage → Option ShutdownSignal → Bool → Option ℕ → ℕ → List Action
stage_told Running None offers over t = []
stage_told Running (Some FastShutdown) offers over t = Phase ShutdownStarted t ∷ []
stage_told Running (Some TerminateSignal) offers over t = Broadcast ∷ Phase GracefulTerminate t ∷ grace_told t
stage_told Running (Some GracefulUpgrade) false over t = Phase GracefulUpgradeTransferringFds t ∷ Broadcast ∷ grace_told t
stage_told Running (Some GracefulUpgrade) true over t = Phase GracefulUpgradeTransferringFds t ∷ timeout_told over t
stage_told Offering signal offers over t = timeout_told over t
stage_told CloseTimeout signal offers over t = rested_told over t
stage_told (Grace at) signal offers over t = []
stage_told Terminating signal offers over t = []
stage_told (CutShort false) signal offers over t = Phase ShutdownStarted t ∷ []
stage_told (CutShort true) signal offers over t = []

-- the part after that
abbrev pub gone_on : DrainData → Option ℕ → DrainData
gone_on d over = at_stage (next_stage d.stage d.signal d.offers over d.moment) d

-- what is told of the shutdown, as far as it is due
abbrev pub row_told : DrainData → Option ℕ → List Action
row_told d over = stage_told d.stage d.signal d.offers over d.moment

-- the seconds that the services' workers have to stop
abbrev pub stop_after : Plan → DrainData → ℕ
stop_after p d = if is_fast d.signal || is_cut d.stage then 0 else p.stop

-- what is told as the run ends, before the live connections are cut and the live descriptors close
abbrev pub shutdown_told : DrainData → List Action
shutdown_told d = Phase ShutdownRuntimes d.moment ∷ []

-- what is told after that
abbrev pub stop_told : Plan → DrainData → List Action
stop_told p d = Stop (stop_after p d) ∷ Phase Terminated d.moment ∷ []

-- all that is told then, where these connections and descriptors are live
abbrev pub end_told : Plan → DrainData → List ℕ → List ℕ → List Action
end_told p d cuts closes = shutdown_told d ++ (map Cut cuts ++ (map Close closes ++ stop_told p d))
