-- How a server becomes a daemon.
use Rattle.std.specs.Prelude.{ℕ, ◌≤◌, Bool, true, false, if◌then◌else◌, List, [], ◌∷◌, ◌++◌, codes, Option, Some, None, Result, Ok, Err, unwrap_or}
use Rattle.svc_base.specs.Calls.{Adds, Stays}
use Rattle.svc_conf.specs.declared.server.configuration.ServerConf.{ServerConf}
use Rattle.svc_proc.specs.ProcessData.{ProcessData, ForkFaults}
use Rattle.svc_moments.specs.Limits.{Limit}
use Rattle.svc_proc.specs.declared.process.ProcessCall.{ProcessCall}
use Rattle.svc_proc.specs.declared.process.ProcessCall.TheVariants.{Exists, Rename, Fork}
use Rattle.svc_proc.specs.declared.process.ForkAnswer.{ForkAnswer}
use Rattle.svc_proc.specs.declared.process.ForkAnswer.TheVariants as forks
use Rattle.svc_proc.specs.declared.server.daemon.Daemonized.{Daemonized}
use Rattle.svc_proc.specs.declared.server.daemon.Daemonized.TheVariants.{Child, Parent, ParentDone}
use Rattle.svc_proc.specs.declared.server.daemon.DaemonError.{DaemonError}
use Rattle.svc_proc.specs.declared.server.daemon.DaemonError.TheVariants as errors

-- the name that an older file gets
abbrev pub old_name : List ℕ → List ℕ
old_name path = path ++ codes ".old"

-- the calls that move the file at the path away: it isn't there, or it was to be renamed, with this answer
abbrev pub moving : List ℕ → Option Bool → List ProcessCall
moving path None = Exists path false ∷ []
moving path (Some renamed) = Exists path true ∷ Rename path (old_name path) renamed ∷ []

-- the process was asked to move the file away, and then to fork
pub record Daemonizes (path : List ℕ) (before now : ProcessData) (fork : ForkAnswer) : Type 0 where
  pub renamed : Option Bool
  pub called : Adds before.called now.called (moving path renamed ++ Fork fork ∷ [])
  pub stays : Stays before.called now.called before.room now.room
  pub passed : before.moment ≤ now.moment
  pub faults : ForkFaults fork before.faults now.faults

-- what the fork answered, where there was one
abbrev pub fork_of : Result Daemonized DaemonError → Option ForkAnswer
fork_of (Ok (Child child)) = Some forks.Child
fork_of (Ok (Parent wait)) = Some forks.Parent
fork_of (Ok ParentDone) = Some forks.Parent
fork_of (Err errors.Fork) = Some forks.Failed
fork_of (Err errors.NoMemory) = None

-- the limit of a parent's wait that begins at this moment
abbrev pub wait_from : ServerConf → ℕ → Limit
wait_from conf moment = record { seconds = unwrap_or conf.daemon_ready_timeout_seconds 600; start = moment }

-- what the fork makes of a process of this number: a child, which knows its parent where that waits, or a parent, which
-- waits from this moment on or is done
abbrev pub made_of : ServerConf → ℕ → ℕ → ForkAnswer → Result Daemonized DaemonError
made_of conf pid moment forks.Child = Ok (Child (record { notify_parent_pid = if conf.daemon_wait_for_ready then Some pid else None }))
made_of conf pid moment forks.Parent = Ok (if conf.daemon_wait_for_ready then Parent (wait_from conf moment) else ParentDone)
made_of conf pid moment forks.Failed = Err errors.Fork
