-- What is told from `ShutdownRuntimes` on, taken from a record one by one.
use Rattle.std.specs.Prelude.{ℕ, Bool, true, false, not, ◌&&◌, List, [], ◌∷◌, map, Option, Some, None, if◌then◌else◌}
use Rattle.svc_record.specs.declared.plan.Plan.{Plan}
use Rattle.svc_record.specs.declared.action.Action.{Action}
use Rattle.svc_record.specs.declared.action.Action.TheVariants.{Phase, Cut, Close, Stop}
use Rattle.svc_record.specs.declared.action.ExecutionPhase.TheVariants.{ShutdownRuntimes, Terminated}
use Rattle.svc_record.specs.Record.{Record, has, now}
use Rattle.svc_record.specs.Connections.{goes_on, is_cut}
use Rattle.svc_record.specs.Drain.{is_told, stop_seconds}

-- what stands before the newest entry, where that tells this; none where it doesn't
abbrev pub before_told : Action → Option Record → Option Record
before_told a None = None
before_told a (Some []) = None
before_told a (Some (e ∷ before)) = if is_told a e then Some before else None

-- what stands before these actions, the newest first
abbrev pub strip_told : List Action → Option Record → Option Record
strip_told [] r = r
strip_told (a ∷ more) r = strip_told more (before_told a r)

-- the same, the oldest first
abbrev pub strip_back : List Action → Option Record → Option Record
strip_back [] r = r
strip_back (a ∷ more) r = before_told a (strip_back more r)

-- what stands before all that is told from `ShutdownRuntimes` on, of these connections and descriptors
abbrev pub before_ends : Plan → Record → List ℕ → List ℕ → Record → Option Record
before_ends p at cs fds r =
    before_told (Phase ShutdownRuntimes (now at))
    (strip_back (map Cut cs)
    (strip_back (map Close fds) (before_told (Stop (stop_seconds p at)) (before_told (Phase Terminated (now at)) (Some r)))))

-- there is a record
abbrev pub is_there : Option Record → Bool
is_there (Some q) = true
is_there None = false

-- the connection goes on, and isn't cut
abbrev pub is_uncut : Record → ℕ → Bool
is_uncut q c = goes_on q c && not (has (is_cut c) q)
