-- How the journal of a run that was served ends.
use Rattle.std.specs.Prelude.{Bool, true, false, ◌&&◌, List, [], ◌∷◌, reverse}
use Rattle.svc_record.specs.declared.action.Action.{Action}
use Rattle.svc_record.specs.declared.action.Action.TheVariants.{Stop, Phase}
use Rattle.svc_record.specs.declared.action.ExecutionPhase.TheVariants.{Terminated}
use Rattle.svc_record.specs.Journal.{PostData}

-- the action stops the services' workers
abbrev pub is_stop : Action → Bool
is_stop (Stop n) = true
is_stop _ = false

-- the action says that the server has ended
abbrev pub is_terminated : Action → Bool
is_terminated (Phase Terminated t) = true
is_terminated _ = false

-- these actions, the newest first, begin with `Terminated` after `Stop`
abbrev pub stops_last : List Action → Bool
stops_last (a ∷ b ∷ more) = is_stop b && is_terminated a
stops_last _ = false

-- the newest action is `Stop`
abbrev pub stop_last : List Action → Bool
stop_last (a ∷ more) = is_stop a
stop_last _ = false

-- the last action is `Stop`
abbrev pub stopped : List Action → Bool
stopped told = stop_last (reverse told)

-- the last two actions are `Stop` and `Terminated`
abbrev pub stops : List Action → Bool
stops told = stops_last (reverse told)

-- the last post's actions end so
abbrev pub ends_with_stop : List PostData → Bool
ends_with_stop [] = false
ends_with_stop (p ∷ []) = stops p.actions
ends_with_stop (p ∷ q ∷ more) = ends_with_stop (q ∷ more)
