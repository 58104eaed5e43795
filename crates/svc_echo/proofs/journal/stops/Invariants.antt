use Rattle.std.proofs.Common.{◌≡◌, take}
use Rattle.svc_echo.specs.Endings.{stops, stopped}
use Rattle.svc_echo.proofs.journal.stops.Given as goal

abbrev pub invariant-loop-action : goal.invariant-loop-action
invariant-loop-action l =
    (l.ended ≡ stops (take l.action-index l.actions))
    × (l.stopped ≡ stopped (take l.action-index l.actions))
