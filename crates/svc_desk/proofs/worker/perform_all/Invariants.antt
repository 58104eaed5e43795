use Rattle.std.proofs.Common.{◌≡◌, List, ◌++◌, length, reverse}
use Rattle.svc_base.specs.Items.{list_of}
use Rattle.svc_record.specs.declared.action.Action.{Action}
use Rattle.svc_desk.specs.Desks.{IsPerformed}
use Rattle.svc_desk.proofs.worker.perform_all.Given as goal

abbrev pub invariant-loop-action : goal.invariant-loop-action
invariant-loop-action g l = (done : List Action) × (reverse (list_of l.initial.actions) ≡ done ++ reverse (list_of l.actions))
    × IsPerformed (g.D.Desk.seen l.initial.desk)
    (g.D.Desk.seen l.desk) done

abbrev pub decreases-loop-action : goal.decreases-loop-action
decreases-loop-action g l = length (reverse (list_of l.actions))
