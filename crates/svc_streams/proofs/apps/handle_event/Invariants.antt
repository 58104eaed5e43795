use Rattle.std.proofs.Common.{◌≡◌, List, length}
use Rattle.svc_streams.specs.Events.{Processing}
use Rattle.svc_streams.proofs.EventLemmas.{Turns}
use Rattle.svc_streams.proofs.apps.handle_event.Given as goal

abbrev pub invariant-loop : goal.invariant-loop
invariant-loop g l =
    (calls : List (Processing g.row.S.Denot)) × (Turns g.A.ServerApp.may_come l.fn.app l.app l.fn.event l.shutdown l.event calls × (length calls ≡ l.counter))
