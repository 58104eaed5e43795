use Rattle.std.proofs.Common.{◌+◌, sym}
use Rattle.svc_gate.proofs.SegmentLemmas.{overlays_pushed, overlaid_ascends, overlaid}
use Rattle.svc_gate.proofs.segments.overlay.Goals as goal

pub loop-from-preserved : goal.loop-from-preserved
loop-from-preserved c = (
  c.in-Some.from + 1,
  overlays_pushed _ _ _ _ _ _ _ _ _ _ _ _ _ _ _ c.loop-from.invariant.1 c.in-Some.ensures
      c.advance.ensures.word c.advance.ensures.rest c.advance-in-Some.ensures.word c.advance-in-Some.ensures.rest c.or.ensures c.in_ok-push.ensures.items,
)

pub returns-clause-ascend : goal.returns-clause-ascend
returns-clause-ascend c = overlaid_ascends _ _ _ _ _ _ _ _ c.loop-from.invariant.1

pub returns-clause-found : goal.returns-clause-found
returns-clause-found c = λ x. overlaid _ _ _ _ _ _ _ _ x c.loop-from.invariant.1 (sym c.in_default.ensures)
