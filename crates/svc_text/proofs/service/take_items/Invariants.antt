use Rattle.std.proofs.Common.{◌≡◌, length}
use Rattle.svc_base.specs.Words.{words}
use Rattle.svc_text.specs.ServiceLines.{with_items}
use Rattle.svc_text.proofs.service.take_items.Given as goal

abbrev pub invariant-loop-key : goal.invariant-loop-key
invariant-loop-key l = with_items l.service (words l.rest) ≡ with_items l.fn.service (words l.items)

abbrev pub decreases-loop-key : goal.decreases-loop-key
decreases-loop-key l = length l.rest
