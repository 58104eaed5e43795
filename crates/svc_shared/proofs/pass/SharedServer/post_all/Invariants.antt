use Rattle.std.proofs.Common.{◌≡◌, List, ◌++◌, length, reverse}
use Rattle.svc_record.specs.declared.event.Event.{Event}
use Rattle.svc_shared.specs.Feeding.{IsFedSo}
use Rattle.svc_shared.proofs.pass.SharedServer.post_all.Given as goal

-- the events that were posted, and those that are left in reverse
abbrev pub invariant-loop-event : goal.invariant-loop-event
invariant-loop-event g l = (done : List Event) × (l.fn.feed.events.items ≡ done ++ reverse l.events.items) × IsFedSo l.fn.self l.fn.feed.pass done l.pass
    × (l.answered ≡ length done)

abbrev pub decreases-loop-event : goal.decreases-loop-event
decreases-loop-event g l = length l.events.items
