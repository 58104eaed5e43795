use Rattle.std.proofs.Common.{◌≡◌, length}
use Rattle.svc_base.specs.NumberSets.{ascending}
use Rattle.svc_judge.specs.Numbers.{put_onto, live_in}
use Rattle.svc_judge.proofs.ending.live_by.Given as goal

abbrev pub invariant-entries : goal.invariant-entries
invariant-entries l = ascending (live_in l.entries l.entries) ≡ put_onto (live_in l.entries l.rest) l.numbers.items

abbrev pub decreases-entries : goal.decreases-entries
decreases-entries l = length l.rest
