use Rattle.std.proofs.Common.{◌≡◌, length}
use Rattle.svc_base.specs.NumberSets.{ascending}
use Rattle.svc_judge.specs.Numbers.{put_onto, unclosed_in}
use Rattle.svc_judge.proofs.ending.unclosed_in.Given as goal

abbrev pub invariant-opened : goal.invariant-opened
invariant-opened l = ascending (unclosed_in l.whole l.opened) ≡ put_onto (unclosed_in l.whole l.rest) l.numbers.items

abbrev pub decreases-opened : goal.decreases-opened
decreases-opened l = length l.rest
