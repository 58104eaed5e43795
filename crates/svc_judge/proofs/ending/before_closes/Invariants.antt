use Rattle.std.proofs.Common.{◌≡◌, map, length}
use Rattle.std.specs.Option.{option_copied}
use Rattle.svc_record.specs.declared.action.Action.TheVariants.{Close}
use Rattle.svc_judge.specs.Endings.{strip_back}
use Rattle.svc_judge.proofs.ending.before_closes.Given as goal

abbrev pub invariant-fds : goal.invariant-fds
invariant-fds l = strip_back (map Close l.fds) (option_copied l.told) ≡ strip_back (map Close l.rest) (option_copied l.left)

abbrev pub decreases-fds : goal.decreases-fds
decreases-fds l = length l.rest
