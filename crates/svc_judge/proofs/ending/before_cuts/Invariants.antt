use Rattle.std.proofs.Common.{◌≡◌, map, length}
use Rattle.std.specs.Option.{option_copied}
use Rattle.svc_record.specs.declared.action.Action.TheVariants.{Cut}
use Rattle.svc_judge.specs.Endings.{strip_back}
use Rattle.svc_judge.proofs.ending.before_cuts.Given as goal

abbrev pub invariant-cs : goal.invariant-cs
invariant-cs l = strip_back (map Cut l.cs) (option_copied l.told) ≡ strip_back (map Cut l.rest) (option_copied l.left)

abbrev pub decreases-cs : goal.decreases-cs
decreases-cs l = length l.rest
