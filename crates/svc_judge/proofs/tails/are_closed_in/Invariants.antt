use Rattle.std.proofs.Common.{◌≡◌, length}
use Rattle.std.specs.List.{list_all}
use Rattle.svc_record.specs.Tail.{numbers_in}
use Rattle.svc_judge.specs.Tails.{is_closed_in}
use Rattle.svc_judge.proofs.tails.are_closed_in.Given as goal

abbrev pub invariant-entries : goal.invariant-entries
invariant-entries l = list_all (is_closed_in l.whole) (numbers_in l.before) ≡ list_all (is_closed_in l.whole) (numbers_in l.rest)

abbrev pub decreases-entries : goal.decreases-entries
decreases-entries l = length l.rest
