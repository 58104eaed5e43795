use Rattle.std.proofs.Common.{◌≡◌, length}
use Rattle.std.specs.List.{list_all}
use Rattle.svc_record.specs.Connections.{live_connections}
use Rattle.svc_judge.specs.Numbers.{live_in}
use Rattle.svc_judge.specs.Tails.{is_cut_once}
use Rattle.svc_judge.proofs.tails.are_cut_once.Given as goal

abbrev pub invariant-entries : goal.invariant-entries
invariant-entries l = list_all (is_cut_once l.tail) (live_connections l.finished) ≡ list_all (is_cut_once l.tail) (live_in l.finished l.rest)

abbrev pub decreases-entries : goal.decreases-entries
decreases-entries l = length l.rest
