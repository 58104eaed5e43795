use Rattle.std.proofs.Common.{◌≡◌, length}
use Rattle.svc_judge.specs.Queries.{is_ask_open}
use Rattle.svc_judge.proofs.looking.is_open.Given as goal

abbrev pub invariant-entries : goal.invariant-entries
invariant-entries l = is_ask_open l.ask l.entries ≡ is_ask_open l.ask l.rest

abbrev pub decreases-entries : goal.decreases-entries
decreases-entries l = length l.rest
