use Rattle.svc_shared.specs.Posting.{IsOf}
use Rattle.svc_tests_server.proofs.shared.the_65th_split_is_thin.Given as goal

abbrev pub invariant-loop : goal.invariant-loop
invariant-loop g l = IsOf l.initial.server l.pass
