use Rattle.std.proofs.lemmas.Bool.{eqb-true}
use Rattle.svc_judge.specs.Pasts.{plan_of, record_of}
use Rattle.svc_judge.proofs.EndpointLemmas.{all_in_turn}
use Rattle.svc_judge.proofs.endpoints.are_held_in_turn.Goals as goal

pub returns-then-left-eq0 : goal.returns-then-left-eq0
returns-then-left-eq0 c =
    λ yes. all_in_turn (plan_of c.args.past.now) (record_of c.args.past.now) (record_of c.entries.rest) c.args.s c.args.count c.entries.left
    c.if-left-eq0.true (c.entries.invariant.1)

pub returns : goal.returns
returns c =
    λ yes. all_in_turn (plan_of c.args.past.now) (record_of c.args.past.now) (record_of c.entries.rest) c.args.s c.args.count c.entries.left
    (eqb-true c.entries.left 0 yes) (c.entries.invariant.1)
