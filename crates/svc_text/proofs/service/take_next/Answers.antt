use Rattle.svc_text.proofs.ItemLemmas.{undeclared_not, undeclared_taken, pair_odd, pair_not, pair_taken, not_taken, taken}
use Rattle.svc_text.proofs.service.take_next.Goals as goal

pub returns-then-take_undeclared-clause-items : goal.returns-then-take_undeclared-clause-items
returns-then-take_undeclared-clause-items c =
    undeclared_taken _ _ c.args.key.now (_) (cc) (taken _ _ _ c.if-take_undeclared.true c.take_undeclared.ensures)

pub returns-then-eq-clause-items : goal.returns-then-eq-clause-items
returns-then-eq-clause-items c =
    undeclared_not _ c.args.key.now (_) (cc) (not_taken _ _ _ c.if-take_undeclared.false c.take_undeclared.ensures)

pub returns-in_default-clause-items : goal.returns-in_default-clause-items
returns-in_default-clause-items c = pair_odd _ c.args.key.now (_) (cc) c.in_default.ensures.first

pub returns-then-branch-clause-items : goal.returns-then-branch-clause-items
returns-then-branch-clause-items c =
    pair_taken _ _ c.args.key.now c.in-Some.value.now (_) (_) (cc) c.in-Some.ensures.first (taken _ _ _ c.if-branch.true c.in_ok-take_item.ensures)

pub returns-clause-items : goal.returns-clause-items
returns-clause-items c =
    pair_not _ c.args.key.now c.in-Some.value.now (_) (_) (cc) c.in-Some.ensures.first (not_taken _ _ _ c.if-branch.false c.in_ok-take_item.ensures)
