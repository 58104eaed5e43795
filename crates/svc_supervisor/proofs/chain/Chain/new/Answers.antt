use Rattle.svc_supervisor.proofs.ChainLemmas.{first-chain, first-begins, first-kept}
use Rattle.svc_supervisor.proofs.chain.Chain.new.Goals as goal

pub invariant_of-result : goal.invariant_of-result
invariant_of-result c =
    let made = c.in_ok-generation.ensures in
    first-chain c.args.first c.in_ok-generation.generation c.push.new.self.items made.begins (rw c.new-generations.ensures.items at c.in-Ok.ensures.items)

pub returns-in-Ok-clause-begun : goal.returns-in-Ok-clause-begun
returns-in-Ok-clause-begun c =
    let made = c.in_ok-generation.ensures in
    first-begins c.args.first c.in_ok-generation.generation c.push.new.self.items made.begins made.may
    (rw c.new-generations.ensures.items at c.in-Ok.ensures.items)

pub returns-in-Ok-clause-kept : goal.returns-in-Ok-clause-kept
returns-in-Ok-clause-kept c =
    let made = c.in_ok-generation.ensures in
    first-kept c.args.first c.in_ok-generation.generation c.push.new.self.items made.begins (rw c.new-generations.ensures.items at c.in-Ok.ensures.items)
