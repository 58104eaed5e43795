use Rattle.svc_base.specs.Items.{list_of}
use Rattle.svc_endpoints.proofs.FirstLemmas.{forgotten-absent, forgotten-removed, forgotten-lowered}
use Rattle.svc_endpoints.proofs.firsts.forget_sum.Goals as goal

pub returns-then-first-gt1-clause-firsts : goal.returns-then-first-gt1-clause-firsts
returns-then-first-gt1-clause-firsts c = λ a sum fd table was.
    forgotten-lowered c.args.sum a sum fd (list_of c.args.firsts.now) table was c.in-Some.first.now c.in-Some.ensures.found c.if-first-gt1.true
    c.replace.result (list_of c.replace.new.self) c.replace.ensures.replaced c.replace.ensures.absent

pub returns-else-first-gt1-clause-firsts : goal.returns-else-first-gt1-clause-firsts
returns-else-first-gt1-clause-firsts c = λ a sum fd table was.
    forgotten-removed c.args.sum a sum fd (list_of c.args.firsts.now) table was c.in-Some.first.now c.in-Some.ensures.found c.if-first-gt1.false
    c.remove.result c.remove.new.self c.remove.ensures.removed c.remove.ensures.absent

pub returns-in_default-clause-firsts : goal.returns-in_default-clause-firsts
returns-in_default-clause-firsts c = λ a sum fd table was.
    forgotten-absent c.args.sum a sum fd (list_of c.args.firsts.now) table was c.in_default.ensures.absent
