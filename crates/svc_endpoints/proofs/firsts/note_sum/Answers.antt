use Rattle.svc_endpoints.proofs.FirstLemmas.{noted-firsts}
use Rattle.svc_endpoints.proofs.firsts.note_sum.Goals as goal

pub returns-clause-firsts : goal.returns-clause-firsts
returns-clause-firsts c = λ a sum table few was.
    noted-firsts c.args.sum a c.args.fd c.args.firsts.now c.remove-was.new.self c.insert.new.self c.remove-was.result c.with_one.result sum
    c.remove-was.ensures.removed c.remove-was.ensures.absent c.remove-was.ensures.same c.with_one.ensures.more c.with_one.ensures.one
    c.insert.ensures.entries table few was
