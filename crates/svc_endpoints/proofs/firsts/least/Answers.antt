use Rattle.svc_base.specs.Items.{list_of}
use Rattle.svc_endpoints.proofs.FirstLemmas.{least-found, none-found}
use Rattle.svc_endpoints.proofs.firsts.least.Goals as goal

pub returns-in-Some-clause-found : goal.returns-in-Some-clause-found
returns-in-Some-clause-found c = λ table was. least-found c.args.sum (list_of c.args.firsts.now) c.in-Some.first.now c.in-Some.ensures.found table was

pub returns-in-None-clause-absent : goal.returns-in-None-clause-absent
returns-in-None-clause-absent c = λ table was. none-found c.args.sum (list_of c.args.firsts.now) c.in-None.ensures.absent table was
