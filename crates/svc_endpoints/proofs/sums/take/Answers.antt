use Rattle.std.proofs.Common.{ap, ◌∙◌}
use Rattle.svc_base.specs.Items.{list_of}
use Rattle.svc_base.specs.NumberSets.{is_in}
use Rattle.svc_endpoints.proofs.SumLemmas.{put-here, put-grows}
use Rattle.svc_endpoints.proofs.sums.take.Goals as goal

pub returns-then-not-has-clause-put : goal.returns-then-not-has-clause-put
returns-then-not-has-clause-put c = ap (is_in c.args.number) c.add.ensures.numbers ∙ put-here c.args.number (list_of c.args.numbers.now)

pub returns-then-not-has-clause-kept : goal.returns-then-not-has-clause-kept
returns-then-not-has-clause-kept c = λ n h. ap (is_in n) c.add.ensures.numbers ∙ put-grows c.args.number (list_of c.args.numbers.now) n h
