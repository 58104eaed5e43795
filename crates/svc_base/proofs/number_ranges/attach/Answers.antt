use Rattle.std.proofs.Common.{◌∙◌}
use Rattle.svc_base.specs.Items.{list_of}
use Rattle.svc_base.proofs.RangeLemmas.{attached-put, replaced-is}
use Rattle.svc_base.proofs.number_ranges.attach.Goals as goal

pub returns-in-Some-clause-ranges : goal.returns-in-Some-clause-ranges
returns-in-Some-clause-ranges c =
    replaced-is c.args.range c.in-Some.before (list_of c.args.ranges.now) (list_of c.replace.new.self) c.replace.result c.replace.ensures.replaced
    c.replace.ensures.absent c.in-Some.ensures.found c.requires.apart

pub returns-in-None-clause-ranges : goal.returns-in-None-clause-ranges
returns-in-None-clause-ranges c = c.insert.ensures.entries ∙ attached-put c.args.range (list_of c.args.ranges.now) c.in-None.ensures.absent
