use Rattle.std.proofs.Common.{◌-◌, ◌∙◌, sym}
use Rattle.svc_offer.proofs.RetryLemmas.{waits, after-waits, ends-here, ended, goes-on, retries-is}
use Rattle.svc_offer.proofs.offer.ends.Goals as goal

pub returns-in-Done-clause-last : goal.returns-in-Done-clause-last
returns-in-Done-clause-last c = let n = c.args.retry.now in
    ends-here c.step.result c.in-Done.is
    ∙ ended n c.args.answer c.step.result c.requires (c.step.ensures.next n.absences (waits (19 - n.delays)) (after-waits n c.requires))

pub returns-in-Done-clause-after : goal.returns-in-Done-clause-after
returns-in-Done-clause-after c = let n = c.args.retry.now in
    retries-is n c.step.new.self c.args.answer c.requires (c.step.ensures.after n.absences (waits (19 - n.delays)) (after-waits n c.requires))

pub returns-in_default-clause-last : goal.returns-in_default-clause-last
returns-in_default-clause-last c = let n = c.args.retry.now in
    sym (goes-on c.step.result c.in_default.not-Done c.in_default.not-Refused)
    ∙ ended n c.args.answer c.step.result c.requires (c.step.ensures.next n.absences (waits (19 - n.delays)) (after-waits n c.requires))

pub returns-in_default-clause-after : goal.returns-in_default-clause-after
returns-in_default-clause-after c = let n = c.args.retry.now in
    retries-is n c.step.new.self c.args.answer c.requires (c.step.ensures.after n.absences (waits (19 - n.delays)) (after-waits n c.requires))
