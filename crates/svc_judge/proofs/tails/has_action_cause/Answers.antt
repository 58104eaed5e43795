use Rattle.std.proofs.Common.{◌∙◌}
use Rattle.svc_judge.proofs.TailLemmas.{brought_is}
use Rattle.svc_judge.proofs.tails.has_action_cause.Goals as goal

pub returns-in-Cut : goal.returns-in-Cut
returns-in-Cut c = rw c.in-Cut.is (c.is_live_in.ensures c.args.finished.now c.requires)

pub returns-in-Close : goal.returns-in-Close
returns-in-Close c = rw c.in-Close.is (c.has_brought.ensures ∙ brought_is c.in-Close.fd c.args.before.now)
