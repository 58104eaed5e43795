use Rattle.std.proofs.Common.{sym, ◌∙◌}
use Rattle.svc_judge.proofs.OfferLemmas.{upgrade_came}
use Rattle.svc_judge.proofs.offer.is_upgrade.Goals as goal

pub returns-clause-came : goal.returns-clause-came
returns-clause-came c = λ h. upgrade_came c.args.entries.now (sym c.is_upgrade_signal.ensures ∙ h)
