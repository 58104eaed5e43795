use Rattle.std.proofs.Common.{ap, ◌∙◌}
use Rattle.svc_record.specs.Offer.{is_written}
use Rattle.svc_judge.proofs.offer.is_written.Goals as goal

pub returns : goal.returns
returns c = c.has_message.ensures ∙ ap is_written (c.requires.past.message c.requires.signalled)
