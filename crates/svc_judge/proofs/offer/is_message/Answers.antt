use Rattle.std.proofs.Common.{ap, ◌∙◌}
use Rattle.svc_record.specs.Offer.{is_message}
use Rattle.svc_judge.proofs.offer.is_message.Goals as goal

pub returns : goal.returns
returns c = c.says.ensures ∙ ap (is_message c.args.bytes.now c.args.fds.now) (c.requires.past.message c.requires.signalled)
