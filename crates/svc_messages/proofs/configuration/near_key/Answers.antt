use Rattle.svc_messages.proofs.PlainLemmas.{nearest_plain}
use Rattle.svc_messages.proofs.configuration.near_key.Goals as goal

pub returns : goal.returns
returns c = nearest_plain c.args.key.now c.args.known.now c.nearest.result c.nearest.ensures c.requires
