use Rattle.svc_messages.proofs.PlainLemmas.{or_plain}
use Rattle.svc_messages.proofs.configuration.meant.Goals as goal

pub returns : goal.returns
returns c =
    or_plain c.or-3.result c.near_key-5.result c.or-4.result c.or-4.ensures
    (or_plain c.or-2.result c.near_key-4.result c.or-3.result c.or-3.ensures
    (or_plain c.or.result c.near_key-3.result c.or-2.result c.or-2.ensures
    (or_plain c.near_key.result c.near_key-2.result c.or.result c.or.ensures c.near_key.ensures c.near_key-2.ensures) c.near_key-3.ensures)
    c.near_key-4.ensures)
    c.near_key-5.ensures
