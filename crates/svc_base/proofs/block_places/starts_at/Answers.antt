use Rattle.svc_base.proofs.IndexLemmas.{starts-noted}
use Rattle.svc_base.proofs.block_places.starts_at.Goals as goal

pub returns-then-at-firsts : goal.returns-then-at-firsts
returns-then-at-firsts g c = λ d.
    starts-noted g.T.Keyed.key_of c.args.key c.args.firsts.now c.args.blocks.now c.args.at d c.requires.index c.requires.later c.if-at-firsts.true
