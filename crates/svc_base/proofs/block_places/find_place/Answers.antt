use Rattle.std.proofs.Common.{◌∙◌}
use Rattle.svc_base.specs.Blocks.{joined}
use Rattle.svc_base.proofs.KeyLemmas.{none-over}
use Rattle.svc_base.proofs.BlockLemmas.{absent-other}
use Rattle.svc_base.proofs.block_places.find_place.Goals as goal

pub returns-else-key-clause-absent : goal.returns-else-key-clause-absent
returns-else-key-clause-absent g c =
    absent-other g.T.Keyed.key_of c.args.key c.args.blocks.now c.in-Some.place.block c.in-Some.place.entry
    c.index-blocks-place.result c.index.result.now c.in-Some.ensures.found c.index-blocks-place.is c.index.ensures
    (λ e. c.if-key.false (c.key.ensures ∙ e)) c.requires.rise

pub returns-in-None-clause-absent : goal.returns-in-None-clause-absent
returns-in-None-clause-absent g c = none-over g.T.Keyed.key_of c.args.key (joined c.args.blocks.now) c.in-None.ensures.absent
