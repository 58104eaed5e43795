use Rattle.std.proofs.Common.{ℕ, List, get_or, subst, ap, ◌∙◌, Vec, Global}
use Rattle.svc_base.specs.Items.{list_of}
use Rattle.svc_base.specs.Blocks.{StandsLast}
use Rattle.svc_base.proofs.BlockLemmas.{stands-last}
use Rattle.svc_base.proofs.blocks.Blocks.last_up_to.Goals as goal

pub returns-in-Some-clause-found : goal.returns-in-Some-clause-found
returns-in-Some-clause-found g c =
    let key = g.T.Keyed.key_of in
    let place = rw c.deref.ensures.value at c.in-Some.ensures.found in
    subst (λ (l : List g.row.T.Denot × ℕ). StandsLast key c.args.key (list_of l) c.index.result.now) c.self.view_is
    (stands-last key c.args.key c.self.inside.blocks.items c.in-Some.place.block c.in-Some.place.entry c.index-block.result.now c.index.result.now place
    (c.index.ensures ∙ ap (λ (v : Vec g.row.T.Denot Global). get_or v.items c.in-Some.place.entry c.index.result.now) c.index-block.ensures))
