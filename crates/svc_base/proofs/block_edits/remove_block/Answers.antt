use Rattle.std.proofs.Common.{rules, ◌<◌, ◌∷◌, suc, length, get_or, ap, sym, ◌∙◌, List, ℕ, Vec, Global}
use Rattle.svc_base.specs.Blocks.{joined, later_filled, are_wide, behind, is_index}
use Rattle.svc_base.proofs.BlockLemmas.{joined-remove, behind-at, later-remove, wide-remove}
use Rattle.svc_base.proofs.IndexLemmas.{index-remove}
use Rattle.svc_base.proofs.block_edits.remove_block.Goals as goal

pub returns-clause-entries : goal.returns-clause-entries
returns-clause-entries g c =
    let old = c.remove-block.result in
    let lt : c.args.place.block < length c.args.blocks.now.items = search rules in
    ap joined c.remove-block.ensures.items
    ∙ joined-remove c.args.blocks.now.items c.args.place.block c.args.place.entry old lt (c.requires.inside old) (c.requires.alone old)

pub returns-clause-taken : goal.returns-clause-taken
returns-clause-taken g c =
    let old = c.remove-block.result in
    let lt : c.args.place.block < length c.args.blocks.now.items = search rules in
    behind-at c.args.blocks.now.items c.args.place.block c.args.place.entry old c.remove.result lt (c.requires.inside old)
    ∙ ap (λ (x : g.row.T.Denot). x ∷ behind c.args.blocks.now.items c.args.place.block (suc c.args.place.entry))
    (sym (c.remove.ensures.value ∙ ap (λ (v : Vec g.row.T.Denot Global). get_or v.items c.args.place.entry c.remove.result) c.remove-block.ensures.value))

pub returns-clause-filled : goal.returns-clause-filled
returns-clause-filled g c = λ h. ap later_filled c.remove-block.ensures.items ∙ later-remove c.args.blocks.now.items c.args.place.block c.requires.later h

pub returns-clause-wide : goal.returns-clause-wide
returns-clause-wide g c = λ n h. ap (are_wide n) c.remove-block.ensures.items ∙ wide-remove n c.args.blocks.now.items c.args.place.block h

pub returns-clause-index : goal.returns-clause-index
returns-clause-index g c = λ h.
    ap (λ (notes : List ℕ). is_index g.T.Keyed.key_of notes c.remove-block.new.self.items) c.forget_first.ensures
    ∙ ap (is_index g.T.Keyed.key_of _) c.remove-block.ensures.items
    ∙ index-remove g.T.Keyed.key_of c.args.firsts.now.items c.args.blocks.now.items c.args.place.block c.requires.later h
