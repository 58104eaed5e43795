use Rattle.std.proofs.Common.{rules, ◌<◌, ◌∷◌, suc, length, get_or, ap, sym, ◌∙◌, arith, Vec, Global, vec_capacity}
use Rattle.std.specs.List.{remove}
use Rattle.std.proofs.lemmas.List.Edits.{length-remove}
use Rattle.svc_base.specs.Blocks.{behind}
use Rattle.svc_base.proofs.BlockLemmas.{joined-cut, behind-at, later-set, cut-wide}
use Rattle.svc_base.proofs.IndexLemmas.{index-cut}
use Rattle.svc_base.proofs.block_edits.remove_in.Goals as goal

pub returns-clause-entries : goal.returns-clause-entries
returns-clause-entries g c =
    let old = c.index_mut-block.result.now in
    let lt : c.args.place.block < length c.args.blocks.now.items = search rules in
    joined-cut c.args.blocks.now.items c.args.place.block c.args.place.entry c.remove-entry.new.self old lt
    (c.remove-entry.ensures.items ∙ ap (λ (v : Vec g.row.T.Denot Global). remove v.items c.args.place.entry) c.index_mut-block.ensures.value)

pub returns-clause-taken : goal.returns-clause-taken
returns-clause-taken g c =
    let old = c.index_mut-block.result.now in
    let lt : c.args.place.block < length c.args.blocks.now.items = search rules in
    behind-at c.args.blocks.now.items c.args.place.block c.args.place.entry old c.remove-entry.result lt (c.requires.inside old)
    ∙ ap (λ (x : g.row.T.Denot). x ∷ behind c.args.blocks.now.items c.args.place.block (suc c.args.place.entry))
    (sym
    (c.remove-entry.ensures.value
    ∙ ap (λ (v : Vec g.row.T.Denot Global). get_or v.items c.args.place.entry c.remove-entry.result) c.index_mut-block.ensures.value))

pub returns-clause-filled : goal.returns-clause-filled
returns-clause-filled g c = later-set c.args.blocks.now.items c.args.place.block c.remove-entry.new.self (λ some.
    let old = c.index_mut-block.result.now in
    let size = ap length
    (c.remove-entry.ensures.items ∙ ap (λ (v : Vec g.row.T.Denot Global). remove v.items c.args.place.entry) c.index_mut-block.ensures.value) in
    let others = c.requires.others old some in
    omega (arith, length-remove (get_or c.args.blocks.now.items c.args.place.block old).items c.args.place.entry (c.requires.inside old)))

pub returns-clause-wide : goal.returns-clause-wide
returns-clause-wide g c = λ n.
    let old = c.index_mut-block.result.now in
    let lt : c.args.place.block < length c.args.blocks.now.items = search rules in
    let size = ap length
    (c.remove-entry.ensures.items ∙ ap (λ (v : Vec g.row.T.Denot Global). remove v.items c.args.place.entry) c.index_mut-block.ensures.value) in
    cut-wide n c.args.blocks.now.items c.args.place.block c.remove-entry.new.self old lt
    (omega (arith, length-remove (get_or c.args.blocks.now.items c.args.place.block old).items c.args.place.entry (c.requires.inside old)))
    (c.remove-entry.ensures.capacity ∙ ap (λ (v : Vec g.row.T.Denot Global). vec_capacity v) c.index_mut-block.ensures.value)

pub returns-clause-index : goal.returns-clause-index
returns-clause-index g c = λ h.
    let key = g.T.Keyed.key_of in
    let old = c.index_mut-block.result.now in
    rw (c.note_after.ensures, c.deref.ensures.value)
    (index-cut key c.args.firsts.now.items c.args.blocks.now.items c.args.place.block c.args.place.entry c.remove-entry.new.self old
    (c.remove-entry.ensures.items ∙ ap (λ (v : Vec g.row.T.Denot Global). remove v.items c.args.place.entry) c.index_mut-block.ensures.value) h)
