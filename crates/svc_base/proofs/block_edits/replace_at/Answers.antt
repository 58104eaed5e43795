use Rattle.std.proofs.Common.{rules, ◌<◌, length, set, get_or, ap, ◌∙◌, Vec, Global, vec_capacity, length-set}
use Rattle.std.specs.Vec.{with_item}
use Rattle.svc_base.specs.Blocks.{first_key}
use Rattle.svc_base.proofs.BlockLemmas.{joined-other, sized-filled, sized-wide}
use Rattle.svc_base.proofs.IndexLemmas.{first-set, index-set}
use Rattle.svc_base.proofs.block_edits.replace_at.Goals as goal

pub returns-clause-entries : goal.returns-clause-entries
returns-clause-entries g c =
    let old = c.index_mut-block.result.now in
    let lt : c.args.place.block < length c.args.blocks.now.items = search rules in
    joined-other c.args.blocks.now.items c.args.place.block c.args.place.entry (with_item old c.args.place.entry c.args.entry) c.args.entry old lt
    (c.requires.inside old)
    (ap (λ (v : Vec g.row.T.Denot Global). set v.items c.args.place.entry c.args.entry) c.index_mut-block.ensures.value)

pub returns-clause-filled : goal.returns-clause-filled
returns-clause-filled g c =
    let old = c.index_mut-block.result.now in
    let lt : c.args.place.block < length c.args.blocks.now.items = search rules in
    sized-filled c.args.blocks.now.items c.args.place.block (with_item old c.args.place.entry c.args.entry) old lt
    (length-set old.items c.args.place.entry c.args.entry ∙ ap (λ (v : Vec g.row.T.Denot Global). length v.items) c.index_mut-block.ensures.value)

pub returns-clause-wide : goal.returns-clause-wide
returns-clause-wide g c = λ n.
    let old = c.index_mut-block.result.now in
    let lt : c.args.place.block < length c.args.blocks.now.items = search rules in
    sized-wide n c.args.blocks.now.items c.args.place.block (with_item old c.args.place.entry c.args.entry) old lt
    (length-set old.items c.args.place.entry c.args.entry ∙ ap (λ (v : Vec g.row.T.Denot Global). length v.items) c.index_mut-block.ensures.value)
    (ap (λ (v : Vec g.row.T.Denot Global). vec_capacity v) c.index_mut-block.ensures.value)

pub returns-clause-firsts : goal.returns-clause-firsts
returns-clause-firsts g c = λ key place notes.
    let old = c.index_mut-block.result.now in
    index-set key notes c.args.blocks.now.items c.args.place.block (with_item old c.args.place.entry c.args.entry) old (λ some.
    ap (λ (v : Vec g.row.T.Denot Global). first_key key (set v.items c.args.place.entry c.args.entry)) c.index_mut-block.ensures.value
    ∙ first-set key (get_or c.args.blocks.now.items c.args.place.block old).items c.args.place.entry c.args.entry (place.here old))
