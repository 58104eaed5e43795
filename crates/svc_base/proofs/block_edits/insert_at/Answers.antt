use Rattle.std.proofs.Common.{rules, ◌≡◌, ◌<◌, ◌+◌, length, insert, get_or, ap, ◌∙◌, arith, Vec, Global, vec_capacity}
use Rattle.std.proofs.lemmas.List.Edits.{length-insert}
use Rattle.svc_base.specs.Blocks.{first_key}
use Rattle.svc_base.proofs.BlockLemmas.{joined-put, later-set, put-wide}
use Rattle.svc_base.proofs.IndexLemmas.{first-insert, index-set}
use Rattle.svc_base.proofs.block_edits.insert_at.Goals as goal

pub returns-clause-entries : goal.returns-clause-entries
returns-clause-entries g c =
    let old = c.index_mut.result.now in
    let lt : c.args.place.block < length c.args.blocks.now.items = search rules in
    joined-put c.args.blocks.now.items c.args.place.block c.args.place.entry c.insert_in.new.block c.args.entry old lt
    (c.insert_in.ensures.items ∙ ap (λ (v : Vec g.row.T.Denot Global). insert v.items c.args.place.entry c.args.entry) c.index_mut.ensures.value)

pub returns-clause-filled : goal.returns-clause-filled
returns-clause-filled g c = later-set c.args.blocks.now.items c.args.place.block c.insert_in.new.block (λ some.
    let old = c.index_mut.result.now in
    let more = ap length
    (c.insert_in.ensures.items ∙ ap (λ (v : Vec g.row.T.Denot Global). insert v.items c.args.place.entry c.args.entry) c.index_mut.ensures.value) in
    omega (arith, length-insert (get_or c.args.blocks.now.items c.args.place.block old).items c.args.place.entry c.args.entry (c.requires.inside old)))

pub returns-clause-wide : goal.returns-clause-wide
returns-clause-wide g c = λ n.
    let old = c.index_mut.result.now in
    let lt : c.args.place.block < length c.args.blocks.now.items = search rules in
    let inside = c.requires.inside old in
    let size : length c.insert_in.new.block.items ≡ length (get_or c.args.blocks.now.items c.args.place.block old).items + 1 =
    ap length (c.insert_in.ensures.items ∙ ap (λ (v : Vec g.row.T.Denot Global). insert v.items c.args.place.entry c.args.entry) c.index_mut.ensures.value)
    ∙ length-insert (get_or c.args.blocks.now.items c.args.place.block old).items c.args.place.entry c.args.entry inside in
    put-wide n c.args.blocks.now.items c.args.place.block c.insert_in.new.block old lt size
    (c.insert_in.ensures.room ∙ ap (λ (v : Vec g.row.T.Denot Global). vec_capacity v) c.index_mut.ensures.value)

pub returns-clause-firsts : goal.returns-clause-firsts
returns-clause-firsts g c = λ key later notes.
    let old = c.index_mut.result.now in
    index-set key notes c.args.blocks.now.items c.args.place.block c.insert_in.new.block old (λ some.
    ap (first_key key)
    (c.insert_in.ensures.items ∙ ap (λ (v : Vec g.row.T.Denot Global). insert v.items c.args.place.entry c.args.entry) c.index_mut.ensures.value)
    ∙ first-insert key (get_or c.args.blocks.now.items c.args.place.block old).items c.args.place.entry c.args.entry (later some) (c.requires.inside old))
