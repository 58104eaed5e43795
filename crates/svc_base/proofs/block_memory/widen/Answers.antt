use Rattle.std.proofs.Common.{rules, ◌<◌, length, ap, ◌∙◌, Vec, Global}
use Rattle.svc_base.specs.Blocks.{first_key}
use Rattle.svc_base.proofs.BlockLemmas.{keeps-same}
use Rattle.svc_base.proofs.IndexLemmas.{index-set}
use Rattle.svc_base.proofs.block_memory.widen.Goals as goal

pub returns-in_err-reserve_exact-clause-kept : goal.returns-in_err-reserve_exact-clause-kept
returns-in_err-reserve_exact-clause-kept g c =
    let lt : c.args.at < length c.args.blocks.now.items = search rules in
    keeps-same c.args.blocks.now.items c.args.at c.reserve_exact.new.self c.index_mut-block.result.now lt
    (c.reserve_exact.ensures.items ∙ ap (λ (v : Vec g.row.T.Denot Global). v.items) c.index_mut-block.ensures.value)

pub returns-in_ok-reserve_exact-clause-kept : goal.returns-in_ok-reserve_exact-clause-kept
returns-in_ok-reserve_exact-clause-kept g c =
    let lt : c.args.at < length c.args.blocks.now.items = search rules in
    keeps-same c.args.blocks.now.items c.args.at c.reserve_exact.new.self c.index_mut-block.result.now lt
    (c.reserve_exact.ensures.items ∙ ap (λ (v : Vec g.row.T.Denot Global). v.items) c.index_mut-block.ensures.value)

pub returns-in_err-reserve_exact-clause-firsts : goal.returns-in_err-reserve_exact-clause-firsts
returns-in_err-reserve_exact-clause-firsts g c = λ key notes.
    index-set key notes c.args.blocks.now.items c.args.at c.reserve_exact.new.self c.index_mut-block.result.now (λ some.
    ap (first_key key) (c.reserve_exact.ensures.items ∙ ap (λ (v : Vec g.row.T.Denot Global). v.items) c.index_mut-block.ensures.value))

pub returns-in_ok-reserve_exact-clause-firsts : goal.returns-in_ok-reserve_exact-clause-firsts
returns-in_ok-reserve_exact-clause-firsts g c = λ key notes.
    index-set key notes c.args.blocks.now.items c.args.at c.reserve_exact.new.self c.index_mut-block.result.now (λ some.
    ap (first_key key) (c.reserve_exact.ensures.items ∙ ap (λ (v : Vec g.row.T.Denot Global). v.items) c.index_mut-block.ensures.value))
