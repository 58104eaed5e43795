use Rattle.std.proofs.Common.{◌<◌, length, arith}
use Rattle.svc_base.specs.Items.{list_of}
use Rattle.svc_generations.proofs.TextOfChain.{text_more}
use Rattle.svc_generations.proofs.printing.chain_text.Goals as goal

pub loop-generation-preserved : goal.loop-generation-preserved
loop-generation-preserved c =
    let inside : c.loop-generation.generation < length c.args.chain.now.generations =
    (let test = c.loop-generation-test.true in let count = c.generations-generation-end.ensures.count in omega arith) in
    text_more _ _ c.loop-generation.generation c.args.chain.now.generations (list_of c.entries.result.now) inside c.entries.ensures
    (rw c.as_slice.ensures at c.in_ok-add_generation.ensures) c.loop-generation.invariant
