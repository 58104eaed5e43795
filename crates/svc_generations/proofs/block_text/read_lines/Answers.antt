use Rattle.std.proofs.Common.{arith}
use Rattle.svc_generations.proofs.BlockTextLemmas.{block_none, block_more, block_all}
use Rattle.svc_generations.proofs.block_text.read_lines.Goals as goal

pub loop-line-init : goal.loop-line-init
loop-line-init c = let made = c.new-block.ensures in block_none c.args.text.now c.new-block.result made.text made.count made.part made.daemon

pub take_line-requires : goal.take_line-requires
take_line-requires c = record {
  count = let room = c.loop-line.invariant.room in omega (arith, c.in-Some.ensures.shorter);
  part = c.loop-line.invariant.parts;
}

pub loop-line-preserved : goal.loop-line-preserved
loop-line-preserved c =
    let cut = c.in-Some.ensures.cut in
    let took = c.in_ok-take_line.ensures in
    block_more c.args.text.now c.loop-line.rest.now c.in-Some.line.now c.in-Some.after.now c.loop-line.block c.take_line.new.self c.loop-line.invariant cut.0
    cut.1 c.in-Some.ensures.shorter took.text took.count took.part took.daemon

pub returns-clause-lines : goal.returns-clause-lines
returns-clause-lines c =
    (block_all c.args.text.now c.loop-line.rest.now _ c.loop-line.block c.loop-line.invariant c.in_default.ensures.cut c.in_ok-add_line.ensures).lines_are

pub returns-clause-count : goal.returns-clause-count
returns-clause-count c =
    (block_all c.args.text.now c.loop-line.rest.now _ c.loop-line.block c.loop-line.invariant c.in_default.ensures.cut c.in_ok-add_line.ensures).count

pub returns-clause-daemon : goal.returns-clause-daemon
returns-clause-daemon c =
    (block_all c.args.text.now c.loop-line.rest.now _ c.loop-line.block c.loop-line.invariant c.in_default.ensures.cut c.in_ok-add_line.ensures).daemon

pub returns-clause-rest : goal.returns-clause-rest
returns-clause-rest c =
    (block_all c.args.text.now c.loop-line.rest.now _ c.loop-line.block c.loop-line.invariant c.in_default.ensures.cut c.in_ok-add_line.ensures).rest_is

pub returns-clause-short : goal.returns-clause-short
returns-clause-short c = c.loop-line.invariant.room
