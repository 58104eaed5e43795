use Rattle.std.proofs.Common.{arith, add-one}
use Rattle.svc_supervisor.proofs.ClosingLemmas.{next-stands, closed-more, closed-all, whole-all}
use Rattle.svc_supervisor.proofs.generation.close_each.Goals as goal

pub close-requires : goal.close-requires
close-requires c = record {
  stands = next-stands c.loop-generation.generation-index c.args.generations.now c.loop-generation.generations c.generation-item.result
      (let same = c.loop-generation.auto.generations in let inside = c.loop-generation-test.true in omega arith) c.requires.stand c.loop-generation.invariant;
}

pub loop-generation-preserved : goal.loop-generation-preserved
loop-generation-preserved c =
    rw add-one (closed-more c.loop-generation.generation-index c.args.generations.now c.loop-generation.generations c.generation-item.result c.close.new.self
    (let same = c.loop-generation.auto.generations in let inside = c.loop-generation-test.true in omega arith) c.loop-generation.invariant
    c.close.ensures.closed)

pub returns-clause-closed : goal.returns-clause-closed
returns-clause-closed c = closed-all c.loop-generation.generation-index c.args.generations.now c.loop-generation.generations
    (let same = c.loop-generation.auto.generations in let all = c.loop-generation-test.false in omega arith) c.loop-generation.invariant

pub returns-clause-whole : goal.returns-clause-whole
returns-clause-whole c = whole-all c.loop-generation.generation-index c.args.generations.now c.loop-generation.generations
    (let same = c.loop-generation.auto.generations in let all = c.loop-generation-test.false in omega arith) c.loop-generation.invariant
