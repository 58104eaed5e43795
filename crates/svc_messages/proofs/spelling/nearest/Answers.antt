use Rattle.std.proofs.Common.{arith}
use Rattle.svc_messages.proofs.SpellingLemmas.{none_more, none_left}
use Rattle.svc_messages.proofs.spelling.nearest.Goals as goal

pub loop-name-preserved : goal.loop-name-preserved
loop-name-preserved c =
    none_more c.args.word.now _ c.args.known.now c.loop-name.name-index _ c.loop-name-test.true c.loop-name.invariant c.as_bytes.ensures.value
    c.if-is_one_off.ensures.1

pub returns : goal.returns
returns c = none_left c.args.word.now c.args.known.now c.loop-name.name-index (omega arith) c.loop-name.invariant
