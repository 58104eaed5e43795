use Rattle.std.proofs.Common.{arith}
use Rattle.svc_messages.proofs.SpellingLemmas.{share_one}
use Rattle.std.proofs.lemmas.Bool.{ltb-false}
use Rattle.svc_messages.proofs.spelling.behind_shared.Goals as goal

pub loop-left-preserved : goal.loop-left-preserved
loop-left-preserved c =
    share_one c.args.a.now c.args.b.now c.loop-left.left.now c.loop-left.right.now (omega (arith, ltb-false))
    (omega (arith, ltb-false)) c.if-x-y.true c.loop-left.invariant
