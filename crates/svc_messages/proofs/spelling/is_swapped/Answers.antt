use Rattle.std.proofs.Common.{arith}
use Rattle.std.proofs.lemmas.Bool.{ltb-false}
use Rattle.svc_messages.proofs.SpellingLemmas.{swaps}
use Rattle.svc_messages.proofs.spelling.is_swapped.Goals as goal

pub returns-in-len2-up-len2-up : goal.returns-in-len2-up-len2-up
returns-in-len2-up-len2-up c =
    swaps c.eq.result c.args.a.now c.args.b.now (omega (arith, ltb-false)) (omega (arith, ltb-false)) c.if-x-w.true c.if-y-z.true c.eq.ensures
