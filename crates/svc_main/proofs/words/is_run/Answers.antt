use Rattle.std.proofs.Common.{arith}
use Rattle.svc_main.proofs.WordsLemmas.{first_is_run}
use Rattle.svc_main.proofs.words.is_run.Goals as goal

pub returns-in-len1-up : goal.returns-in-len1-up
returns-in-len1-up c =
    first_is_run c.args.words.now c.word-item.result c.eq.result (omega (arith, c.in-len1-up.len_at_least)) c.word-item.is
    (rw (← c.as_str.ensures.value) c.eq.ensures)
