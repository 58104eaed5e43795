use Rattle.svc_main.proofs.ScriptAnswerLemmas.{if_ok}
use Rattle.svc_generations.proofs.AnswerLemmas.{prints_chain}
use Rattle.svc_generations.proofs.answering.finished.Goals as goal

pub returns : goal.returns
returns c = λ blocks serves.
    if_ok _ _ c.printed.result c.printed.ensures (λ a h.
    prints_chain (record { blocks = blocks; steps = c.args.steps.now }) c.take_all.new.self _ _ _ a.line _
    (c.in_ok-take_all.ensures.ends blocks serves) c.in_ok-finish.ensures.closed c.in_ok-finish.ensures.finished
    c.line_of-line.ensures h.0 h.1)
