use Rattle.std.proofs.Common.{◌∙◌, sym, inl, arith}
use Rattle.svc_generations.proofs.AnswerLemmas.{answers_from, whole_is_chained, refused_words}
use Rattle.svc_generations.proofs.program.serve_chain.Goals as goal

pub returns-in-Ok-write_all-clause-chained : goal.returns-in-Ok-write_all-clause-chained
returns-in-Ok-write_all-clause-chained g c = λ e.
    answers_from 0 (λ q. omega (arith, q)) (λ q. omega (arith, q)) (λ q. omega (arith, q)) _ (g.S.Source.left c.args.source.now)
    (g.S.Source.left c.make_answer.new.source) _ _ c.in-Ok.answer.line _
    c.in-Ok.ensures.answer c.in-Ok.ensures.ended (rw c.as_bytes.ensures.value at c.in-Ok-write_all.ensures.whole) (sym c.status.ensures ∙ e)

pub returns-in-Ok-write_all-clause-step_refused : goal.returns-in-Ok-write_all-clause-step_refused
returns-in-Ok-write_all-clause-step_refused g c = λ e.
    answers_from 4 (λ q. omega (arith, q)) (λ q. omega (arith, q)) (λ q. omega (arith, q)) _ (g.S.Source.left c.args.source.now)
    (g.S.Source.left c.make_answer.new.source) _ _ c.in-Ok.answer.line _
    c.in-Ok.ensures.answer c.in-Ok.ensures.ended (rw c.as_bytes.ensures.value at c.in-Ok-write_all.ensures.whole) (sym c.status.ensures ∙ e)

pub returns-in-Ok-write_all-clause-complete : goal.returns-in-Ok-write_all-clause-complete
returns-in-Ok-write_all-clause-complete g c = λ bytes input tells whole source sink.
    let answered = c.in-Ok.ensures.answer in
    inl (c.status.ensures ∙ whole_is_chained _ bytes input c.in-Ok.answer.line _ _ _ whole (rw tells at answered) c.in-Ok.ensures.fault source)

pub returns-in-Ok-write_all-clause-words_refused : goal.returns-in-Ok-write_all-clause-words_refused
returns-in-Ok-write_all-clause-words_refused g c =
    λ refused. inl (c.status.ensures ∙ refused_words _ (g.S.Source.left c.args.source.now) c.in-Ok.answer.line _ refused c.in-Ok.ensures.answer)
