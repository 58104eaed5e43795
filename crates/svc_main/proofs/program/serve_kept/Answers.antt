use Rattle.std.proofs.Common.{◌∙◌, sym, ap, inl, arith}
use Rattle.svc_main.specs.Status.{status_of}
use Rattle.svc_main.proofs.WholeLemmas.{whole_is_served}
use Rattle.svc_main.proofs.AnswerLemmas.{served_from, ran_from}
use Rattle.svc_main.proofs.ScriptAnswerLemmas.{refused_words}
use Rattle.svc_main.proofs.program.serve_kept.Goals as goal

pub returns-in-Ok-write_all-clause-served : goal.returns-in-Ok-write_all-clause-served
returns-in-Ok-write_all-clause-served g c = λ e.
    served_from _ (g.S.Source.left c.args.source.now) (g.S.Source.left c.make_answer.new.source) _ _ c.in-Ok.answer.line _
    c.in-Ok.ensures.answer c.in-Ok.ensures.ended (rw c.as_bytes.ensures.value at c.in-Ok-write_all.ensures.whole) (sym c.status.ensures ∙ e)

pub returns-in-Ok-write_all-clause-parent : goal.returns-in-Ok-write_all-clause-parent
returns-in-Ok-write_all-clause-parent g c = λ e.
    ran_from 1 (λ q. omega (arith, q)) (λ q. omega (arith, q)) (λ q. omega (arith, q)) (λ q. omega (arith, q)) _ (g.S.Source.left c.args.source.now)
    (g.S.Source.left c.make_answer.new.source) _ _ c.in-Ok.answer.line _
    c.in-Ok.ensures.answer c.in-Ok.ensures.ended (rw c.as_bytes.ensures.value at c.in-Ok-write_all.ensures.whole) (sym c.status.ensures ∙ e)

pub returns-in-Ok-write_all-clause-run_error : goal.returns-in-Ok-write_all-clause-run_error
returns-in-Ok-write_all-clause-run_error g c = λ e.
    ran_from 4 (λ q. omega (arith, q)) (λ q. omega (arith, q)) (λ q. omega (arith, q)) (λ q. omega (arith, q)) _ (g.S.Source.left c.args.source.now)
    (g.S.Source.left c.make_answer.new.source) _ _ c.in-Ok.answer.line _
    c.in-Ok.ensures.answer c.in-Ok.ensures.ended (rw c.as_bytes.ensures.value at c.in-Ok-write_all.ensures.whole) (sym c.status.ensures ∙ e)

pub returns-in-Ok-write_all-clause-complete : goal.returns-in-Ok-write_all-clause-complete
returns-in-Ok-write_all-clause-complete g c = λ bytes parts tells whole source sink.
    let answered = c.in-Ok.ensures.answer in
    inl (c.status.ensures ∙ whole_is_served _ bytes parts c.in-Ok.answer.line _ _ _ whole (rw tells at answered) c.in-Ok.ensures.fault source)

pub returns-in-Ok-write_all-clause-made : goal.returns-in-Ok-write_all-clause-made
returns-in-Ok-write_all-clause-made g c = λ n size. inl (c.status.ensures ∙ ap status_of (c.in-Ok.ensures.made n size))

pub returns-in-Ok-write_all-clause-words_refused : goal.returns-in-Ok-write_all-clause-words_refused
returns-in-Ok-write_all-clause-words_refused g c = λ refused.
    inl (c.status.ensures ∙ ap status_of (refused_words _ (g.S.Source.left c.args.source.now) c.in-Ok.answer.line _ refused c.in-Ok.ensures.answer))
