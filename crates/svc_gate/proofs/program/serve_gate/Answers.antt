use Rattle.std.proofs.Common.{inl, ◌∙◌}
use Rattle.svc_gate.proofs.ServingLemmas.{rules_are_checked, words_are_refused}
use Rattle.svc_gate.proofs.program.serve_gate.Goals as goal

pub returns-in-Ok-write_all-clause-words_refused : goal.returns-in-Ok-write_all-clause-words_refused
returns-in-Ok-write_all-clause-words_refused g c = λ refused.
    inl (c.status.ensures ∙ words_are_refused _ (g.S.Source.left c.args.source.now) c.in-Ok.answer.line _ refused c.in-Ok.ensures.answer)

pub returns-in-Ok-write_all-clause-complete : goal.returns-in-Ok-write_all-clause-complete
returns-in-Ok-write_all-clause-complete g c = λ bytes tells takes rules source sink.
    let answered = c.in-Ok.ensures.answer in
    inl (c.status.ensures ∙ rules_are_checked _ bytes c.in-Ok.answer.line _ _ _ _ takes rules (rw tells at answered) c.in-Ok.ensures.leaves source)
