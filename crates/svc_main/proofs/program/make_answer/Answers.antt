use Rattle.std.proofs.Common.{sym}
use Rattle.svc_main.proofs.ScriptAnswerLemmas.{if_ok, on_ok, unread, made_answer, made_ends, made_faults, none_made}
use Rattle.svc_main.proofs.program.make_answer.Goals as goal

pub returns-in-Some-clause-answer : goal.returns-in-Some-clause-answer
returns-in-Some-clause-answer g c =
    if_ok _ _ c.answer_made.result c.answer_made.ensures
    (λ a h. made_answer _ (g.S.Source.left c.args.source.now) c.in-Some.n a.line _ (sym c.in-Some.ensures.size) h)

pub returns-in-Some-clause-ended : goal.returns-in-Some-clause-ended
returns-in-Some-clause-ended g c =
    if_ok _ _ c.answer_made.result c.answer_made.ensures
    (λ a h. made_ends _ (g.S.Source.left c.args.source.now) c.in-Some.n a.line (sym c.in-Some.ensures.size) h.0)

pub returns-in-Some-clause-fault : goal.returns-in-Some-clause-fault
returns-in-Some-clause-fault g c = if_ok _ _ c.answer_made.result c.answer_made.ensures (λ a h. made_faults a.line _ _ h.0)

pub returns-in-Some-clause-made : goal.returns-in-Some-clause-made
returns-in-Some-clause-made g c = λ n size. if_ok _ _ c.answer_made.result c.answer_made.ensures (λ a h. h.0)

pub returns-in-None-clause-made : goal.returns-in-None-clause-made
returns-in-None-clause-made g c = λ n size. none_made _ n _ (sym c.in-None.ensures.size) size

pub returns-in-None-clause-unread : goal.returns-in-None-clause-unread
returns-in-None-clause-unread g c = λ n size. none_made _ n _ (sym c.in-None.ensures.size) size

pub returns-in-Some-clause-kept : goal.returns-in-Some-clause-kept
returns-in-Some-clause-kept g c = on_ok _ c.answer_made.result (unread (g.S.Source.left c.args.source.now) c.args.bytes.now.items c.requires)
