use Rattle.svc_text.specs.Outcome.{parts_of}
use Rattle.svc_main.proofs.ScriptAnswerLemmas.{script_answer, if_ok}
use Rattle.svc_main.proofs.program.answer_run.Goals as goal

pub returns-in-Ok-parse-clause-answer : goal.returns-in-Ok-parse-clause-answer
returns-in-Ok-parse-clause-answer g c =
    let taken = rw c.in-Some.is at c.in_ok-opt.ensures in
    if_ok _ _ c.answer_script.result c.answer_script.ensures (λ a h.
    script_answer _ (g.S.Source.left c.args.source.now) c.read_to_end.new.bytes.items c.in-Ok-parse.script.lines.items c.in-Some.opt
    (parts_of c.in-Ok-parse.script) a.line _ taken.0 taken.1
    c.in-Ok.ensures.whole c.in-Ok.ensures.short (rw c.as_slice.ensures.value at c.in-Ok-parse.ensures.parts)
    (rw c.as_slice.ensures.value at c.in-Ok-parse.ensures.numbers) h)
