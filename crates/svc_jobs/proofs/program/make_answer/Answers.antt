use Rattle.svc_jobs.specs.JobReadings.{job_parts_of}
use Rattle.svc_main.proofs.ScriptAnswerLemmas.{if_ok, no_words}
use Rattle.svc_jobs.proofs.AnswerLemmas.{jobs_answer}
use Rattle.svc_jobs.proofs.program.make_answer.Goals as goal

pub returns-in-Ok-read_jobs-clause-answer : goal.returns-in-Ok-read_jobs-clause-answer
returns-in-Ok-read_jobs-clause-answer g c =
    let none = no_words _ c.args.words.now c.is_empty.result c.is_empty.ensures c.if-not-is_empty.false in
    if_ok _ _ c.answer_jobs.result c.answer_jobs.ensures (λ a h.
    jobs_answer _ (g.S.Source.left c.args.source.now) c.in-Ok.bytes.items c.in-Ok-read_jobs.jobs.script.lines.items
    (job_parts_of c.in-Ok-read_jobs.jobs) a.line _ none
    c.in-Ok.ensures.whole c.in-Ok.ensures.short
    (rw c.deref.ensures.value at c.in-Ok-read_jobs.ensures.parts) (rw c.deref.ensures.value at c.in-Ok-read_jobs.ensures.numbers) h)
