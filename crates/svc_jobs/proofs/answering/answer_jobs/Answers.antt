use Rattle.std.proofs.Common.{refl, sym, ◌∙◌}
use Rattle.svc_jobs.specs.JobReadings.{job_parts_of}
use Rattle.svc_jobs.proofs.AnswerLemmas.{ran_jobs}
use Rattle.svc_jobs.proofs.answering.answer_jobs.Goals as goal

pub returns-in-Ok-run_text : goal.returns-in-Ok-run_text
returns-in-Ok-run_text c =
    let left = c.in-Ok-run_text in
    let due = rw c.deref-in-Ok.ensures.value at left.ensures.due in
    ran_jobs (job_parts_of c.args.jobs) c.args.jobs.script.lines.items left.left.end _ _ c.ran-answer.result c.ran-answer.ensures
    (c.as_slice.ensures ∙ c.runs.ensures.runs ∙ due)
    (left.ensures.run (job_parts_of c.args.jobs)
    (record { configuration = refl; flags = c.in-Ok.ensures.options; begins_at_once = c.in-Ok.ensures.eager; jobs = c.in-Ok.ensures.jobs })
    (sym c.deref-in-Ok.ensures.value) refl) c.in-Ok.ensures.edges
