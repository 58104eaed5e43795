use Rattle.std.proofs.Common.{ap, sym, subst, ◌∙◌, length}
use Rattle.std.specs.Str.Lines.{lines}
use Rattle.svc_text.specs.Outcome.{parts_of}
use Rattle.svc_jobs.specs.JobTexts.{ArePeriods}
use Rattle.svc_jobs.proofs.PeriodLemmas.{periods_paced}
use Rattle.svc_jobs.proofs.ReadLemmas.{reads_jobs, reads_script, refused_reads}
use Rattle.svc_jobs.proofs.SaidLemmas.{as_many, job_items}
use Rattle.svc_jobs.proofs.reading.read_jobs.Goals as goal

pub returns-in-Ok-parse-clause-parts : goal.returns-in-Ok-parse-clause-parts
returns-in-Ok-parse-clause-parts c =
    reads_jobs _ c.args.bytes.now _ (parts_of c.in-Ok-parse.script) c.in-Ok.ensures.lines c.in-Ok.ensures.periods
    (rw c.deref.ensures.value at c.in-Ok-parse.ensures.parts)

pub returns-in-Ok-parse-clause-sized : goal.returns-in-Ok-parse-clause-sized
returns-in-Ok-parse-clause-sized c =
    let says = reads_script _ c.args.bytes.now (parts_of c.in-Ok-parse.script) c.in-Ok.ensures.lines
    (rw c.deref.ensures.value at c.in-Ok-parse.ensures.parts) in
    as_many c.args.bytes.now (parts_of c.in-Ok-parse.script) says ∙ ap length (sym c.in-Ok.ensures.periods)

pub returns-in-Ok-parse-clause-paced : goal.returns-in-Ok-parse-clause-paced
returns-in-Ok-parse-clause-paced c = subst ArePeriods (sym c.in-Ok.ensures.periods) (periods_paced 0 (lines c.args.bytes.now))

pub returns-in-Ok-parse-clause-items : goal.returns-in-Ok-parse-clause-items
returns-in-Ok-parse-clause-items c =
    job_items c.args.bytes.now (parts_of c.in-Ok-parse.script)
    (reads_script _ c.args.bytes.now (parts_of c.in-Ok-parse.script) c.in-Ok.ensures.lines (rw c.deref.ensures.value at c.in-Ok-parse.ensures.parts))

pub returns-clause-parts : goal.returns-clause-parts
returns-clause-parts c = refused_reads _ c.args.bytes.now c.in-Err.error c.in-Ok.ensures.lines (rw c.deref.ensures.value at c.in-Err.ensures.parts)
