use Rattle.svc_jobs.proofs.ScriptLemmas.{reads_more}
use Rattle.svc_jobs.proofs.script_text.script_text.Goals as goal

pub loop-line-preserved : goal.loop-line-preserved
loop-line-preserved c =
    reads_more c.args.bytes.now c.loop-line.rest.now c.in-Some.line.now c.in-Some.after.now _ _ _ _ _ _ c.loop-line.invariant c.in-Some.ensures.first
    c.in-Some.ensures.shorter
    c.in_ok-take_line.ensures.text c.in_ok-take_line.ensures.part c.in_ok-take_line.ensures.periods
