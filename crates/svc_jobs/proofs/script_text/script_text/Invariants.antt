use Rattle.std.proofs.Common.{length}
use Rattle.svc_jobs.proofs.ScriptLemmas.{HasScript}
use Rattle.svc_jobs.proofs.script_text.script_text.Given as goal

abbrev pub invariant-loop-line : goal.invariant-loop-line
invariant-loop-line l = HasScript l.bytes l.rest l.script.text.items l.script.part l.script.periods.items

abbrev pub decreases-loop-line : goal.decreases-loop-line
decreases-loop-line l = length l.rest
