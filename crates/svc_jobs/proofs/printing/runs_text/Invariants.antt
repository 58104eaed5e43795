use Rattle.std.proofs.Common.{◌≡◌, string_bytes, take}
use Rattle.svc_jobs.specs.JobPrograms.{runs_text}
use Rattle.svc_jobs.proofs.printing.runs_text.Given as goal

abbrev pub invariant-loop-run : goal.invariant-loop-run
invariant-loop-run l = string_bytes l.text ≡ runs_text (take l.run-index l.runs)
