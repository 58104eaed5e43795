use Rattle.std.proofs.Common.{◌≡◌, ◌+◌, ◌≤◌, length}
use Rattle.std.specs.Str.Lines.{lines}
use Rattle.svc_generations.specs.StepLines.{steps_before, steps_from}
use Rattle.svc_generations.proofs.steps.read_steps.Given as goal

abbrev pub invariant-loop-line : goal.invariant-loop-line
invariant-loop-line l = record {
  said : steps_before l.steps.items (steps_from l.passed (lines l.rest)) ≡ steps_from l.before (lines l.text);
  room : l.passed + length l.rest ≤ l.before + length l.text;
}

abbrev pub decreases-loop-line : goal.decreases-loop-line
decreases-loop-line l = length l.rest
