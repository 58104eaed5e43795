use Rattle.std.proofs.Common.{◌≡◌, ◌+◌, ◌≤◌, length}
use Rattle.std.specs.Str.Lines.{lines}
use Rattle.svc_generations.specs.Inputs.{input_from}
use Rattle.svc_generations.proofs.input.read_input.Given as goal

abbrev pub invariant-loop-after : goal.invariant-loop-after
invariant-loop-after l = record {
  said : input_from l.passed (lines l.rest) ≡ input_from 0 (lines l.bytes);
  room : l.passed + length l.rest ≤ length l.bytes;
}

abbrev pub decreases-loop-after : goal.decreases-loop-after
decreases-loop-after l = length l.rest
