use Rattle.std.proofs.Common.{◌∙◌, sym, subst}
use Rattle.svc_generations.specs.StepLines.{Reads}
use Rattle.svc_generations.specs.Inputs.{input_of, input_parts_of}
use Rattle.svc_generations.proofs.InputLemmas.{front_ends}
use Rattle.svc_generations.proofs.input.read_input.Goals as goal

pub returns-clause-read : goal.returns-clause-read
unfolding input_of
returns-clause-read c =
    subst (Reads input_parts_of c.first_block.result)
    (sym (front_ends c.loop-after.passed _ c.in_default.ensures.front) ∙ c.loop-after.invariant.said) c.first_block.ensures.read
