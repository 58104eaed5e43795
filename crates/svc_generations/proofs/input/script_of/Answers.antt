use Rattle.std.proofs.Common.{ap, sym, ◌∙◌, Err}
use Rattle.svc_generations.specs.Inputs.{refused_at}
use Rattle.svc_generations.proofs.InputLemmas.{refused_more}
use Rattle.svc_generations.proofs.input.script_of.Goals as goal

pub returns-in-Err-Line-clause-read : goal.returns-in-Err-Line-clause-read
returns-in-Err-Line-clause-read c =
    ap (refused_at c.args.block.now.daemon) (rw (c.deref.ensures.value, c.in-Err-Line.field-0-is) at c.in-Err-Line.ensures.parts)
    ∙ refused_more c.args.block.now.daemon c.in-Err-Line.n ∙ ap (λ n. Err n) (sym c.first_refused.ensures)
