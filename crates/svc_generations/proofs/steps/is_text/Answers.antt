use Rattle.svc_text.proofs.PlaceLemmas as lines
use Rattle.svc_generations.proofs.steps.is_text.Goals as goal

pub returns-in-Ok : goal.returns-in-Ok
returns-in-Ok c = lines.is_text c.args.line.now c.in-Ok.ensures.cases.1

pub returns-in-Err : goal.returns-in-Err
returns-in-Err c = lines.is_no_text c.args.line.now c.in-Err.ensures.cases.0
