use Rattle.std.proofs.Common.{Some, ap, ◌∙◌}
use Rattle.svc_text.proofs.PlaceLemmas.{text_here, text_missing}
use Rattle.svc_text.proofs.service.text_in.Goals as goal

pub returns-in-Ok : goal.returns-in-Ok
returns-in-Ok c = ap Some c.in-Ok.ensures.cases.0 ∙ text_here c.args.word.now c.in-Ok.ensures.cases.1

pub returns-in-Err : goal.returns-in-Err
returns-in-Err c = text_missing c.args.word.now c.in-Err.ensures.cases.0
