use Rattle.std.proofs.Common.{Result, sym, subst, arith}
use Rattle.std.proofs.lemmas.Grind.{common_steps}
use Rattle.svc_text.specs.declared.parsing.Script.{Script}
use Rattle.svc_text.specs.declared.parsing.ScriptError.{ScriptError}
use Rattle.svc_text.specs.Script.{script}
use Rattle.svc_text.specs.Outcome.{Gives}
use Rattle.svc_text.proofs.FrontLemmas.{conf_refused, finished_gives}
use Rattle.svc_text.proofs.parsing.parse.Goals as goal

pub returns-in-Err-clause-parts : goal.returns-in-Err-clause-parts
returns-in-Err-clause-parts c = conf_refused c.args.bytes.now c.in-Ok.front c.in-Err.error c.in-Ok.ensures c.in-Err.ensures

pub returns-clause-parts : goal.returns-clause-parts
returns-clause-parts c =
    subst (λ (r : Result Script ScriptError). Gives r (script c.args.bytes.now)) (sym c.finished.ensures)
    (finished_gives c.args.bytes.now c.in-Ok.front c.in-Ok-read_conf.conf c.in-Ok.ensures c.in-Ok-read_conf.ensures)

pub returns-clause-accepted : goal.returns-clause-accepted
returns-clause-accepted c = grind (arith, common_steps)

pub returns-clause-numbers : goal.returns-clause-numbers
returns-clause-numbers c = grind (arith, common_steps)
