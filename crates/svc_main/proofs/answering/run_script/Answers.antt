use Rattle.std.proofs.Common.{refl}
use Rattle.svc_main.proofs.RunLemmas.{ran_run}
use Rattle.svc_main.proofs.answering.run_script.Goals as goal

pub returns : goal.returns
returns c = λ opt parts server items.
    ran_run opt parts c.in_ok-left.left.end _ _ c.ran.result c.ran.ensures.text c.ran.ensures.numbers refl (c.in_ok-left.ensures opt parts server items)
