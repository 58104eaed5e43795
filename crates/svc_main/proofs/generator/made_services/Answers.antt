use Rattle.svc_main.proofs.GeneratorLemmas.{services_push}
use Rattle.svc_main.proofs.generator.made_services.Goals as goal

pub loop-k-preserved : goal.loop-k-preserved
loop-k-preserved c = services_push c.loop-k.k _ _ _ c.loop-k.invariant c.in_ok-made_service.ensures c.in_ok-push.ensures.items
