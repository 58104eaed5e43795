use Rattle.svc_supervisor.proofs.PlaceLemmas.{here-is, may-come-at}
use Rattle.svc_supervisor.proofs.places.may_come_at.Goals as goal

pub returns-clause-means : goal.returns-clause-means
returns-clause-means c = may-come-at c.args.generations.now c.args.index c.index-generations-index.result c.args.event.now _ _ c.may_come.result
    (here-is c.args.generations.now c.args.index c.index-generations-index.result c.requires.begun c.index-generations-index.is)
    c.generation_before-before.ensures c.generation_after-next.ensures c.may_come.ensures.means
