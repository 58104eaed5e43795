use Rattle.svc_work.proofs.ConveyLemmas.{front_taken}
use Rattle.svc_work.proofs.conveying.Conveyance.put.Goals as goal

pub returns-in-Wrote-2-clause-flushes : goal.returns-in-Wrote-2-clause-flushes
returns-in-Wrote-2-clause-flushes g c = front_taken _ _ c.args.piece.now _ c.in-Wrote.count _ c.in-Wrote.ensures.bytes c.keep.ensures.keeps
