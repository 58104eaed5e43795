use Rattle.std.proofs.Common.{arith}
use Rattle.svc_main.proofs.GeneratorLemmas.{events_push, events_end}
use Rattle.svc_main.proofs.generator.made_items.Goals as goal

pub loop-k-preserved : goal.loop-k-preserved
loop-k-preserved c = events_push c.loop-k.k _ _ c.loop-k.invariant c.in_ok-add_events_of.ensures

pub returns : goal.returns
returns c = events_end c.args.n c.loop-k.k _ _ (omega arith) c.loop-k.invariant c.in_ok-add_event.ensures
