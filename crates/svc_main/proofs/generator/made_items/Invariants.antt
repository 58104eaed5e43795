use Rattle.std.proofs.Common.{◌≡◌, map}
use Rattle.svc_record.specs.declared.item.Item.TheVariants as items
use Rattle.svc_main.specs.Generator.{made_events_to}
use Rattle.svc_main.proofs.generator.made_items.Given as goal

abbrev pub invariant-loop-k : goal.invariant-loop-k
invariant-loop-k l = l.list ≡ map items.Event (made_events_to l.k)
