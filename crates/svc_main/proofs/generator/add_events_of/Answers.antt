use Rattle.std.proofs.Common.{map, ◌+◌, ◌*◌}
use Rattle.svc_record.specs.declared.item.Item.TheVariants as item
use Rattle.svc_main.specs.Generator.{made_start, made_connections}
use Rattle.svc_main.proofs.GeneratorLemmas.{push_two}
use Rattle.svc_main.proofs.generator.add_events_of.Goals as goal

pub returns : goal.returns
returns c =
    push_two c.args.items.now _ _ (map item.Event (made_start c.args.k))
    (map item.Event (made_connections c.args.k (4 * c.args.k + 1))) c.add_connections.result c.in_ok-add_start.ensures c.add_connections.ensures
