use Rattle.std.proofs.Common.{map, ◌+◌}
use Rattle.svc_record.specs.declared.item.Item.TheVariants as item
use Rattle.svc_main.specs.Generator.{made_connection}
use Rattle.svc_main.proofs.GeneratorLemmas.{push_four}
use Rattle.svc_main.proofs.generator.add_connections.Goals as goal

pub returns : goal.returns
returns c =
    push_four c.args.items.now _ _ _ _ (map item.Event (made_connection c.args.k c.args.c)) (map item.Event (made_connection c.args.k (c.args.c + 1)))
    (map item.Event (made_connection c.args.k (c.args.c + 2)))
    (map item.Event (made_connection c.args.k (c.args.c + 3))) c.add_connection-4.result c.in_ok-add_connection.ensures c.in_ok-add_connection-2.ensures
    c.in_ok-add_connection-3.ensures c.add_connection-4.ensures
