use Rattle.std.proofs.Common.{◌≡◌, ◌++◌, take, All}
use Rattle.std.specs.Prelude.{flat_map}
use Rattle.svc_conf.specs.Printing.{item_line, IsText}
use Rattle.svc_conf.proofs.server.configuration.yaml.put_items.Given as goal

abbrev pub invariant-loop-item : goal.invariant-loop-item
invariant-loop-item l = (l.out.items ≡ l.fn.out.items ++ flat_map item_line (take l.item-index l.items)) × All IsText (take l.item-index l.items)
