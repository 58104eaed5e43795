use Rattle.svc_conf.specs.Printing.{item_line, IsText}
use Rattle.svc_conf.proofs.ShownLemmas.{shows_more}
use Rattle.svc_conf.proofs.server.configuration.yaml.put_items.Goals as goal

pub loop-item-preserved : goal.loop-item-preserved
loop-item-preserved c =
    shows_more item_line IsText c.args.items.now c.loop-item.item-index c.item-item.result c.args.out.now.items c.loop-item.out.items c.put_item.new.out.items
    c.loop-item-test.true c.item-item.is c.loop-item.invariant.0 c.loop-item.invariant.1 c.in_ok-put_item.ensures.shown c.in_ok-put_item.ensures.fits
