use Rattle.svc_conf.specs.declared.server.configuration.key.Key.TheVariants.{Version}
use Rattle.svc_conf.specs.Printing.{key_lines, KeyFits}
use Rattle.svc_conf.proofs.ShownLemmas.{shows_next}
use Rattle.svc_conf.proofs.server.configuration.ServerConf.put_keys.Goals as goal

pub loop-key-preserved : goal.loop-key-preserved
loop-key-preserved c =
    shows_next (key_lines c.args.self.now)
    (KeyFits c.args.self.now) c.args.keys.now c.loop-key.key-index Version c.args.out.now.items c.loop-key.out.items c.put_key.new.out.items
    c.loop-key-test.true c.loop-key.invariant.0 c.loop-key.invariant.1 c.in_ok-put_key.ensures.shown c.in_ok-put_key.ensures.fits
