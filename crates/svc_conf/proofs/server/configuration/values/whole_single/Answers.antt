use Rattle.std.proofs.lemmas.Bool.{ne_eqb}
use Rattle.svc_conf.specs.Values.{single}
use Rattle.svc_conf.proofs.ValueLemmas.{single-other, whole_on}
use Rattle.svc_conf.proofs.server.configuration.values.whole_single.Goals as goal

pub loop-i-preserved : goal.loop-i-preserved
loop-i-preserved c =
    whole_on single c.args.text.now c.loop-i.i (single c.args.text.now) c.loop-i-test.true (single-other _ _ (ne_eqb _ 39 c.if-b-eq39.false)) c.loop-i.invariant
