use Rattle.std.proofs.lemmas.Bool.{ne_eqb}
use Rattle.svc_conf.specs.Values.{double}
use Rattle.svc_conf.proofs.ValueLemmas.{behind-nil, double-other, whole_on, whole_end}
use Rattle.svc_conf.proofs.server.configuration.values.whole_double.Goals as goal

pub loop-i-init : goal.loop-i-init
loop-i-init c = behind-nil (double c.args.text.now)

pub returns-then-b-eq34 : goal.returns-then-b-eq34
returns-then-b-eq34 c = whole_end c.args.text.now c.loop-i.i c.loop-i-test.true c.if-b-eq34.true c.loop-i.invariant

pub loop-i-preserved : goal.loop-i-preserved
loop-i-preserved c =
    let stands = double-other _ _ (ne_eqb _ 34 c.if-b-eq34.false) (ne_eqb _ 92 c.if-b-eq92.false) in
    whole_on double c.args.text.now c.loop-i.i (double c.args.text.now) c.loop-i-test.true stands c.loop-i.invariant
