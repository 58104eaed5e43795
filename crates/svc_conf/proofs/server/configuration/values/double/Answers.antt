use Rattle.std.proofs.lemmas.Bool.{ne_eqb}
use Rattle.svc_conf.specs.Values.{double}
use Rattle.svc_conf.proofs.ValueLemmas.{double_on}
use Rattle.svc_conf.proofs.server.configuration.values.double.Goals as goal

pub loop-rest-preserved : goal.loop-rest-preserved
loop-rest-preserved c =
    double_on c.loop-rest.rest.now c.loop-rest.bytes.items c.push.new.self.items c.in-Some.more.now c.in-Some.byte
    (double c.args.text.now) c.in-len1-up.len_at_least
    (ne_eqb _ 34 c.if-first-eq34.false) c.in-Some.ensures.next c.in_ok-push.ensures.items c.loop-rest.invariant
