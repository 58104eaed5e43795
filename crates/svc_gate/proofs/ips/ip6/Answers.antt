use Rattle.std.proofs.Common.{sym, ◌∙◌}
use Rattle.svc_gate.proofs.IpLemmas.{ip6_dotted, ip6_spelled, ip6_unspelled}
use Rattle.svc_gate.proofs.ips.ip6.Goals as goal

pub returns-then-contains : goal.returns-then-contains
returns-then-contains c = ip6_dotted c.args.word.now (sym c.contains.ensures.value ∙ c.if-contains.true)

pub returns-in-Ok : goal.returns-in-Ok
returns-in-Ok c = ip6_spelled c.args.word.now c.in-Ok.ip _ (sym c.contains.ensures.value ∙ c.if-contains.false) c.in-Ok.ensures c.to_bits.ensures

pub returns-in-Err : goal.returns-in-Err
returns-in-Err c = ip6_unspelled c.args.word.now (sym c.contains.ensures.value ∙ c.if-contains.false) c.in-Err.ensures
