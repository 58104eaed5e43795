use Rattle.svc_gate.proofs.IpLemmas.{ip4_spelled, ip4_unspelled}
use Rattle.svc_gate.proofs.ips.ip4.Goals as goal

pub returns-in-Ok : goal.returns-in-Ok
returns-in-Ok c = ip4_spelled c.args.word.now c.in-Ok.ip _ c.in-Ok.ensures c.to_bits.ensures

pub returns-in-Err : goal.returns-in-Err
returns-in-Err c = ip4_unspelled c.args.word.now c.in-Err.ensures
