use Rattle.std.proofs.Common.{arith, ap, ◌∙◌}
use Rattle.svc_text.specs.declared.service.EndpointLine.{EndpointLine}
use Rattle.svc_text.proofs.OptionLemmas.{last_taken, last_passed}
use Rattle.svc_text.proofs.endpoint_lines.last_tcp.Goals as goal
use Rattle.svc_text.proofs.endpoint_lines.last_tcp.Goals.{then-not-lines-k, else-not-lines-k}

pub loop-k-preserved : goal.loop-k-preserved
loop-k-preserved c =
    let line = c.index-lines-k in
    let same = ap (λ (e : EndpointLine). e.unix) line.is in
    elim c.if-not-lines-k.branch [
      | then-not-lines-k w ↦ last_taken c.args.lines.now c.loop-k.k line.result _ (omega arith) line.is (same ∙ w.if-not-lines-k.true) w.last-is
      | else-not-lines-k w ↦
          last_passed c.args.lines.now c.loop-k.k line.result _ _ (omega arith) line.is (same ∙ w.if-not-lines-k.false) w.last-is c.loop-k.invariant
    ]
