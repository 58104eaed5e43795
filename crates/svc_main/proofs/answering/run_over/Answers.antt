use Rattle.std.proofs.Common.{ap, sym, ◌∙◌, arith, length, List, Option, unwrap_or}
use Rattle.svc_record.specs.declared.item.Item.{Item}
use Rattle.svc_main.proofs.RunLemmas.{run_is}
use Rattle.svc_main.proofs.answering.run_over.Goals as goal

pub returns-in-Ok : goal.returns-in-Ok
returns-in-Ok g c =
    rw c.into_recorder-recorder.ensures (
    λ opt parts server items.
    run_is opt parts c.in-Ok.end _ c.args.server.configuration c.in-Some.turns c.new-host.result.left _ server.configuration c.in-Ok.ensures.judged
    (omega (arith, c.in-Some.ensures, c.len.ensures, ap length items))
    (c.in-Ok.ensures.tells opt parts server)
    (ap (λ (o : Option (List Item)). unwrap_or o c.args.items) c.new-host.ensures.ahead ∙ sym items) c.in-Ok.ensures.takes)
