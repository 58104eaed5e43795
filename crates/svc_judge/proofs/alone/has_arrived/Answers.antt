use Rattle.std.proofs.Common.{ap, ◌∙◌, length}
use Rattle.svc_record.specs.Record.{has}
use Rattle.svc_record.specs.Connections.{is_arrival}
use Rattle.svc_judge.proofs.ChainLemmas.{arrived_in}
use Rattle.svc_judge.proofs.alone.has_arrived.Goals as goal

pub returns : goal.returns
returns c = λ q h.
    c.has.ensures ∙ ap (has (is_arrival c.args.c)) (c.of.ensures q h) ∙ arrived_in (length c.args.chains.now.parts) c.args.c q
