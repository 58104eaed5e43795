use Rattle.std.proofs.Common.{◌&&◌, ap, ◌∙◌, length}
use Rattle.svc_record.specs.Record.{Record, has}
use Rattle.svc_record.specs.Connections.{is_arrival, goes_on}
use Rattle.svc_judge.proofs.ChainLemmas.{arrived_in, goes_on_in}
use Rattle.svc_judge.proofs.alone.is_there_in.Goals as goal

pub returns : goal.returns
returns c = λ q h.
    let n = length c.args.at.now.parts in
    c.is_there.ensures
    ∙ ap (λ (r : Record). has (is_arrival c.args.c) r && goes_on r c.args.c) (c.of.ensures q h)
    ∙ rw (arrived_in n c.args.c q, goes_on_in n c.args.c q)
