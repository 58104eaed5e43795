use Rattle.std.proofs.Common.{◌&&◌, sym, ap, ◌∙◌}
use Rattle.svc_record.specs.Record.{has}
use Rattle.svc_record.specs.Connections.{is_arrival}
use Rattle.svc_judge.proofs.ConnectionLemmas.{live_by_arrival}
use Rattle.svc_judge.proofs.tails.is_live_in.Goals as goal

pub returns : goal.returns
returns c = λ q h.
    c.both.ensures
    ∙ ap (λ b. b && c.is_uncut_in.result) (c.has_arrived.ensures q h)
    ∙ ap (λ b. has (is_arrival c.args.c) q && b) (c.is_uncut_in.ensures q h)
    ∙ sym (live_by_arrival q c.args.c)
