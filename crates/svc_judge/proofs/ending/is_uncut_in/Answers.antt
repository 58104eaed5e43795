use Rattle.std.proofs.Common.{ap, ◌∙◌, length}
use Rattle.svc_record.specs.Record.{Record}
use Rattle.svc_judge.specs.Endings.{is_uncut}
use Rattle.svc_judge.proofs.ChainLemmas.{uncut_in}
use Rattle.svc_judge.proofs.ending.is_uncut_in.Goals as goal

pub returns : goal.returns
returns c = λ q h.
    c.is_uncut.ensures
    ∙ ap (λ (r : Record). is_uncut r c.args.c) (c.of.ensures q h)
    ∙ uncut_in (length c.args.chains.now.parts) c.args.c q
