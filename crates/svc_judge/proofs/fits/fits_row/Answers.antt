use Rattle.std.proofs.Common.{sym, ap, ◌∙◌}
use Rattle.svc_record.specs.Fits.{fits_row}
use Rattle.svc_judge.specs.Pasts.{plan_of, record_of}
use Rattle.svc_judge.specs.Steps.{loop_fits}
use Rattle.svc_judge.proofs.fits.fits_row.Goals as goal

pub returns-in-LoopEnded : goal.returns-in-LoopEnded
returns-in-LoopEnded c =
    let p = plan_of c.args.past.now in
    let q = record_of c.args.past.now in
    c.loop_fits.ensures
    ∙ ap (λ s. loop_fits p q s c.from-in-LoopEnded-2.result c.in-LoopEnded.j) c.from-in-LoopEnded.ensures
    ∙ ap (λ i. loop_fits p q c.in-LoopEnded.s i c.in-LoopEnded.j) c.from-in-LoopEnded-2.ensures
    ∙ sym (ap (fits_row p q) c.in-LoopEnded.is)
