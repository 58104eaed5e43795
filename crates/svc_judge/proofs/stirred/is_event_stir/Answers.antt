use Rattle.std.proofs.Common.{◌∷◌, ap, sym, ◌∙◌}
use Rattle.svc_record.specs.declared.entry.Entry.TheVariants.{Got}
use Rattle.svc_judge.specs.Pasts.{plan_of, record_of}
use Rattle.svc_judge.specs.Stirred.{stays_busy, is_stir}
use Rattle.svc_judge.proofs.stirred.is_event_stir.Goals as goal

pub returns-in-InUse : goal.returns-in-InUse
returns-in-InUse c =
    let p = plan_of c.args.past.now in
    let before = c.args.before.now in
    let own = c.in-InUse in
    c.stays_busy.ensures
    ∙ ap (λ s. stays_busy p (record_of c.args.past.now) s c.from-in-InUse.result) c.from.ensures
    ∙ ap (λ i. stays_busy p (record_of c.args.past.now) own.s i) c.from-in-InUse.ensures
    ∙ ap (λ q. stays_busy p q own.s own.i) c.requires.entry
    ∙ ap (λ e. stays_busy p (e ∷ before) own.s own.i) c.requires.event
    ∙ ap (λ x. stays_busy p (Got x ∷ before) own.s own.i) own.is
    ∙ sym (ap (λ x. is_stir p (Got x) before) own.is)
    ∙ sym (ap (λ e. is_stir p e before) c.requires.event)
