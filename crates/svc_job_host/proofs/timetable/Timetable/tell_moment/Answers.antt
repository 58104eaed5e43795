use Rattle.std.proofs.Common.{◌≡◌, ◌∷◌, ◌∙◌, List, [], refl, ap, sym, subst, length, drop, vec_len}
use Rattle.svc_base.specs.Items.{spare}
use Rattle.svc_record.specs.declared.entry.Entry.TheVariants.{Got}
use Rattle.svc_record.specs.declared.event.Event.TheVariants.{Moment}
use Rattle.svc_job_host.specs.declared.row.JobRow.{JobRow}
use Rattle.svc_job_host.specs.ServedJobs.{IsKnownOf}
use Rattle.svc_job_host.specs.TimetableData.{TimetableData}
use Rattle.svc_job_host.proofs.RangeLemmas.{refilled}
use Rattle.svc_job_host.proofs.TableLemmas.{parts_off}
use Rattle.svc_job_host.proofs.MomentLemmas.{known-ran, told-late, told-ran}
use Rattle.svc_job_host.proofs.timetable.Timetable.tell_moment.Goals as goal

pub returns-then-is_late-clause-told : goal.returns-then-is_late-clause-told
returns-then-is_late-clause-told g c = λ periods q known.
    told-late periods c.args.self.now q c.args.moment c.args.plans.now (g.T.JobTeller.told c.args.teller.now) (g.T.JobTeller.told c.args.teller.now) known
    (sym c.is_late.ensures ∙ c.if-is_late.true) refl

pub returns-clause-known : goal.returns-clause-known
returns-clause-known g c = λ periods q known.
    let off = parts_off _ _ (sym c.if-is_late.false ∙ c.is_late.ensures) in
    let rows_is : c.deref_mut.result.now ≡ c.args.self.now.rows = c.deref_mut.ensures.value ∙ ap (λ (t : TimetableData). t.rows) c.self.view_is in
    let last_is : c.self.inside.last ≡ c.args.self.now.last = ap (λ (t : TimetableData). t.last) c.self.view_is in
    let shut_is : c.self.inside.shut ≡ c.args.self.now.shut = ap (λ (t : TimetableData). t.shut) c.self.view_is in
    let sized : length c.tell_all.new.rows ≡ length c.args.self.now.rows = c.tell_all.auto.rows ∙ ap (λ (xs : List JobRow). length xs) rows_is in
    let whole = refilled (vec_len c.self.inside.rows) c.tell_all.new.rows (drop (length c.tell_all.new.rows) c.self.inside.rows.items)
    (c.tell_all.auto.rows ∙ c.deref_mut.ensures.len) in
    subst (λ (xs : List JobRow). IsKnownOf periods
    (record { rows = xs; last = c.args.moment; shut = c.self.inside.shut; runs = []; spare = spare c.self.inside.runs }) (Got (Moment c.args.moment) ∷ q))
    (sym whole)
    (known-ran periods c.args.self.now q c.args.moment
    (record { rows = c.tell_all.new.rows; last = c.args.moment; shut = c.self.inside.shut; runs = []; spare = spare c.self.inside.runs }) known off.0 off.1
    (rw (← rows_is, ← last_is) c.tell_all.ensures.rows) sized refl shut_is)

pub returns-clause-told : goal.returns-clause-told
returns-clause-told g c = λ periods q known.
    let off = parts_off _ _ (sym c.if-is_late.false ∙ c.is_late.ensures) in
    let rows_is : c.deref_mut.result.now ≡ c.args.self.now.rows = c.deref_mut.ensures.value ∙ ap (λ (t : TimetableData). t.rows) c.self.view_is in
    let last_is : c.self.inside.last ≡ c.args.self.now.last = ap (λ (t : TimetableData). t.last) c.self.view_is in
    told-ran periods c.args.self.now q c.args.moment c.args.plans.now (g.T.JobTeller.told c.args.teller.now) (g.T.JobTeller.told c.tell_all.new.teller) known
    off.0 off.1 (rw (← rows_is, ← last_is) c.tell_all.ensures.told)
