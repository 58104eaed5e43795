use Rattle.std.proofs.Common.{◌≡◌, ◌∷◌, ◌∙◌, Bool, List, ap, sym, subst, length, map, drop, vec_len, arith, ◌<◌}
use Rattle.svc_base.specs.Items.{list_of, spare}
use Rattle.svc_record.specs.declared.entry.Entry.TheVariants.{Got}
use Rattle.svc_record.specs.declared.event.Event.TheVariants.{Moment}
use Rattle.svc_job_host.specs.declared.row.JobRow.{JobRow}
use Rattle.svc_job_host.specs.Rows.{told_after}
use Rattle.svc_job_host.specs.TimetableData.{TimetableData}
use Rattle.svc_job_host.specs.Timetables.{IsTimetableOf}
use Rattle.svc_job_host.proofs.TableLemmas.{table_ran, table_late, told_moment, parts_off}
use Rattle.svc_job_host.proofs.RangeLemmas.{refilled}
use Rattle.std.specs.Prelude.{Some}
use Rattle.std.proofs.lemmas.Option.{slice_get_within}
use Rattle.std.proofs.lemmas.List.{length-map}
use Rattle.svc_job_host.proofs.timetable.Timetable.take_moment.Goals as goal

pub returns-then-is_late-clause-table : goal.returns-then-is_late-clause-table
returns-then-is_late-clause-table g c = λ periods q table.
    subst (λ (t : TimetableData). IsTimetableOf periods (record { rows = t.rows; last = c.args.moment; shut = t.shut; runs = t.runs; spare = t.spare })
    (Got (Moment c.args.moment) ∷ q)) (sym c.self.view_is)
    (table_late periods c.args.self.now q c.args.moment table (sym c.is_late.ensures ∙ c.if-is_late.true))

pub returns-clause-table : goal.returns-clause-table
returns-clause-table g c = λ periods q table.
    let off = parts_off _ _ (sym c.if-is_late.false ∙ c.is_late.ensures) in
    let rows_is : c.deref_mut.result.now ≡ c.args.self.now.rows = c.deref_mut.ensures.value ∙ ap (λ (t : TimetableData). t.rows) c.self.view_is in
    let last_is : c.self.inside.last ≡ c.args.self.now.last = ap (λ (t : TimetableData). t.last) c.self.view_is in
    let runs_is : list_of c.self.inside.runs ≡ c.args.self.now.runs = ap (λ (t : TimetableData). t.runs) c.self.view_is in
    let shut_is : c.args.self.now.shut ≡ c.self.inside.shut = ap (λ (t : TimetableData). t.shut) (sym c.self.view_is) in
    let sized : length c.run_all.new.rows ≡ length c.args.self.now.rows = c.run_all.auto.rows ∙ ap (λ (xs : List JobRow). length xs) rows_is in
    let whole = refilled (vec_len c.self.inside.rows) c.run_all.new.rows (drop (length c.run_all.new.rows) c.self.inside.rows.items)
    (c.run_all.auto.rows ∙ c.deref_mut.ensures.len) in
    subst (λ (xs : List JobRow). IsTimetableOf periods
    (record { rows = xs; last = c.args.moment; shut = c.self.inside.shut; runs = list_of c.run_all.new.runs; spare = spare c.run_all.new.runs })
    (Got (Moment c.args.moment) ∷ q)) (sym whole)
    (subst (λ (b : Bool). IsTimetableOf periods
    (record { rows = c.run_all.new.rows; last = c.args.moment; shut = b; runs = list_of c.run_all.new.runs; spare = spare c.run_all.new.runs })
    (Got (Moment c.args.moment) ∷ q)) shut_is
    (table_ran periods c.args.self.now q c.args.moment c.run_all.new.rows (list_of c.run_all.new.runs) (spare c.run_all.new.runs) table off.0 off.1
    (rw (← rows_is, ← last_is) c.run_all.ensures.rows) sized (rw (← rows_is, ← last_is, ← runs_is) c.run_all.ensures.runs)))

pub returns-clause-told : goal.returns-clause-told
returns-clause-told g c = λ periods q s told table at.
    let off = parts_off _ _ (sym c.if-is_late.false ∙ c.is_late.ensures) in
    let rows_is : c.deref_mut.result.now ≡ c.args.self.now.rows = c.deref_mut.ensures.value ∙ ap (λ (t : TimetableData). t.rows) c.self.view_is in
    let last_is : c.self.inside.last ≡ c.args.self.now.last = ap (λ (t : TimetableData). t.last) c.self.view_is in
    let within : s < length c.args.jobs.now =
    (let short = slice_get_within (map g.J.Job.told c.args.jobs.now) s told at in subst (λ n. s < n) (length-map c.args.jobs.now g.J.Job.told) short) in
    let due = told_moment periods c.args.self.now q c.args.moment s table off.0 off.1 (omega (arith, c.requires.jobs, within)) in
    c.run_all.ensures.told s told at ∙ ap (λ n. Some (told_after told n)) (rw (rows_is, last_is) due)
