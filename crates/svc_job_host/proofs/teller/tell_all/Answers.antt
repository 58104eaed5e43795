use Rattle.std.proofs.Common.{◌∙◌, refl, arith, get_or, ◌≡◌}
use Rattle.std.specs.Prelude.{slice_get, Some, None, false}
use Rattle.std.proofs.lemmas.Option.{slice_get-get_or}
use Rattle.svc_job_host.specs.declared.row.JobRow.{JobRow}
use Rattle.svc_job_host.proofs.RunLemmas.{rows_none, rows_more}
use Rattle.svc_job_host.proofs.TellLemmas.{tells-none, tells-next}
use Rattle.svc_job_host.proofs.teller.tell_all.Goals as goal

pub loop-s-init : goal.loop-s-init
loop-s-init g c = record {
  rows = rows_none c.args.rows.now c.args.last c.args.moment c.requires.paced;
  told = tells-none (g.T.JobTeller.told c.args.teller.now) (g.T.JobTeller.told c.args.teller.now) refl;
}

pub loop-s-preserved : goal.loop-s-preserved
loop-s-preserved g c =
    let d : JobRow = record { every = 0; started = None; ran = false; owes = false } in
    let row : JobRow = get_or c.args.rows.now c.loop-s.s d in
    let there : slice_get c.args.rows.now c.loop-s.s ≡ Some row = slice_get-get_or c.args.rows.now c.loop-s.s d c.loop-s-test.true in
    let here : slice_get c.loop-s.rows c.loop-s.s ≡ Some row = c.loop-s.invariant.rows.others c.loop-s.s (omega arith) ∙ there in
    record {
      rows = rows_more c.args.rows.now c.loop-s.rows c.tell_one.new.rows c.args.last c.args.moment c.loop-s.s c.loop-s.invariant.rows c.loop-s-test.true
          c.tell_one.ensures.rows;
      told = tells-next c.args.plans.now c.args.rows.now c.args.last c.args.moment c.loop-s.s (g.T.JobTeller.told c.args.teller.now)
          (g.T.JobTeller.told c.loop-s.teller) (g.T.JobTeller.told c.tell_one.new.teller) row there c.loop-s.invariant.told
          (c.tell_one.ensures.told row here);
    }
