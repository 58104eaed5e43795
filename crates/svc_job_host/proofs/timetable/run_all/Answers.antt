use Rattle.std.proofs.Common.{map, arith}
use Rattle.std.proofs.lemmas.List.{length-map}
use Rattle.svc_job_host.proofs.RunLemmas.{ran_none, ran_more}
use Rattle.svc_job_host.proofs.timetable.run_all.Goals as goal

pub loop-s-init : goal.loop-s-init
loop-s-init g c = ran_none c.args.rows.now (map g.J.Job.told c.args.jobs.now) c.args.runs.now c.args.last c.args.moment c.requires.paced

pub loop-s-preserved : goal.loop-s-preserved
loop-s-preserved g c =
    ran_more c.args.rows.now c.loop-s.rows c.run_one.new.rows (map g.J.Job.told c.args.jobs.now) (map g.J.Job.told c.loop-s.jobs)
    (map g.J.Job.told c.run_one.new.jobs)
    c.args.runs.now c.loop-s.runs c.run_one.new.runs c.args.last c.args.moment c.loop-s.s c.loop-s.invariant c.loop-s-test.true
    (omega (arith, length-map c.args.jobs.now g.J.Job.told, c.requires.jobs))
    c.run_one.ensures.rows c.run_one.ensures.runs c.run_one.ensures.told c.run_one.ensures.room
