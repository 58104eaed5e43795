use Rattle.std.proofs.Common.{◌≡◌, sym, subst, refl, rules}
use Rattle.svc_record.specs.declared.entry.Entry.{Entry}
use Rattle.svc_record.specs.declared.entry.Entry.TheVariants.{Got, Told}
use Rattle.svc_record.specs.declared.event.Event.TheVariants.{Moment}
use Rattle.svc_record.specs.declared.action.Action.TheVariants.{Start}
use Rattle.svc_job_host.specs.ServedJobs.{TellsDue}
use Rattle.svc_job_host.proofs.ServedLemmas.{tells-moment, tells-action}
use Rattle.svc_job_host.proofs.served.ServedJobs.note.Goals as goal

pub returns-in-Got-Moment-clause-told : goal.returns-in-Got-Moment-clause-told
returns-in-Got-Moment-clause-told g c =
    let e : c.args.entry.now ≡ Got (Moment c.in-Got-Moment.moment) = first_of (search rules, cc) in
    subst (λ (e : Entry). TellsDue c.args.self.now e (g.T.JobTeller.told c.args.teller.now) (g.T.JobTeller.told c.take_moment.new.teller)) (sym e)
    (tells-moment c.args.self.now c.in-Got-Moment.moment (g.T.JobTeller.told c.args.teller.now) (g.T.JobTeller.told c.take_moment.new.teller)
    c.take_moment.ensures.told)

pub returns-then-s-self-clause-told : goal.returns-then-s-self-clause-told
returns-then-s-self-clause-told g c =
    let e : c.args.entry.now ≡ Told (Start c.in-Told-Start.s) = first_of (search rules, cc) in
    subst (λ (e : Entry). TellsDue c.args.self.now e (g.T.JobTeller.told c.args.teller.now) (g.T.JobTeller.told c.args.teller.now)) (sym e)
    (tells-action c.args.self.now (Start c.in-Told-Start.s) (g.T.JobTeller.told c.args.teller.now) (g.T.JobTeller.told c.args.teller.now) refl)
