use Rattle.std.proofs.Common.{◌≡◌, ◌∙◌, ap, sym, map, length, drop, ℕ, List, Option}
use Rattle.std.proofs.lemmas.List.{length-map}
use Rattle.svc_job_host.specs.declared.plan.JobPlan.{JobPlan}
use Rattle.svc_job_host.specs.Timetables.{periods_of}
use Rattle.svc_job_host.proofs.RangeLemmas.{refilled}
use Rattle.svc_job_host.proofs.RoomLemmas.{room_used}
use Rattle.svc_job_host.proofs.HeardLemmas.{heard_moment}
use Rattle.svc_job_host.proofs.MakeLemmas.{made_moment}
use Rattle.svc_job_host.proofs.HostLemmas.{keeps_moment}
use Rattle.svc_job_host.proofs.runner.JobRunner.take_moment.Goals as goal

pub invariant_of-self : goal.invariant_of-self
invariant_of-self g c =
    let whole = refilled c.self.inside.jobs.len c.take_moment.new.jobs (drop (length c.take_moment.new.jobs) c.self.inside.jobs.items)
    (c.take_moment.auto.jobs ∙ c.deref_mut.ensures.len) in
    let sized : length c.take_moment.new.jobs ≡ length c.self.inside.jobs.items = c.take_moment.auto.jobs ∙ ap (λ xs. length xs) c.deref_mut.ensures.value in
    rw whole (sized ∙ c.self.invariant.0, c.take_moment.ensures.sized ∙ c.self.invariant.1, c.self.invariant.2)

pub returns-clause-keeps : goal.returns-clause-keeps
returns-clause-keeps g c =
    let next = rw (← c.self.view_is) at c.requires.next in
    let says = rw c.deref_mut.ensures.value at c.take_moment.ensures.told in
    let periods = periods_of c.self.inside.plans.items in
    let whole = refilled c.self.inside.jobs.len c.take_moment.new.jobs (drop (length c.take_moment.new.jobs) c.self.inside.jobs.items)
    (c.take_moment.auto.jobs ∙ c.deref_mut.ensures.len) in
    let sized : length c.take_moment.new.jobs ≡ length c.self.inside.jobs.items = c.take_moment.auto.jobs ∙ ap (λ xs. length xs) c.deref_mut.ensures.value in
    let paired : length c.self.inside.jobs.items ≡ length c.self.inside.plans.items = c.self.invariant.0 in
    rw (whole, ← c.self.view_is)
    (λ q faults idles kept none.
    let table = c.take_moment.ensures.table periods q kept.jobs.table in
    record {
      jobs = keeps_moment periods c.self.inside.timetable c.take_moment.new.self c.self.inside.items.items c.self.inside.given q faults idles c.args.moment
          kept.jobs none next table;
      heard = heard_moment periods q c.args.moment (map g.J.Job.told c.self.inside.jobs.items)
          (map g.J.Job.told c.take_moment.new.jobs) c.self.inside.timetable.runs c.take_moment.new.self.runs
          kept.heard kept.jobs.table.runs_are table.runs_are
          (length-map c.self.inside.jobs.items g.J.Job.told ∙ paired ∙ sym (length-map c.self.inside.plans.items (λ (p : JobPlan). p.every)))
          (length-map c.take_moment.new.jobs g.J.Job.told ∙ sized ∙ sym (length-map c.self.inside.jobs.items g.J.Job.told))
          (λ s o at. says periods q s o kept.jobs.table at);
    })

pub returns-clause-room : goal.returns-clause-room
returns-clause-room g c =
    let whole = refilled c.self.inside.jobs.len c.take_moment.new.jobs (drop (length c.take_moment.new.jobs) c.self.inside.jobs.items)
    (c.take_moment.auto.jobs ∙ c.deref_mut.ensures.len) in
    let sized : length c.take_moment.new.jobs ≡ length c.self.inside.jobs.items = c.take_moment.auto.jobs ∙ ap (λ xs. length xs) c.deref_mut.ensures.value in
    let rows : length c.self.inside.timetable.rows ≡ length c.self.inside.jobs.items = c.self.invariant.1 ∙ sym c.self.invariant.0 in
    rw (whole, sized, ← c.self.view_is)
    (room_used c.self.inside.timetable.spare c.take_moment.new.self.spare (length c.self.inside.jobs.items) (rw rows at c.take_moment.ensures.room))

pub returns-clause-made : goal.returns-clause-made
returns-clause-made g c =
    let says = rw c.deref_mut.ensures.value at c.take_moment.ensures.told in
    let periods = periods_of c.self.inside.plans.items in
    let whole = refilled c.self.inside.jobs.len c.take_moment.new.jobs (drop (length c.take_moment.new.jobs) c.self.inside.jobs.items)
    (c.take_moment.auto.jobs ∙ c.deref_mut.ensures.len) in
    let sized : length c.take_moment.new.jobs ≡ length c.self.inside.jobs.items = c.take_moment.auto.jobs ∙ ap (λ xs. length xs) c.deref_mut.ensures.value in
    let paired : length c.self.inside.jobs.items ≡ length c.self.inside.plans.items = c.self.invariant.0 in
    rw (whole, ← c.self.view_is)
    (λ q faults idles kept.
    let table = c.take_moment.ensures.table periods q kept.jobs.table in
    ap (λ (told : List (Option (List ℕ))). record { numbers = periods; items = c.self.inside.items.items; told = told })
    (made_moment periods q c.args.moment (map g.J.Job.told c.self.inside.jobs.items)
    (map g.J.Job.told c.take_moment.new.jobs) c.self.inside.timetable.runs c.take_moment.new.self.runs
    kept.jobs.table.runs_are table.runs_are
    (length-map c.self.inside.jobs.items g.J.Job.told ∙ paired ∙ sym (length-map c.self.inside.plans.items (λ (p : JobPlan). p.every)))
    (length-map c.take_moment.new.jobs g.J.Job.told ∙ sized ∙ sym (length-map c.self.inside.jobs.items g.J.Job.told))
    (λ s o at. says periods q s o kept.jobs.table at)))
