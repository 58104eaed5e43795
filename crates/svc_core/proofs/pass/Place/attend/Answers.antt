use Rattle.std.proofs.Common.{ap, length, ◌∙◌, slice_index, subst}
use Rattle.svc_base.specs.Items.{list_of}
use Rattle.svc_graph.specs.WaitingData.{WaitingData}
use Rattle.svc_core.specs.WaitsData.{WaitsData}
use Rattle.svc_core.specs.WaitsState.{LeavesPlace}
use Rattle.svc_core.proofs.CopyLemmas.{bare-none}
use Rattle.svc_core.proofs.CountLemmas.{due-at}
use Rattle.svc_core.proofs.WaitsLemmas.{grown-open, order-apart, short-order}
use Rattle.svc_core.proofs.PlaceLemmas.{attended, attended-others, still-lacks, still-parked, still-same, known-left, known-parked, left-open}
use Rattle.svc_core.proofs.SkipLemmas.{passes-waiting}
use Rattle.svc_core.proofs.pass.Place.attend.Goals as goal

pub returns-then-waits_still-clause-known : goal.returns-then-waits_still-clause-known
returns-then-waits_still-clause-known c =
    let still = still-parked c.args.starts.now (slice_index c.args.self.now.order.now c.args.self.now.place) c.args.self.now.place c.args.waits.now
    c.waits_still.new.waits c.waits_still.result
    c.if-waits_still.true c.waits_still.ensures in
    known-parked c.args.self.now.plan.now c.args.self.now.order.now c.args.starts.now c.args.endpoints.now.parts c.args.boot.now.complete
    c.args.self.now.drain.now.moment c.args.self.now.place
    c.args.waits.now c.waits_still.new.waits still.0 still.1.0 still.1.1 c.requires.known

pub returns-then-waits_still-clause-passed : goal.returns-then-waits_still-clause-passed
returns-then-waits_still-clause-passed c =
    let still = still-parked c.args.starts.now (slice_index c.args.self.now.order.now c.args.self.now.place) c.args.self.now.place c.args.waits.now
    c.waits_still.new.waits c.waits_still.result
    c.if-waits_still.true c.waits_still.ensures in
    let known = known-parked c.args.self.now.plan.now c.args.self.now.order.now c.args.starts.now c.args.endpoints.now.parts c.args.boot.now.complete
    c.args.self.now.drain.now.moment
    c.args.self.now.place c.args.waits.now c.waits_still.new.waits still.0 still.1.0 still.1.1 c.requires.known in
    passes-waiting c.args.self.now.plan.now c.requires.formed.valid c.args.self.now.order.now c.args.self.now.drain.now c.args.self.now.place
    c.requires.place c.requires.formed.in_order
    c.args.starts.now c.args.endpoints.now.parts c.args.boot.now c.waits_still.new.waits
    (list_of c.args.actions.now) c.requires.formed.starts c.requires.formed.endpoints known.count known.edges known.ready still.0
    (still-lacks c.args.self.now.plan.now c.args.self.now.order.now c.args.starts.now c.args.endpoints.now.parts c.args.boot.now.complete
    c.args.self.now.drain.now.moment c.args.self.now.place
    c.args.waits.now (slice_index c.args.self.now.order.now c.args.self.now.place) c.waits_still.new.waits still.1.1 still.1.0)

pub returns-then-waits_still-clause-bare : goal.returns-then-waits_still-clause-bare
returns-then-waits_still-clause-bare c = bare-none (list_of c.args.actions.now)

pub note-requires-clause-others : goal.note-requires-clause-others
note-requires-clause-others c =
    let same = (still-same c.args.starts.now (slice_index c.args.self.now.order.now c.args.self.now.place) c.args.self.now.place c.args.waits.now
    c.waits_still.new.waits c.waits_still.result
    c.if-waits_still.false c.waits_still.ensures).1 in
    let left = subst (λ (w : WaitsData). LeavesPlace c.args.self.now.place w c.leave.new.self) same c.leave.ensures in
    let known = known-left c.args.self.now.plan.now c.args.self.now.order.now c.args.starts.now c.args.endpoints.now.parts c.args.boot.now.complete
    c.args.self.now.drain.now.moment
    c.args.self.now.place c.args.waits.now c.leave.new.self left c.requires.open c.requires.known in
    attended-others c.args.self.now.plan.now c.args.self.now.order.now c.args.starts.now c.visit.new.starts c.args.endpoints.now.parts c.failed.result.now
    c.args.boot.now.complete c.args.self.now.drain.now.moment c.args.self.now.place c.leave.new.self (slice_index c.args.self.now.order.now
    c.args.self.now.place)
    c.requires.formed.starts (c.requires.formed.in_order.inside c.args.self.now.place c.requires.place)
    (c.failed.ensures ∙ c.visit.ensures.failed) known c.visit.ensures.only

pub note-requires-clause-count : goal.note-requires-clause-count
note-requires-clause-count c =
    let same = (still-same c.args.starts.now (slice_index c.args.self.now.order.now c.args.self.now.place) c.args.self.now.place c.args.waits.now
    c.waits_still.new.waits c.waits_still.result
    c.if-waits_still.false c.waits_still.ensures).1 in
    ap (λ (counts : WaitingData). length counts.marks) c.leave.ensures.counts ∙ ap (λ (w : WaitsData). length w.counts.marks) same ∙ c.requires.known.count

pub settle-requires-clause-known : goal.settle-requires-clause-known
settle-requires-clause-known c =
    let same = (still-same c.args.starts.now (slice_index c.args.self.now.order.now c.args.self.now.place) c.args.self.now.place c.args.waits.now
    c.waits_still.new.waits c.waits_still.result
    c.if-waits_still.false c.waits_still.ensures).1 in
    let left = subst (λ (w : WaitsData). LeavesPlace c.args.self.now.place w c.leave.new.self) same c.leave.ensures in
    let known = known-left c.args.self.now.plan.now c.args.self.now.order.now c.args.starts.now c.args.endpoints.now.parts c.args.boot.now.complete
    c.args.self.now.drain.now.moment
    c.args.self.now.place c.args.waits.now c.leave.new.self left c.requires.open c.requires.known in
    rw c.moment.ensures (attended c.args.self.now.plan.now c.args.self.now.order.now c.args.starts.now c.visit.new.starts c.args.endpoints.now.parts
    c.visit.new.endpoints.parts
    c.args.boot.now.complete c.is_complete-complete.result c.args.self.now.drain.now.moment
    c.leave.new.self c.note.new.self c.args.self.now.place c.requires.formed.starts c.requires.formed.in_order
    (order-apart c.args.self.now.plan.now c.args.self.now.order.now c.requires.formed.least) c.requires.place
    known c.visit.ensures.only c.visit.ensures.held c.visit.ensures.unheld c.visit.ensures.others c.visit.ensures.failed c.visit.ensures.table
    (λ on. c.is_complete-complete.ensures ∙ c.visit.ensures.late on)
    (left-open c.args.self.now.plan.now c.args.self.now.order.now c.args.starts.now c.args.endpoints.now.parts c.args.boot.now.complete
    c.args.self.now.drain.now.moment c.args.self.now.place
    c.args.waits.now c.leave.new.self left c.requires.open)
    c.note.ensures.opens c.note.ensures.complete (rw c.failed.ensures at c.note.ensures.ready) (rw c.failed.ensures at c.note.ensures.only))

pub settle-requires-clause-open : goal.settle-requires-clause-open
settle-requires-clause-open c =
    let same = (still-same c.args.starts.now (slice_index c.args.self.now.order.now c.args.self.now.place) c.args.self.now.place c.args.waits.now
    c.waits_still.new.waits c.waits_still.result
    c.if-waits_still.false c.waits_still.ensures).1 in
    let left = subst (λ (w : WaitsData). LeavesPlace c.args.self.now.place w c.leave.new.self) same c.leave.ensures in
    grown-open c.args.self.now.order.now c.leave.new.self c.note.new.self c.args.self.now.place c.note.ensures.opens
    (left-open c.args.self.now.plan.now c.args.self.now.order.now c.args.starts.now c.args.endpoints.now.parts c.args.boot.now.complete
    c.args.self.now.drain.now.moment c.args.self.now.place
    c.args.waits.now c.leave.new.self left c.requires.open)

pub returns-clause-known : goal.returns-clause-known
returns-clause-known c = rw (c.is_complete-complete.ensures, c.moment.ensures) at c.settle.ensures

pub visit-requires-clause-due : goal.visit-requires-clause-due
visit-requires-clause-due c =
    due-at c.args.self.now.plan.now c.args.starts.now c.args.endpoints.now.parts.failed c.args.boot.now.complete c.args.waits.now
    (slice_index c.args.self.now.order.now c.args.self.now.place) c.requires.formed.valid (c.requires.formed.in_order.inside c.args.self.now.place
    c.requires.place) c.requires.known.count
    c.requires.known.edges c.requires.known.sound
    (still-same c.args.starts.now (slice_index c.args.self.now.order.now c.args.self.now.place) c.args.self.now.place c.args.waits.now
    c.waits_still.new.waits c.waits_still.result
    c.if-waits_still.false c.waits_still.ensures).0

pub note-requires-clause-order : goal.note-requires-clause-order
note-requires-clause-order c = short-order c.requires.formed
