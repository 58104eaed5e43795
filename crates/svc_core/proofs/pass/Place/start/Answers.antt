use Rattle.std.proofs.Common.{arith, ◌≡◌, ◌∙◌, ◌&&◌, ap, sym, not, true, false, Bool, slice_index}
use Rattle.svc_base.specs.Items.{list_of}
use Rattle.svc_graph.specs.declared.plan.Kind.TheVariants.{Bootstrap}
use Rattle.svc_record.specs.Plans.{has_kind}
use Rattle.svc_core.proofs.PassLemmas.{starting-boot, none-begins}
use Rattle.svc_boot.specs.BootData.{BootData}
use Rattle.svc_core.proofs.PlaceLemmas.{starts-due, starts-only}
use Rattle.svc_core.proofs.WaitsLemmas.{begun-complete}
use Rattle.svc_core.proofs.pass.Place.start.Goals.{else-starts_now-via-then-starts_now+then-is_bootstrap+else-not-is_begun, else-starts_now-via-then-starts_now+else-is_bootstrap, else-starts_now-via-else-starts_now}
use Rattle.svc_core.proofs.pass.Place.start.Goals as goal

pub returns-then-not-is_begun-clause-started : goal.returns-then-not-is_begun-clause-started
returns-then-not-is_begun-clause-started c =
    rw (c.visit-starts_now.ensures.after, c.if-starts_now.true, c.begin.ensures.after)
    (starting-boot c.args.self.now.plan.now c.requires.formed.valid c.args.self.now.order.now c.args.self.now.drain.now c.args.self.now.place
    c.requires.place c.requires.formed.in_order
    c.args.starts.now c.args.endpoints.now.parts c.args.boot.now
    (list_of c.args.actions.now) (list_of c.visit-starts_now.new.actions) (list_of c.begin.new.actions) c.requires.formed.starts c.requires.untested
    (sym c.if-starts_now.true
    ∙ starts-due c.args.self.now.plan.now c.args.starts.now c.args.endpoints.now.parts.failed c.args.boot.now.complete (slice_index
    c.args.self.now.order.now c.args.self.now.place)
    c.visit-starts_now.result c.requires.due c.visit-starts_now.ensures.fresh)
    (sym c.is_bootstrap.ensures ∙ c.if-is_bootstrap.true) (sym c.is_begun.ensures ∙ c.if-not-is_begun.true)
    (rw c.if-starts_now.true at c.visit-starts_now.ensures.told)
    (rw c.moment.ensures at c.begin.ensures.told)
    (rw (c.moment.ensures, c.begin.ensures.after) at c.begin.ensures.stands))

pub returns-else-starts_now-clause-started : goal.returns-else-starts_now-clause-started
returns-else-starts_now-clause-started c =
    let due = starts-due c.args.self.now.plan.now c.args.starts.now c.args.endpoints.now.parts.failed c.args.boot.now.complete (slice_index
    c.args.self.now.order.now c.args.self.now.place)
    c.visit-starts_now.result c.requires.due c.visit-starts_now.ensures.fresh in
    none-begins c.args.self.now.plan.now c.requires.formed.valid c.args.self.now.order.now c.args.self.now.drain.now c.args.self.now.place c.requires.place
    c.requires.formed.in_order c.args.starts.now
    c.visit-starts_now.new.self c.args.endpoints.now.parts c.args.boot.now
    c.visit-starts_now.result (list_of c.args.actions.now)
    (list_of c.visit-starts_now.new.actions) c.requires.formed.starts c.requires.untested due c.visit-starts_now.ensures.after
    (λ started. elim c.else-starts_now.branch [
      | else-starts_now-via-then-starts_now+then-is_bootstrap+else-not-is_begun w ↦
          begun_already
          (has_kind c.args.self.now.plan.now Bootstrap (slice_index c.args.self.now.order.now c.args.self.now.place)) c.args.boot.now.begun
          w.if-not-is_begun.false w.is_begun.ensures
      | else-starts_now-via-then-starts_now+else-is_bootstrap w ↦
          other_kind (has_kind c.args.self.now.plan.now Bootstrap (slice_index c.args.self.now.order.now c.args.self.now.place)) c.args.boot.now.begun
          w.if-is_bootstrap.false
          w.is_bootstrap.ensures
      | else-starts_now-via-else-starts_now w ↦ absurd (let off = w.if-starts_now.false in cc)
    ])
    c.visit-starts_now.ensures.told
  where
    begun_already : (k b : Bool) {x : Bool} → x ≡ true → x ≡ b → (k && not b) ≡ false
    begun_already k b h e = grind (arith, h, e)

    other_kind : (k b : Bool) {x : Bool} → x ≡ false → x ≡ k → (k && not b) ≡ false
    other_kind k b h e = grind (arith, h, e)

pub returns-then-not-is_begun-clause-only : goal.returns-then-not-is_begun-clause-only
returns-then-not-is_begun-clause-only c =
    starts-only c.args.self.now.plan.now c.args.starts.now c.visit-starts_now.new.self c.args.endpoints.now.parts.failed c.args.boot.now.complete
    (slice_index c.args.self.now.order.now c.args.self.now.place) c.visit-starts_now.result
    (starts-due c.args.self.now.plan.now c.args.starts.now c.args.endpoints.now.parts.failed c.args.boot.now.complete (slice_index
    c.args.self.now.order.now c.args.self.now.place)
    c.visit-starts_now.result c.requires.due c.visit-starts_now.ensures.fresh)
    c.visit-starts_now.ensures.after

pub returns-else-starts_now-clause-only : goal.returns-else-starts_now-clause-only
returns-else-starts_now-clause-only c =
    starts-only c.args.self.now.plan.now c.args.starts.now c.visit-starts_now.new.self c.args.endpoints.now.parts.failed c.args.boot.now.complete
    (slice_index c.args.self.now.order.now c.args.self.now.place) c.visit-starts_now.result
    (starts-due c.args.self.now.plan.now c.args.starts.now c.args.endpoints.now.parts.failed c.args.boot.now.complete (slice_index
    c.args.self.now.order.now c.args.self.now.place)
    c.visit-starts_now.result c.requires.due c.visit-starts_now.ensures.fresh)
    c.visit-starts_now.ensures.after

pub returns-then-not-is_begun-clause-late : goal.returns-then-not-is_begun-clause-late
returns-then-not-is_begun-clause-late c = λ on.
    ap (λ (b : BootData). b.complete) c.begin.ensures.after ∙ begun-complete c.args.self.now.plan.now c.args.boot.now on
