use Rattle.std.proofs.Common.{true, refl, length, ◌≡◌, ◌<◌, ◌∙◌, sym, subst}
use Rattle.svc_core.specs.StartsState.{is_flagged}
use Rattle.svc_core.specs.WaitsData.{WaitsData}
use Rattle.svc_core.specs.WaitsState.{IsMarked}
use Rattle.svc_core.proofs.CountLemmas.{marked-already, marked-by}
use Rattle.svc_core.proofs.waits.Waits.mark.Goals as goal

pub returns-then-marked : goal.returns-then-marked
returns-then-marked c =
    marked-already c.args.order.now c.args.s c.args.self.now
    (subst (λ (w : WaitsData). is_flagged w.counts.marks c.args.s ≡ true) c.self.view_is (sym c.marked.ensures ∙ c.if-marked.true))

pub returns : goal.returns
returns c =
    let was : WaitsData = record {
      bits = c.self.inside.bits;
      counts = c.self.inside.counts;
      fresh = c.self.inside.fresh;
      complete = c.self.inside.complete;
      until = c.self.inside.until;
    } in
    let now : WaitsData = record {
      bits = c.open_freed.new.bits;
      counts = c.count.new.counts;
      fresh = c.self.inside.fresh;
      complete = c.self.inside.complete;
      until = c.self.inside.until;
    } in
    subst (λ (w : WaitsData). IsMarked c.args.order.now c.args.s w now) c.self.view_is
    (marked-by c.args.order.now c.args.s was now
    (subst (λ (w : WaitsData). c.args.s < length w.counts.marks) (sym c.self.view_is) c.requires.service) c.count.ensures.depends c.count.ensures.marks
    c.open_freed.ensures.kept c.open_freed.ensures.opened refl refl refl)
