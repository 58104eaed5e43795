use Rattle.std.proofs.Common.{refl, ap, length, arith, rules, sym, ◌∙◌, Bool, not, true, false, ◌≡◌}
use Rattle.svc_record.specs.declared.event.Event.TheVariants.{Bound}
use Rattle.svc_endpoints.specs.EndpointsData.{EndpointsData}
use Rattle.svc_core.proofs.StepLemmas.{strike-answer, fits-bound, unheld}
use Rattle.svc_core.proofs.StepForms.{opened, gives-up}
use Rattle.svc_core.proofs.WaitsLemmas.{short-order, free-late, watched-bound}
use Rattle.svc_core.proofs.KeptLemmas.{kept-parts, inside-of, counted}
use Rattle.svc_core.proofs.machine.Core.step_bound.Goals as goal

not_false : (b : Bool) → not b ≡ false → b ≡ true
not_false true h = refl
not_false false h = absurd (cc)

pub returns : goal.returns
returns c = opened c.self.view_is c.requires (λ may.
    let same = ap (λ (d : EndpointsData). length d.table) c.in_ok-reserve.ensures.parts in
    gives-up c.settle.ensures refl refl (record { few = omega (arith, same); room = omega (arith, same) })
    (strike-answer _ (Bound c.args.s c.args.i c.args.fd) _ _ _ may.on refl refl refl refl refl
    (λ q stands. fits-bound _ q c.args.s c.args.i c.args.fd may.on may.may stands)
    (unheld _ _ _ _ _ (Bound c.args.s c.args.i c.args.fd) _ _ (rw c.in_ok-reserve.ensures.parts at c.on_bound.ensures.stands))))

pub invariant_of-self : goal.invariant_of-self
invariant_of-self c = kept-parts c.reserve.ensures.parts c.self.invariant

pub invariant_of-self-2 : goal.invariant_of-self-2
invariant_of-self-2 c =
    let kept = kept-parts c.in_ok-reserve.ensures.parts c.self.invariant in
    record {
      formed = search rules;
      watched = watched-bound _ _ _ _ _ c.args.s c.args.i (not c.is_alone-alone.result) _ _ _ kept.formed.in_order.inside
          c.on_bound.ensures.held c.on_bound.ensures.others c.on_bound.ensures.failed
          c.on_bound.ensures.gains (λ off. c.is_alone-alone.ensures (not_false c.is_alone-alone.result off))
          (rw c.deref.ensures.value at c.reopen.ensures) c.free_more.ensures kept.watched;
      late = λ on. kept.late (sym c.reopen.ensures.complete ∙ sym (free-late (not c.is_alone-alone.result) c.args.s _ _ c.free_more.ensures) ∙ on);
    }

pub reopen-requires : goal.reopen-requires
reopen-requires c = rw c.deref.ensures.value (short-order c.self.invariant.formed)

pub free_more-requires : goal.free_more-requires
free_more-requires c = counted c.args.s c.self.invariant.watched c.reopen.ensures.counts (inside-of c.args.s c.self.view_is c.requires.may.asked.inside)
