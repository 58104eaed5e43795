use Rattle.std.proofs.Common.{refl, arith}
use Rattle.svc_record.specs.declared.event.Event.TheVariants.{BindFailed}
use Rattle.svc_core.proofs.StepLemmas.{strike-answer, fits-bind, timeless}
use Rattle.svc_core.proofs.StepForms.{opened, gives-up}
use Rattle.svc_core.proofs.WaitsLemmas.{short-order}
use Rattle.svc_core.proofs.KeptLemmas.{inside-of, counted, counted-flags, kept-answer}
use Rattle.svc_core.proofs.machine.Core.step_bind_failed.Goals as goal

pub returns : goal.returns
returns c = opened c.self.view_is c.requires (λ may. gives-up c.settle.ensures refl refl (record { few = omega arith; room = omega arith })
    (strike-answer _ (BindFailed c.args.s c.args.i) _ _ _ may.on refl refl refl refl refl (λ q stands. fits-bind _ q c.args.s c.args.i may.on may.may stands)
    (timeless _ _ _ _ _ (BindFailed c.args.s c.args.i) _ _ (rw c.numbers_on_offer-kept.ensures at c.on_bind_failed.ensures.stands))))

pub mark_failed-requires-clause-service : goal.mark_failed-requires-clause-service
mark_failed-requires-clause-service c =
    counted c.args.s c.self.invariant.watched c.reopen.ensures.counts (inside-of c.args.s c.self.view_is c.requires.may.inside)

pub mark_failed-requires-clause-flags : goal.mark_failed-requires-clause-flags
mark_failed-requires-clause-flags c = counted-flags c.self.invariant.watched c.reopen.ensures.counts c.on_bind_failed.ensures.sized c.failed.ensures

pub mark_failed-requires-clause-order : goal.mark_failed-requires-clause-order
mark_failed-requires-clause-order c = rw c.deref-2.ensures.value (short-order c.self.invariant.formed)

pub invariant_of-self : goal.invariant_of-self
invariant_of-self c =
    kept-answer c.self.invariant (inside-of c.args.s c.self.view_is c.requires.may.inside) c.on_bind_failed.ensures.sized c.on_bind_failed.ensures.failed
    c.on_bind_failed.ensures.held c.on_bind_failed.ensures.unheld c.on_bind_failed.ensures.gains c.on_bind_failed.ensures.others
    c.deref.ensures.value c.reopen.ensures c.failed.ensures c.deref-2.ensures.value c.mark_failed.ensures

pub reopen-requires : goal.reopen-requires
reopen-requires c = rw c.deref.ensures.value (short-order c.self.invariant.formed)
