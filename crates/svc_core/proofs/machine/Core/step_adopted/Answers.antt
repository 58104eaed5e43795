use Rattle.std.proofs.Common.{List, length, ◌∙◌, refl, sym, ap, arith, rules}
use Rattle.svc_record.specs.declared.event.Event.TheVariants.{Adopted}
use Rattle.svc_endpoints.specs.declared.table.Open.{Open}
use Rattle.svc_endpoints.specs.Effects.{has_open}
use Rattle.svc_core.proofs.StepLemmas.{strike-answer, fits-adopt, silently}
use Rattle.svc_core.proofs.StepForms.{opened, gives-up}
use Rattle.svc_core.proofs.WaitsLemmas.{short-order, watched-adopted}
use Rattle.svc_core.proofs.KeptLemmas.{inside-of, counted}
use Rattle.svc_core.proofs.machine.Core.step_adopted.Goals as goal

pub returns : goal.returns
returns c = opened c.self.view_is c.requires (λ may.
    let same = ap (λ (table : List Open). length table) c.on_adopted.ensures.table in
    gives-up c.settle.ensures refl refl (record { few = omega (arith, same); room = omega (arith, same) })
    (strike-answer _ (Adopted c.args.s c.args.i) _ _ _ may.on refl refl refl refl refl (λ q stands. fits-adopt _ q c.args.s c.args.i may.on may.may stands)
    (silently _ _ _ _ _ (Adopted c.args.s c.args.i) _ c.on_adopted.ensures.stands)))

pub invariant_of-self : goal.invariant_of-self
invariant_of-self c = record {
  formed = search rules;
  watched = watched-adopted c.self.inside.plan c.self.inside.order.items c.self.inside.starts c.self.inside.endpoints.parts c.on_adopted.new.self.parts c.args.s
      c.self.inside.waits c.reopen.new.self c.free.new.self
      c.on_adopted.ensures.held c.on_adopted.ensures.others c.on_adopted.ensures.failed
      (λ a none. ap (λ (table : List Open). has_open table a) c.on_adopted.ensures.table ∙ none)
      (rw c.deref.ensures.value at c.reopen.ensures) c.free.ensures c.self.invariant.watched;
  late = λ on. c.self.invariant.late (sym c.reopen.ensures.complete ∙ sym c.free.ensures.complete ∙ on);
}

pub reopen-requires : goal.reopen-requires
reopen-requires c = rw c.deref.ensures.value (short-order c.self.invariant.formed)

pub free-requires : goal.free-requires
free-requires c = counted c.args.s c.self.invariant.watched c.reopen.ensures.counts (inside-of c.args.s c.self.view_is c.requires.may.inside)
