use Rattle.std.proofs.Common.{refl, arith, rules, ap, sym, ◌∙◌}
use Rattle.svc_boot.specs.BootData.{BootData}
use Rattle.svc_core.proofs.StepLemmas.{strike-received}
use Rattle.svc_core.proofs.StepForms.{opened, gives-up}
use Rattle.svc_core.proofs.WaitsLemmas.{watched-received}
use Rattle.svc_core.proofs.machine.Core.step_received.Goals as goal

pub returns : goal.returns
returns c = opened c.self.view_is c.requires (λ may.
    let brought = may.may.few in
    let few = c.in_ok-good.ensures.few in
    let room = c.in_ok-good.ensures.room in
    gives-up c.settle.ensures refl refl (record { few = omega (arith, brought, few); room = omega (arith, brought, room) })
    (strike-received _ c.args.bytes.now c.args.fds.now c.in_ok-good.good _ _ _ _ may.on may.may c.in_ok-good.ensures.good c.on_received-2.ensures.after
    (λ q. c.on_received-2.ensures.stands c.self.inside.plan q c.args.bytes.now c.args.fds.now c.in_ok-good.ensures.good) c.in_ok-good.ensures.stands))

pub invariant_of-self-2 : goal.invariant_of-self-2
invariant_of-self-2 c = record {
  formed = search rules;
  watched = watched-received c.self.inside.plan c.self.inside.order.items c.self.inside.starts c.self.inside.endpoints.parts c.on_received.new.self.parts
      c.self.inside.waits c.free_all.new.self
      c.on_received.ensures.rows c.on_received.ensures.failed c.free_all.ensures c.self.invariant.watched;
  late = λ on. ap (λ (b : BootData). b.complete) c.on_received-2.ensures.after ∙ c.self.invariant.late (sym c.free_all.ensures.complete ∙ on);
}
