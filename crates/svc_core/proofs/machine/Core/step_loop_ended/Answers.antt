use Rattle.std.proofs.Common.{refl, ap, length, arith}
use Rattle.svc_endpoints.specs.EndpointsData.{EndpointsData}
use Rattle.svc_core.proofs.StepLemmas.{strike-loop}
use Rattle.svc_core.proofs.StepForms.{opened, gives-up}
use Rattle.svc_core.proofs.KeptLemmas.{kept-closed, kept-parts}
use Rattle.svc_core.proofs.machine.Core.step_loop_ended.Goals as goal

pub returns : goal.returns
returns c = opened c.self.view_is c.requires (λ may.
    let same = ap (λ (d : EndpointsData). length d.table) c.in_ok-reserve_loop.ensures.parts in
    gives-up c.settle.ensures refl refl (record { few = omega (arith, same); room = omega (arith, same) })
    (strike-loop _ c.args.s c.args.i c.args.j _ _ _ c.self.invariant.formed.endpoints may.on may.may
    (rw (c.in_ok-reserve_loop.ensures.parts, c.numbers_on_offer-kept.ensures) at c.on_loop_ended.ensures.stands)))

pub invariant_of-self : goal.invariant_of-self
invariant_of-self c = kept-parts c.reserve_loop.ensures.parts c.self.invariant

pub invariant_of-self-2 : goal.invariant_of-self-2
invariant_of-self-2 c =
    kept-closed (kept-parts c.in_ok-reserve_loop.ensures.parts c.self.invariant) c.on_loop_ended.ensures.sized c.on_loop_ended.ensures.rows
    c.on_loop_ended.ensures.failed c.on_loop_ended.ensures.gains
