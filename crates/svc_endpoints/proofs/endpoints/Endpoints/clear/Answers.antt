use Rattle.std.proofs.Common.{map, not, ap, sym, subst, arith, ◌∙◌, ◌++◌, length}
use Rattle.svc_base.specs.Items.{list_of}
use Rattle.svc_endpoints.specs.declared.table.Open.{Open}
use Rattle.svc_endpoints.specs.EndpointsData.{EndpointsRoom}
use Rattle.svc_endpoints.specs.Counts.{goes_by}
use Rattle.svc_endpoints.proofs.CountedLemmas.{left-keeps}
use Rattle.svc_record.specs.declared.action.Action.TheVariants.{Close}
use Rattle.svc_endpoints.specs.EndpointsState.{IsEndpointsSized}
use Rattle.svc_endpoints.specs.Effects.{gone_numbers, cleared}
use Rattle.svc_endpoints.proofs.RestLemmas.{picked-length}
use Rattle.svc_endpoints.proofs.CountedLemmas.{cleared-by, told-by, flags-sized}
use Rattle.svc_endpoints.proofs.endpoints.Endpoints.clear.Goals as goal

pub close_gone-requires-clause-flags : goal.close_gone-requires-clause-flags
close_gone-requires-clause-flags c =
    flags-sized c.args.plan.now _ (subst (λ (e : EndpointsRoom). IsEndpointsSized c.args.plan.now e.parts) (sym c.self.view_is) c.requires.sized)
    c.deref.result.now c.deref.ensures.value

pub returns-clause-room : goal.returns-clause-room
returns-clause-room c =
    let parts = picked-length (goes_by c.args.plan.now c.deref.result.now c.args.kept.now (list_of c.self.inside.uses)) (list_of c.self.inside.table) in
    let rest = ap length c.close_gone.ensures.after in
    let old = ap (λ (e : EndpointsRoom). length e.parts.table) c.self.view_is in
    let told = c.close_gone.ensures.room in
    omega (arith, parts, rest, old, told)

pub returns-clause-after : goal.returns-clause-after
returns-clause-after c =
    cleared-by _ _ c.self.invariant.1 c.args.plan.now
    (subst (λ (e : EndpointsRoom). IsEndpointsSized c.args.plan.now e.parts) (sym c.self.view_is) c.requires.sized) c.args.kept.now c.deref.result.now
    c.deref.ensures.value (list_of c.close_gone.new.self) c.close_gone.ensures.after
    ∙ ap (λ (e : EndpointsRoom). cleared c.args.plan.now c.args.kept.now e.parts) c.self.view_is

pub returns-clause-told : goal.returns-clause-told
returns-clause-told c =
    told-by _ _ c.self.invariant.1 c.args.plan.now
    (subst (λ (e : EndpointsRoom). IsEndpointsSized c.args.plan.now e.parts) (sym c.self.view_is) c.requires.sized) c.args.kept.now c.deref.result.now
    c.deref.ensures.value (list_of c.args.actions.now) (list_of c.close_gone.new.actions) c.close_gone.ensures.told
    ∙ ap (λ (e : EndpointsRoom). list_of c.args.actions.now ++ map Close (gone_numbers c.args.plan.now c.args.kept.now e.parts e.parts.table)) c.self.view_is

pub invariant_of-self : goal.invariant_of-self
invariant_of-self c = (
  c.self.invariant.0,
  left-keeps _ _ c.self.invariant.1
      (λ (o : Open). not (goes_by c.args.plan.now c.deref.result.now c.args.kept.now (list_of c.self.inside.uses) o)) (list_of c.close_gone.new.self)
      (list_of c.keep.new.self) c.close_gone.ensures.after c.keep.ensures,
)
