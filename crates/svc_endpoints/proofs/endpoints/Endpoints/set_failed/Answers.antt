use Rattle.std.proofs.Common.{List, ap, sym, subst, arith, ◌∙◌, ◌≡◌, ◌<◌, [], length, false, true}
use Rattle.std.proofs.lemmas.List.{get_or_default}
use Rattle.svc_base.specs.Items.{list_of}
use Rattle.svc_endpoints.specs.declared.states.EndpointState.{EndpointState}
use Rattle.svc_endpoints.specs.EndpointsData.{EndpointsRoom}
use Rattle.svc_endpoints.proofs.CountedLemmas.{failing-fits, failed-keeps}
use Rattle.svc_endpoints.specs.Calm.{IsRowCalm}
use Rattle.svc_endpoints.proofs.CalmLemmas.{known-failed}
use Rattle.svc_endpoints.proofs.endpoints.Endpoints.set_failed.Goals as goal

pub fail_shares-requires : goal.fail_shares-requires
fail_shares-requires c =
    let rows = c.self.inside.rows.items in
    let same : length c.self.inside.failed.items ≡ length c.args.self.now.parts.failed = ap (λ (e : EndpointsRoom). length e.parts.failed) c.self.view_is in
    let given = c.requires in
    let flags = c.self.invariant.0.flags in
    let inside : c.args.s < length rows = omega (arith, same, given, flags) in
    record {
      few = failing-fits _ _ c.self.invariant.1 c.args.s inside c.index-row.result.now c.index-failed.result.now
          (c.index-row.ensures ∙ get_or_default rows c.args.s c.index-row.result.now [] inside)
          (c.index-failed.ensures ∙ get_or_default c.self.inside.failed.items c.args.s c.index-failed.result.now false (omega (arith, inside, flags)))
          c.self.invariant.0.few;
    }

pub invariant_of-self : goal.invariant_of-self
invariant_of-self c =
    let rows = c.self.inside.rows.items in
    let same : length c.self.inside.failed.items ≡ length c.args.self.now.parts.failed = ap (λ (e : EndpointsRoom). length e.parts.failed) c.self.view_is in
    let given = c.requires in
    let flags = c.self.invariant.0.flags in
    let inside : c.args.s < length rows = omega (arith, same, given, flags) in (
      known-failed rows c.self.inside.failed.items c.self.inside.busy c.put_bit.new.bits c.args.s c.self.invariant.0 c.put_bit.ensures.rows
          c.put_bit.ensures.others (omega (arith, same, given))
          (λ off. subst (λ (row : List EndpointState). IsRowCalm true row)
          (c.index-row.ensures ∙ get_or_default rows c.args.s c.index-row.result.now [] inside)
          (c.is_ever_busy-is_busy.ensures (sym c.put_bit.ensures.here ∙ off))),
      failed-keeps _ _ c.self.invariant.1 c.args.s inside c.index-row.result.now c.index-failed.result.now
          (c.index-row.ensures ∙ get_or_default rows c.args.s c.index-row.result.now [] inside)
          (c.index-failed.ensures ∙ get_or_default c.self.inside.failed.items c.args.s c.index-failed.result.now false (omega (arith, inside, flags)))
          (omega (arith, inside, flags)) (list_of c.fail_shares.new.uses) c.fail_shares.ensures,
    )
