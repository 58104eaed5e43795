use Rattle.std.proofs.Common.{ap, sym, subst, arith, ◌∙◌, ◌≡◌, ◌<◌, [], length, false, slice_index_or}
use Rattle.std.proofs.lemmas.List.{get_or_default}
use Rattle.svc_base.specs.Items.{list_of}
use Rattle.svc_endpoints.specs.EndpointsData.{EndpointsRoom}
use Rattle.svc_endpoints.specs.EndpointsState.{idle}
use Rattle.svc_endpoints.specs.Counts.{row_size, is_known}
use Rattle.svc_endpoints.proofs.CountedLemmas.{kept-few, put-keeps}
use Rattle.svc_endpoints.proofs.CalmLemmas.{known-put}
use Rattle.svc_endpoints.proofs.endpoints.Endpoints.put.Goals as goal

pub change-requires : goal.change-requires
change-requires c = record {
  few = kept-few _ _ c.self.invariant.1 c.self.invariant.0.few;
}

pub invariant_of-self : goal.invariant_of-self
invariant_of-self c =
    let rows = c.self.inside.rows.items in
    let same : length rows ≡ length c.args.self.now.parts.rows = ap (λ (e : EndpointsRoom). length e.parts.rows) c.self.view_is in
    let given = c.requires.service in
    let flags = c.self.invariant.0.flags in
    let inside : c.args.s < length rows = omega (arith, same, given) in
    let row : c.index_mut-row.result.now ≡ slice_index_or rows c.args.s [] =
    c.index_mut-row.ensures.value ∙ get_or_default rows c.args.s c.index_mut-row.result.now [] inside in (
      known-put rows c.self.inside.failed.items c.self.inside.busy c.put_bit.new.bits c.args.s c.self.invariant.0 c.put_bit.ensures.rows
          c.put_bit.ensures.others
          c.set.new.self inside (λ off. c.is_ever_busy-is_busy.ensures (sym c.put_bit.ensures.here ∙ off)),
      put-keeps _ _ c.self.invariant.1 c.args.s c.args.i c.args.state inside
          (subst (λ (e : EndpointsRoom). c.args.i < row_size e.parts.rows c.args.s) (sym c.self.view_is) c.requires.endpoint)
          (ap (λ (e : EndpointsRoom). is_known c.args.state.last e.parts.came) c.self.view_is ∙ c.requires.known)
          c.index_mut-row.result.now c.set.new.self c.index-failed.result.now c.is_done-done.result c.get.result c.share_of-was.result c.share_of.result
          (list_of c.change.new.self) row c.set.ensures
          (c.index-failed.ensures ∙ get_or_default c.self.inside.failed.items c.args.s c.index-failed.result.now false (omega (arith, inside, flags)))
          c.is_done-done.ensures (c.get.ensures idle) c.share_of-was.ensures c.share_of.ensures c.change.ensures,
    )
