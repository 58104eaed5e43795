use Rattle.std.proofs.Common.{ap, sym, subst, arith, ◌∙◌, ◌≡◌, ◌<◌, [], length, false, slice_index_or, Some}
use Rattle.std.proofs.lemmas.List.{get_or_default}
use Rattle.svc_base.specs.Items.{list_of}
use Rattle.svc_base.specs.NumberSets.{is_in}
use Rattle.svc_endpoints.specs.EndpointsData.{EndpointsRoom}
use Rattle.svc_endpoints.specs.EndpointsState.{idle}
use Rattle.svc_endpoints.specs.Counts.{row_size}
use Rattle.svc_endpoints.proofs.CountedLemmas.{bound-keeps}
use Rattle.svc_endpoints.proofs.CalmLemmas.{known-put}
use Rattle.svc_endpoints.proofs.endpoints.Endpoints.take_bound.Goals as goal

pub invariant_of-self : goal.invariant_of-self
invariant_of-self c =
    let rows = c.self.inside.rows.items in
    let same : length rows ≡ length c.args.self.now.parts.rows = ap (λ (e : EndpointsRoom). length e.parts.rows) c.self.view_is in
    let given = c.requires.service in
    let flags = c.self.invariant.0.flags in
    let inside : c.args.s < length rows = omega (arith, same, given) in
    let row : c.index_mut-row.result.now ≡ slice_index_or rows c.args.s [] =
    c.index_mut-row.ensures.value ∙ get_or_default rows c.args.s c.index_mut-row.result.now [] inside in (
      known-put rows c.self.inside.failed.items c.self.inside.busy c.put_bit.new.bits c.args.s c.self.invariant.0 c.put_bit.ensures.rows
          c.put_bit.ensures.others
          c.set.new.self inside (λ off. c.is_ever_busy-busy.ensures (sym c.put_bit.ensures.here ∙ off)),
      bound-keeps _ _ c.self.invariant.1 c.args.s c.args.i c.args.fd c.get-state.result.times_in_use (Some c.args.address) inside
          (subst (λ (e : EndpointsRoom). c.args.i < row_size e.parts.rows c.args.s) (sym c.self.view_is) c.requires.endpoint)
          (ap (λ (e : EndpointsRoom). is_in c.args.fd e.parts.came) c.self.view_is ∙ c.requires.new)
          c.index_mut-row.result.now c.set.new.self c.index-failed.result.now c.is_done-done.result c.get-state.result c.share_of.result c.holder_share.result
          (list_of c.add.new.self) (list_of c.add-2.new.self) (list_of c.add_shared.new.self) row c.set.ensures
          (c.index-failed.ensures ∙ get_or_default c.self.inside.failed.items c.args.s c.index-failed.result.now false (omega (arith, inside, flags)))
          c.is_done-done.ensures (c.get-state.ensures idle) c.share_of.ensures c.holder_share.ensures c.add.ensures.entries c.add-2.ensures.numbers
          c.add_shared.ensures,
    )
