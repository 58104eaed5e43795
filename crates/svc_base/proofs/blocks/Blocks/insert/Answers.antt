use Rattle.std.proofs.Common.{ℕ, List, ◌<◌, subst, sym, ap, ◌∙◌}
use Rattle.svc_base.specs.Items.{list_of, spare}
use Rattle.svc_base.specs.Blocks.{put_by}
use Rattle.svc_base.proofs.BlockLemmas.{wide-less, put-is, table-put}
use Rattle.svc_base.proofs.blocks.Blocks.insert.Goals as goal

pub insert_at-requires-clause-wide : goal.insert_at-requires-clause-wide
insert_at-requires-clause-wide g c =
    let some : 0 < c.self.inside.room = subst (λ (l : List g.row.T.Denot × ℕ). 0 < spare l) (sym c.self.view_is) c.requires in
    wide-less c.self.inside.room 1 c.self.inside.blocks.items some (c.self.invariant.wide some)

pub invariant_of-self : goal.invariant_of-self
invariant_of-self g c =
    let some : 0 < c.self.inside.room = subst (λ (l : List g.row.T.Denot × ℕ). 0 < spare l) (sym c.self.view_is) c.requires in
    let place = rw (c.key.ensures, c.deref.ensures.value) at c.place_for-place.ensures in
    table-put g.T.Keyed.key_of c.self.inside.blocks.items c.insert_at.new.blocks.items c.self.inside.firsts.items c.self.inside.firsts.items
    c.self.inside.count c.self.inside.room c.place_for-place.result.block c.place_for-place.result.entry c.self.invariant
    c.args.entry some place c.insert_at.ensures.entries c.insert_at.ensures.filled c.insert_at.ensures.wide c.insert_at.ensures.same
    (c.insert_at.ensures.firsts g.T.Keyed.key_of place.later c.self.inside.firsts.items c.self.invariant.index)

pub returns-clause-entries : goal.returns-clause-entries
returns-clause-entries g c =
    let place = rw (c.key.ensures, c.deref.ensures.value) at c.place_for-place.ensures in
    put-is g.T.Keyed.key_of c.self.inside.blocks.items c.insert_at.new.blocks.items c.self.inside.firsts.items c.self.inside.firsts.items
    c.self.inside.count c.self.inside.room c.place_for-place.result.block c.place_for-place.result.entry c.self.invariant
    c.args.entry place c.insert_at.ensures.entries
    ∙ ap (λ (l : List g.row.T.Denot × ℕ). put_by g.T.Keyed.key_of c.args.entry (list_of l)) c.self.view_is
