use Rattle.std.proofs.Common.{ℕ, List, ◌≡◌, ◌++◌, subst, arith}
use Rattle.svc_base.specs.Items.{list_of}
use Rattle.svc_base.specs.Blocks.{joined, StandsIn}
use Rattle.svc_base.proofs.BlockLemmas.{some-at, taken-has, stands-behind, table-cut}
use Rattle.svc_base.proofs.blocks.Blocks.remove.Goals as goal

pub overflow_sub-self : goal.overflow_sub-self
overflow_sub-self g c =
    let place = rw c.deref.ensures.value at c.in-Some.ensures.found in
    let some = some-at c.self.inside.blocks.items c.in-Some.place.block c.in-Some.place.entry place.within place.inside in
    let counts = c.self.invariant.counts in
    omega arith

pub invariant_of-self : goal.invariant_of-self
invariant_of-self g c =
    table-cut g.T.Keyed.key_of c.self.inside.blocks.items c.remove_at.new.blocks.items c.self.inside.firsts.items c.remove_at.new.firsts.items
    c.self.inside.count c.self.inside.room c.in-Some.place.block c.in-Some.place.entry c.self.invariant
    c.remove_at.result c.remove_at.ensures.taken c.remove_at.ensures.entries c.remove_at.ensures.filled c.remove_at.ensures.wide c.remove_at.ensures.some
    (c.remove_at.ensures.index c.self.invariant.index)

pub returns-in-Some-clause-removed : goal.returns-in-Some-clause-removed
returns-in-Some-clause-removed g c =
    let key = g.T.Keyed.key_of in
    let bs = c.self.inside.blocks.items in
    let place = rw c.deref.ensures.value at c.in-Some.ensures.found in
    let has = taken-has key c.args.key bs c.in-Some.place.block c.in-Some.place.entry c.remove_at.result c.remove_at.ensures.taken place in
    subst (λ (l : List g.row.T.Denot × ℕ). (s : StandsIn key c.args.key (list_of l) c.remove_at.result)
    × (joined c.remove_at.new.blocks.items ≡ s.front ++ s.back)) c.self.view_is
    (stands-behind key c.args.key bs c.in-Some.place.block c.in-Some.place.entry c.remove_at.result c.remove_at.ensures.taken has, c.remove_at.ensures.entries)
