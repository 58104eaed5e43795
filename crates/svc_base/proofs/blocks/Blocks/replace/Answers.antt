use Rattle.std.proofs.Common.{ℕ, List, ◌≡◌, ◌∷◌, ◌++◌, subst}
use Rattle.svc_base.specs.Items.{list_of}
use Rattle.svc_base.specs.Blocks.{joined, StandsIn}
use Rattle.svc_base.proofs.BlockLemmas.{entry-at, stands-behind, table-other}
use Rattle.svc_base.proofs.blocks.Blocks.replace.Goals as goal

pub invariant_of-self : goal.invariant_of-self
invariant_of-self g c =
    let key = g.T.Keyed.key_of in
    let bs = c.self.inside.blocks.items in
    let place = rw (c.key.ensures, c.deref.ensures.value) at c.in-Some.ensures.found in
    let old = entry-at key (key c.args.entry) bs c.in-Some.place.block c.in-Some.place.entry c.args.entry place in
    table-other key bs c.replace_at.new.blocks.items c.self.inside.firsts.items c.self.inside.firsts.items c.self.inside.count c.self.inside.room
    c.in-Some.place.block c.in-Some.place.entry c.self.invariant
    old.0 c.args.entry old.2 old.1 c.replace_at.ensures.entries c.replace_at.ensures.filled c.replace_at.ensures.wide c.replace_at.ensures.same
    (c.replace_at.ensures.firsts key place c.self.inside.firsts.items c.self.invariant.index)

pub returns-in-Some-clause-replaced : goal.returns-in-Some-clause-replaced
returns-in-Some-clause-replaced g c =
    let key = g.T.Keyed.key_of in
    let bs = c.self.inside.blocks.items in
    let place = rw (c.key.ensures, c.deref.ensures.value) at c.in-Some.ensures.found in
    let old = entry-at key (key c.args.entry) bs c.in-Some.place.block c.in-Some.place.entry c.args.entry place in
    subst (λ (l : List g.row.T.Denot × ℕ). (x : g.row.T.Denot) × (s : StandsIn key (key c.args.entry) (list_of l) x)
    × (joined c.replace_at.new.blocks.items ≡ s.front ++ c.args.entry ∷ s.back)) c.self.view_is
    (old.0, stands-behind key (key c.args.entry) bs c.in-Some.place.block c.in-Some.place.entry old.0 old.1 old.2, c.replace_at.ensures.entries)
