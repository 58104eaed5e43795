use Rattle.std.proofs.Common.{◌≡◌, ◌-◌, suc, arith}
use Rattle.svc_base.proofs.BlockLemmas.{over-first, last-for}
use Rattle.svc_base.proofs.block_places.last_place.Goals as goal

pub returns-then-behind-eq0-clause-absent : goal.returns-then-behind-eq0-clause-absent
returns-then-behind-eq0-clause-absent g c =
    over-first g.T.Keyed.key_of c.args.key c.args.blocks.now c.place_for-behind.result.block c.place_for-behind.result.entry c.if-behind-eq0.true
    c.place_for-behind.ensures

pub returns-clause-found : goal.returns-clause-found
returns-clause-found g c =
    let next : c.place_for-behind.result.entry ≡ suc (c.place_for-behind.result.entry - 1) = omega arith in
    last-for g.T.Keyed.key_of c.args.key c.args.blocks.now c.place_for-behind.result.block c.place_for-behind.result.entry
    (c.place_for-behind.result.entry - 1) next c.place_for-behind.ensures
