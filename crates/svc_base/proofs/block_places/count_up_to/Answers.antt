use Rattle.std.proofs.Common.{nat_le, nat_lt, leb, leb-false, arith, rules}
use Rattle.std.proofs.lemmas.Bool.{lt-ltb}
use Rattle.std.proofs.lemmas.List.Sorted.{IsPartitionPoint-from_clause, IsPartitionedBy-leb}
use Rattle.svc_base.proofs.KeyLemmas.{all-take, all-drop, rises-places}
use Rattle.svc_base.proofs.block_places.count_up_to.Goals as goal

pub returns-clause-below : goal.returns-clause-below
returns-clause-below g c =
    let parted = IsPartitionedBy-leb g.T.Keyed.key_of c.args.block.now c.args.key (rises-places g.T.Keyed.key_of c.args.block.now c.requires) in
    let point = IsPartitionPoint-from_clause (λ (x : g.row.T.Denot). leb (g.T.Keyed.key_of x) c.args.key) _ _ c.partition_point.ensures.partitioned parted
    (λ a r q k. search rules) in
    all-take (λ (x : g.row.T.Denot). nat_le (g.T.Keyed.key_of x) c.args.key) c.args.block.now c.partition_point.result c.partition_point.ensures.bound
    (λ k d lt. point.0 k d (omega arith) lt)

pub returns-clause-above : goal.returns-clause-above
returns-clause-above g c =
    let parted = IsPartitionedBy-leb g.T.Keyed.key_of c.args.block.now c.args.key (rises-places g.T.Keyed.key_of c.args.block.now c.requires) in
    let point = IsPartitionPoint-from_clause (λ (x : g.row.T.Denot). leb (g.T.Keyed.key_of x) c.args.key) _ _ c.partition_point.ensures.partitioned parted
    (λ a r q k. search rules) in
    all-drop (λ (x : g.row.T.Denot). nat_lt c.args.key (g.T.Keyed.key_of x)) c.args.block.now c.partition_point.result
    (λ k d le lt. lt-ltb c.args.key _ (leb-false _ c.args.key (point.1 k d le lt)))
