use Rattle.std.proofs.lemmas.List.Sorted.{IsNonDecreasingBy-from_sort}
use Rattle.svc_base.specs.Items.{list_of}
use Rattle.svc_endpoints.proofs.OwnLemmas.{has-own}
use Rattle.svc_endpoints.proofs.failing.own_numbers.Goals as goal

pub returns-clause-rise : goal.returns-clause-rise
returns-clause-rise c = IsNonDecreasingBy-from_sort (λ n. n) c.sort_unstable.new.self c.sort_unstable.ensures.sorted

pub returns-clause-own : goal.returns-clause-own
returns-clause-own c =
    has-own c.args.plan.now c.args.row.now (list_of c.args.table.now) c.args.s c.args.offered c.note.new.numbers c.note_all.new.numbers c.sort_unstable.new.self
    c.requires.few c.note_all.ensures.length c.note.ensures.here c.note_all.ensures.first c.note_all.ensures.noted c.sort_unstable.ensures.permutation
