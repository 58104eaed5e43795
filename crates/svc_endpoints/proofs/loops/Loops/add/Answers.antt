use Rattle.std.proofs.Common.{arith, sym, ◌+◌, ◌++◌, ◌∷◌, [], subst, List, ℕ}
use Rattle.svc_endpoints.specs.declared.loops.LoopEnd.{LoopEnd}
use Rattle.svc_endpoints.specs.declared.tallies.Tally.{Tally}
use Rattle.svc_endpoints.specs.Loops.{AreTallied}
use Rattle.svc_endpoints.proofs.TallyLemmas.{few-counted, are-tallied-more}
use Rattle.svc_endpoints.proofs.loops.Loops.add.Goals as goal

pub count_end-last-requires : goal.count_end-last-requires
count_end-last-requires c =
    let few = few-counted c.self.inside.ends.items c.self.inside.before.items c.self.inside.rows.items c.args.end.service c.args.end.endpoint
    c.self.invariant in
    omega (arith, few, c.len-ended.ensures)

pub invariant_of-self : goal.invariant_of-self
invariant_of-self c =
    subst (λ (e : List LoopEnd). AreTallied e c.push_reserved.new.list.items c.count_end-last.new.rows.items) (sym c.push_reserved-2.ensures)
    (subst (λ (b : List ℕ). AreTallied (c.self.inside.ends.items ++ c.args.end ∷ []) b c.count_end-last.new.rows.items) (sym c.push_reserved.ensures)
    (subst (λ (r : List (List Tally)). AreTallied (c.self.inside.ends.items ++ c.args.end ∷ []) (c.self.inside.before.items ++ c.count_end-last.result ∷ []) r)
    (sym c.count_end-last.ensures.rows)
    (are-tallied-more c.self.inside.ends.items c.self.inside.before.items c.self.inside.rows.items c.args.end c.count_end-last.result (c.len-ended.result + 1)
    (omega (arith, c.len-ended.ensures)) c.count_end-last.ensures.before c.self.invariant)))
