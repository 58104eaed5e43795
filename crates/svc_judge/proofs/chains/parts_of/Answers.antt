use Rattle.std.proofs.Common.{◌≡◌, ◌∷◌, subst}
use Rattle.svc_record.specs.Record.{Record}
use Rattle.svc_judge.specs.Chains.{IsBuilt}
use Rattle.svc_judge.proofs.chains.parts_of.Goals as goal

pub entries-preserved : goal.entries-preserved
entries-preserved c =
    let e : c.entries.rest.now ≡ c.in-Some.entry.now ∷ c.in-Some.before.now = c.in-Some.ensures.cases.0 in
    c.in_ok-append.ensures c.args.entries.now c.in-Some.before.now
    (subst (λ (r : Record). IsBuilt c.entries.parts.items c.args.entries.now r) e c.entries.invariant)
