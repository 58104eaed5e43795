use Rattle.std.proofs.Common.{List, ℕ, Some, map, ap, sym, ◌∙◌, ◌≡◌, subst}
use Rattle.svc_base.specs.Items.{list_of}
use Rattle.svc_endpoints.specs.declared.uses.UseCount.{UseCount}
use Rattle.svc_endpoints.specs.Counts.{lowered}
use Rattle.svc_endpoints.proofs.UsesLemmas.{replaced-is, absent-is, lowered-other, lowered-none}
use Rattle.svc_endpoints.proofs.uses.Uses.lower.Goals as goal

pub returns-in-Some-find-clause-counts : goal.returns-in-Some-find-clause-counts
returns-in-Some-find-clause-counts c =
    let x = c.in-Some.share in
    replaced-is x.fd (list_of c.self.inside.counts) c.self.invariant (lowered (Some x)) c.in-Some-find.count.now c.lowered-next.result c.replace.result
    (list_of c.replace.new.self) c.in-Some-find.ensures.found (lowered-other x) c.lowered-next.ensures
    (sym c.in-Some-find.ensures.found.has ∙ ap (λ (u : UseCount). u.fd) (sym c.lowered-next.ensures)) c.replace.ensures.replaced c.replace.ensures.absent
    ∙ ap (λ (l : List UseCount × ℕ). map (lowered (Some x)) (list_of l)) c.self.view_is ∙ ap (λ y. map (lowered y) (list_of c.args.self.now)) (sym c.in-Some.is)

pub returns-in_default-find-clause-counts : goal.returns-in_default-find-clause-counts
returns-in_default-find-clause-counts c =
    let x = c.in-Some.share in
    subst (λ (l : List UseCount × ℕ). list_of l ≡ map (lowered (Some x)) (list_of l)) c.self.view_is
    (absent-is x.fd (list_of c.self.inside.counts) c.self.invariant (lowered (Some x)) (lowered-other x) c.in_default-find.ensures.absent)
    ∙ ap (λ y. map (lowered y) (list_of c.args.self.now)) (sym c.in-Some.is)

pub returns-in_default-clause-counts : goal.returns-in_default-clause-counts
returns-in_default-clause-counts c = lowered-none (list_of c.args.self.now) ∙ ap (λ y. map (lowered y) (list_of c.args.self.now)) (sym c.in_default.is)
