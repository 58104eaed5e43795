use Rattle.std.proofs.Common.{List, ℕ, Some, map, ap, sym, ◌∙◌, ◌≡◌, subst}
use Rattle.svc_base.specs.Items.{list_of}
use Rattle.svc_endpoints.specs.declared.uses.UseCount.{UseCount}
use Rattle.svc_endpoints.specs.Counts.{raised}
use Rattle.svc_endpoints.proofs.UsesLemmas.{replaced-is, absent-is, raised-other, raised-none}
use Rattle.svc_endpoints.proofs.uses.Uses.raise.Goals as goal

pub returns-in-Some-find : goal.returns-in-Some-find
returns-in-Some-find c =
    let x = c.in-Some.share in
    replaced-is x.fd (list_of c.self.inside.counts) c.self.invariant (raised (Some x)) c.in-Some-find.count.now c.raised-next.result c.replace.result
    (list_of c.replace.new.self) c.in-Some-find.ensures.found (raised-other x) c.raised-next.ensures
    (sym c.in-Some-find.ensures.found.has ∙ ap (λ (u : UseCount). u.fd) (sym c.raised-next.ensures)) c.replace.ensures.replaced c.replace.ensures.absent
    ∙ ap (λ (l : List UseCount × ℕ). map (raised (Some x)) (list_of l)) c.self.view_is ∙ ap (λ y. map (raised y) (list_of c.args.self.now)) (sym c.in-Some.is)

pub returns-in_default-find : goal.returns-in_default-find
returns-in_default-find c =
    let x = c.in-Some.share in
    subst (λ (l : List UseCount × ℕ). list_of l ≡ map (raised (Some x)) (list_of l)) c.self.view_is
    (absent-is x.fd (list_of c.self.inside.counts) c.self.invariant (raised (Some x)) (raised-other x) c.in_default-find.ensures.absent)
    ∙ ap (λ y. map (raised y) (list_of c.args.self.now)) (sym c.in-Some.is)

pub returns-in_default : goal.returns-in_default
returns-in_default c = raised-none (list_of c.args.self.now) ∙ ap (λ y. map (raised y) (list_of c.args.self.now)) (sym c.in_default.is)
