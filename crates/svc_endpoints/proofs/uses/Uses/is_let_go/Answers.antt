use Rattle.std.proofs.Common.{List, ℕ, ap, sym, ◌∙◌}
use Rattle.svc_base.specs.Items.{list_of}
use Rattle.svc_endpoints.specs.declared.uses.UseCount.{UseCount}
use Rattle.svc_endpoints.specs.Counts.{is_let_go}
use Rattle.svc_endpoints.proofs.UsesLemmas.{let-go-found, let-go-none}
use Rattle.svc_endpoints.proofs.uses.Uses.is_let_go.Goals as goal

pub returns-in-Some : goal.returns-in-Some
returns-in-Some c =
    c.is_unused.ensures ∙ let-go-found c.args.fd (list_of c.self.inside.counts) c.self.invariant c.in-Some.count.now c.in-Some.ensures.found
    ∙ ap (λ (x : List UseCount × ℕ). is_let_go c.args.fd (list_of x)) c.self.view_is

pub returns-in-None : goal.returns-in-None
returns-in-None c =
    sym (ap (λ (x : List UseCount × ℕ). is_let_go c.args.fd (list_of x)) (sym c.self.view_is)
    ∙ let-go-none c.args.fd (list_of c.self.inside.counts) c.in-None.ensures.absent)
