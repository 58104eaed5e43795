use Rattle.std.proofs.Common.{List, ℕ, filter, not, ap, ◌∙◌, ◌==◌}
use Rattle.svc_base.specs.Items.{list_of}
use Rattle.svc_base.specs.NumberSets.{distinct}
use Rattle.svc_endpoints.specs.declared.uses.UseCount.{UseCount}
use Rattle.svc_endpoints.specs.Counts.{counted_numbers}
use Rattle.svc_endpoints.proofs.UsesLemmas.{removed-either, once-filter}
use Rattle.svc_endpoints.proofs.uses.Uses.remove.Goals as goal

pub invariant_of-self : goal.invariant_of-self
invariant_of-self c =
    ap (λ (l : List UseCount). distinct (counted_numbers l))
    (removed-either c.args.fd c.self.inside.counts c.remove.new.self c.self.invariant c.remove.result c.remove.ensures.removed c.remove.ensures.absent
    c.remove.ensures.same)
    ∙ once-filter (λ (u : UseCount). not (u.fd == c.args.fd)) (list_of c.self.inside.counts) c.self.invariant

pub returns : goal.returns
returns c =
    removed-either c.args.fd c.self.inside.counts c.remove.new.self c.self.invariant c.remove.result c.remove.ensures.removed c.remove.ensures.absent
    c.remove.ensures.same
    ∙ ap (λ (x : List UseCount × ℕ). filter (λ (u : UseCount). not (u.fd == c.args.fd)) (list_of x)) c.self.view_is
