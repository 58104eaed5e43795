use Rattle.std.proofs.Common.{List, ℕ, ap, ◌∙◌}
use Rattle.svc_base.specs.Items.{list_of}
use Rattle.svc_base.specs.NumberSets.{is_in, distinct}
use Rattle.svc_endpoints.specs.declared.uses.UseCount.{UseCount}
use Rattle.svc_endpoints.specs.Counts.{unused, counted_numbers}
use Rattle.svc_endpoints.proofs.UsesLemmas.{once-put}
use Rattle.svc_endpoints.proofs.uses.Uses.add.Goals as goal

pub invariant_of-self : goal.invariant_of-self
invariant_of-self c =
    ap (λ (l : List UseCount). distinct (counted_numbers l)) c.insert.ensures.entries
    ∙ once-put (unused c.args.fd) (list_of c.self.inside.counts)
    (ap (λ (x : List UseCount × ℕ). is_in c.args.fd (counted_numbers (list_of x))) c.self.view_is ∙ c.requires.new) c.self.invariant
