use Rattle.std.proofs.Common.{List, ℕ, ap, ◌∙◌}
use Rattle.svc_base.specs.Items.{list_of}
use Rattle.svc_base.specs.NumberSets.{distinct}
use Rattle.svc_endpoints.specs.declared.uses.UseCount.{UseCount}
use Rattle.svc_endpoints.specs.Counts.{counted_numbers}
use Rattle.svc_endpoints.proofs.UsesLemmas.{once-shared, put-shared}
use Rattle.svc_endpoints.proofs.uses.Uses.add_shared.Goals as goal

pub invariant_of-self : goal.invariant_of-self
invariant_of-self c =
    ap (λ (l : List UseCount). distinct (counted_numbers l)) c.insert.ensures.entries
    ∙ once-shared c.args.was (record { fd = c.args.is.fd; holders = c.one.result; users = c.one-2.result }) (list_of c.args.self.now)
    (list_of c.self.inside.counts) c.requires.new (ap (λ (x : List UseCount × ℕ). list_of x) c.self.view_is ∙ c.lower.ensures.counts) c.self.invariant

pub returns : goal.returns
returns c = put-shared c.args.was c.args.is (list_of c.args.self.now) (list_of c.self.inside.counts) (list_of c.insert.new.self) c.requires.new
    (ap (λ (x : List UseCount × ℕ). list_of x) c.self.view_is ∙ c.lower.ensures.counts) (rw (c.one.ensures, c.one-2.ensures) at c.insert.ensures.entries)
