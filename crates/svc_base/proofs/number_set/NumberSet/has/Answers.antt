use Rattle.std.proofs.Common.{ℕ, List, ap, ◌∙◌}
use Rattle.svc_base.specs.Items.{list_of}
use Rattle.svc_base.specs.NumberSets.{is_in}
use Rattle.svc_base.proofs.KeyLemmas.{found-key}
use Rattle.svc_base.proofs.number_set.NumberSet.has.Goals as goal

pub returns : goal.returns
returns c =
    c.is_some.ensures
    ∙ found-key (λ (n : ℕ). n) c.args.number (list_of c.self.inside.numbers) c.find.result c.find.ensures.found c.find.ensures.absent
    ∙ ap (λ (x : List ℕ × ℕ). is_in c.args.number (list_of x)) c.self.view_is
