use Rattle.std.proofs.Common.{ℕ, List, ap, ◌∙◌}
use Rattle.svc_base.specs.Items.{list_of}
use Rattle.svc_base.specs.NumberSets.{put_number}
use Rattle.svc_base.proofs.NumberSetLemmas.{put-is}
use Rattle.svc_base.proofs.number_set.NumberSet.add.Goals as goal

pub returns-clause-numbers : goal.returns-clause-numbers
returns-clause-numbers c =
    c.insert.ensures.entries
    ∙ put-is c.args.number (list_of c.self.inside.numbers)
    ∙ ap (λ (x : List ℕ × ℕ). put_number c.args.number (list_of x)) c.self.view_is
