use Rattle.std.proofs.Common.{rules, ◌==◌, not, ap, ◌∙◌, map}
use Rattle.std.proofs.lemmas.Fn.{filter_same}
use Rattle.svc_sockets.proofs.NumberLemmas.{map-filter_by}
use Rattle.svc_sockets.proofs.descriptors.Descriptors.close.Goals as goal

pub returns-clause-rows : goal.returns-clause-rows
returns-clause-rows c =
    rw (← c.self.view_is) (filter_same _ (λ row. not (row.number == c.args.number)) _ (λ x b f' k. search rules) _ _ c.retain.ensures.filtered)

pub returns-clause-numbers : goal.returns-clause-numbers
returns-clause-numbers c = ap (map (λ row. row.number)) (returns-clause-rows c)
    ∙ map-filter_by (λ row. row.number) (λ other. not (other == c.args.number)) c.args.self.now.rows
