use Rattle.std.proofs.Common.{rules, ◌==◌, not, ap, ◌∙◌, map}
use Rattle.std.proofs.lemmas.Fn.{filter_same}
use Rattle.svc_sockets.proofs.NumberLemmas.{map-filter_by}
use Rattle.svc_sockets.proofs.connections.drop_one.Goals as goal

pub returns : goal.returns
returns c =
    ap (map (λ connection. connection.number))
    (filter_same _ (λ connection. not (connection.number == c.args.number)) _ (λ x b f' k. search rules) _ _ c.retain.ensures.filtered)
    ∙ map-filter_by (λ connection. connection.number) (λ other. not (other == c.args.number)) c.args.connections.now.items
