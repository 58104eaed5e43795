use Rattle.std.proofs.Common.{ℕ, List, ap, ◌∙◌}
use Rattle.svc_base.specs.Items.{list_of}
use Rattle.svc_base.specs.NumberSets.{is_in}
use Rattle.svc_base.proofs.KeyLemmas.{found-key}
use Rattle.svc_endpoints.specs.declared.table.Open.{Open}
use Rattle.svc_endpoints.specs.EndpointsState.{numbers_of_table}
use Rattle.svc_endpoints.proofs.TableLemmas.{has-numbers}
use Rattle.svc_endpoints.proofs.table.Table.has.Goals as goal

pub returns : goal.returns
returns c =
    c.is_some.ensures
    ∙ found-key (λ (o : Open). o.fd) c.args.fd (list_of c.self.inside.entries) c.find.result c.find.ensures.found c.find.ensures.absent
    ∙ has-numbers c.args.fd (list_of c.self.inside.entries)
    ∙ ap (λ (x : List Open × ℕ). is_in c.args.fd (numbers_of_table (list_of x))) c.self.view_is
