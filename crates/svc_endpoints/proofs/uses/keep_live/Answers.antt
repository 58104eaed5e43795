use Rattle.std.proofs.Common.{rules}
use Rattle.std.proofs.lemmas.Fn.{filter_same}
use Rattle.svc_base.specs.Items.{list_of}
use Rattle.svc_base.specs.NumberSets.{is_in}
use Rattle.svc_endpoints.specs.declared.uses.UseCount.{UseCount}
use Rattle.svc_endpoints.specs.EndpointsState.{numbers_of_table}
use Rattle.svc_endpoints.proofs.uses.keep_live.Goals as goal

pub returns : goal.returns
returns c =
    filter_same _ (λ (u : UseCount). is_in u.fd (numbers_of_table (list_of c.args.table.now))) _ (λ x b f' k. search rules) _ _ c.retain.ensures.filtered
