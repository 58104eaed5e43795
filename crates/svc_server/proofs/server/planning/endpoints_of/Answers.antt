use Rattle.std.proofs.Common.{◌∙◌}
use Rattle.svc_server.proofs.server.planning.endpoints_of.Goals as goal

pub returns : goal.returns
returns g c = c.list_of.ensures ∙ c.in_ok-listener_configs.ensures
