use Rattle.std.proofs.Common.{◌∙◌}
use Rattle.svc_conf.proofs.CauseLemmas.{no_missing_path}
use Rattle.svc_conf.proofs.server.configuration.ServerConf.load_yaml_with_opt_override.Goals as goal

pub returns-in-Err-clause-no_path : goal.returns-in-Err-clause-no_path
returns-in-Err-clause-no_path g c =
    λ e. absurd (no_missing_path c.load_from_yaml.result c.load_from_yaml.ensures.read.0 c.load_from_yaml.ensures.read.2 (c.in-Err.is ∙ e))
