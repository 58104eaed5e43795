use Rattle.svc_conf.proofs.CauseLemmas.{no_fault}
use Rattle.svc_conf.proofs.server.configuration.ServerConf.load_from_yaml.Goals as goal

pub returns-in-Ok-clause-fault : goal.returns-in-Ok-clause-fault
returns-in-Ok-clause-fault g c = λ e. absurd (no_fault c.from_yaml.result c.as_str.result.now c.from_yaml.ensures e)
