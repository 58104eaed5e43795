use Rattle.svc_conf.proofs.ConfigurationLemmas.{new_is, new_refused}
use Rattle.svc_conf.proofs.server.configuration.ServerConf.new.Goals as goal

pub returns-in-Ok-clause-version : goal.returns-in-Ok-clause-version
returns-in-Ok-clause-version c = new_is c.in-Ok.conf c.in-Ok.ensures

pub memory_alone-requires : goal.memory_alone-requires
memory_alone-requires c = new_refused c.from_yaml.result c.in-Err.error c.in-Err.is c.from_yaml.ensures
