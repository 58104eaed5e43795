use Rattle.svc_conf.proofs.ShownLemmas.{text_is}
use Rattle.svc_conf.proofs.server.configuration.yaml.text_of.Goals as goal

pub returns-clause-fits : goal.returns-clause-fits
returns-clause-fits c = text_is c.args.text.now c.as_str.result.now c.as_str.ensures c.as_str.utf8
