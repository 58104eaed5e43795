use Rattle.svc_server.specs.Making.{conf_path}
use Rattle.svc_server.proofs.MakingLemmas.{fresh_accepted, loaded_accepted, configures, match_both}
use Rattle.svc_server.proofs.server.Server.new.Goals as goal

pub returns-in-Ok-clause-configuration : goal.returns-in-Ok-clause-configuration
returns-in-Ok-clause-configuration g c =
    match_both (conf_path c.args.opt) c.in-Ok.ensures.read
    (λ (same, read). (
      same,
      configures c.args.opt c.in-Ok.conf _ c.new_with_opt_and_conf.result read
          (fresh_accepted c.in-Ok.conf read) c.new_with_opt_and_conf.ensures.configuration c.new_with_opt_and_conf.ensures.refused,
    ))
    (λ path (answer, is_read, read). (
      answer,
      is_read,
      configures c.args.opt c.in-Ok.conf _ c.new_with_opt_and_conf.result read
          (loaded_accepted answer c.in-Ok.conf read) c.new_with_opt_and_conf.ensures.configuration c.new_with_opt_and_conf.ensures.refused,
    ))
