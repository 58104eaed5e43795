use Rattle.clap.specs.Words.{found_of}
use Rattle.svc_conf.proofs.OptLemmas.{opt_from}
use Rattle.svc_conf.proofs.server.configuration.Opt.from_matches.Goals as goal

pub returns : goal.returns
returns c = opt_from (found_of c.args.matches.now) _ c.is_true.ensures c.is_true-2.ensures c.is_true-3.ensures c.is_true-4.ensures c.in_ok-conf_of.ensures
