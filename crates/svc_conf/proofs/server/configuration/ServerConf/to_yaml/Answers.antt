use Rattle.std.proofs.Common.{◌∙◌}
use Rattle.svc_conf.proofs.LawLemmas.{text_back_whole}
use Rattle.svc_conf.proofs.TextLemmas.{yaml_text}
use Rattle.svc_conf.proofs.server.configuration.ServerConf.to_yaml.Goals as goal

pub returns-clause-back : goal.returns-clause-back
returns-clause-back c =
    λ z. text_back_whole c.args.self.now c.in_ok-bytes.bytes.items c.in_ok-text.text
    (c.in_ok-text.ensures ∙ c.deref.ensures.value) c.in_ok-bytes.ensures.shown c.in_ok-bytes.ensures.fits z

pub text_in-requires : goal.text_in-requires
text_in-requires c =
    yaml_text c.args.self.now c.deref.result.now (c.deref.ensures.value ∙ c.in_ok-bytes.ensures.shown) c.in_ok-bytes.ensures.fits
