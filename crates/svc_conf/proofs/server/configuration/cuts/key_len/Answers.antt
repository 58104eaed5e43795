use Rattle.std.proofs.Common.{◌∙◌}
use Rattle.svc_conf.specs.TextLines.{not_key_byte}
use Rattle.svc_base.proofs.CutLemmas.{position_else}
use Rattle.svc_conf.proofs.server.configuration.cuts.key_len.Goals as goal

pub returns-clause-len : goal.returns-clause-len
returns-clause-len c = c.unwrap_or.ensures ∙ position_else not_key_byte c.args.line.now c.key_end.result c.key_end.ensures
