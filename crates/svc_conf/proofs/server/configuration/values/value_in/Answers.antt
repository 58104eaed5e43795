use Rattle.std.proofs.Common.{◌∙◌}
use Rattle.svc_conf.proofs.ValueLemmas.{value_there, value_missing}
use Rattle.svc_conf.proofs.server.configuration.values.value_in.Goals as goal

pub returns-in_ok-text-in-Ok : goal.returns-in_ok-text-in-Ok
returns-in_ok-text-in-Ok c =
    value_there c.args.quoted c.args.bytes.now c.in_ok-text-in-Ok.text (c.in_ok-text-in-Ok.ensures ∙ c.in-Ok.ensures.cases.0) c.in-Ok.ensures.cases.1

pub returns-in-Err : goal.returns-in-Err
returns-in-Err c = value_missing c.args.quoted c.args.bytes.now c.in-Err.ensures.cases.0
