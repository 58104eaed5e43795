use Rattle.std.proofs.Common.{sym, ap, refl, ◌∙◌, ◌≡◌, Ok}
use Rattle.svc_conf.specs.ConfigurationText.{configuration}
use Rattle.svc_text.proofs.PlaceLemmas.{is_text, is_no_text}
use Rattle.svc_main.specs.TextLines.{is_daemon}
use Rattle.svc_main.proofs.text_lines.is_daemon.Goals as goal

pub returns-in_default : goal.returns-in_default
unfolding is_daemon
returns-in_default c = let other = sym (is_no_text c.args.line.now c.in_default.ensures.cases.0) in rw other refl

pub returns-in-Ok-parse : goal.returns-in-Ok-parse
unfolding is_daemon
returns-in-Ok-parse c =
    let text = sym (is_text c.args.line.now c.in-Ok.ensures.cases.1) in
    let says : configuration c.args.line.now ≡ Ok c.in-Ok-parse.conf = ap configuration (sym c.in-Ok.ensures.cases.0) ∙ c.in-Ok-parse.ensures in
    rw (text, says) refl
