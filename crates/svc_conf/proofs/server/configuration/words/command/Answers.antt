use Rattle.std.proofs.Common.{◌≡◌, rules, ap, ap₂, ◌∙◌, Some, false}
use Rattle.clap.specs.Walk.{Rule, rule_of}
use Rattle.clap.specs.Simple.{with_rule}
use Rattle.clap.specs.declared.builder.arg.Arg.{Arg}
use Rattle.svc_conf.specs.OptWords.{upgrade_rule, daemon_rule, test_rule, conf_rule}
use Rattle.svc_conf.proofs.server.configuration.words.command.Goals as goal

pub returns : goal.returns
returns c =
    let upgrade_is : rule_of c.short-upgrade.result ≡ upgrade_rule =
    ap rule_of c.short-upgrade.ensures ∙ ap (λ (r : Rule). record r { short = Some 117 }) c.flag.ensures.rule in
    let daemon_is : rule_of c.short-daemon.result ≡ daemon_rule =
    ap rule_of c.short-daemon.ensures ∙ ap (λ (r : Rule). record r { short = Some 100 }) c.flag-2.ensures.rule in
    let test_is : rule_of c.short-test.result ≡ test_rule =
    ap rule_of c.short-test.ensures ∙ ap (λ (r : Rule). record r { short = Some 116 }) c.flag-3.ensures.rule in
    let conf_is : rule_of c.action-conf.result ≡ conf_rule = search rules in
    let own_1 : c.short-upgrade.result.global ≡ false = ap (λ (a : Arg). a.global) c.short-upgrade.ensures ∙ c.flag.ensures.own in
    let own_2 : c.short-daemon.result.global ≡ false = ap (λ (a : Arg). a.global) c.short-daemon.ensures ∙ c.flag-2.ensures.own in
    let own_4 : c.short-test.result.global ≡ false = ap (λ (a : Arg). a.global) c.short-test.ensures ∙ c.flag-3.ensures.own in
    c.in_ok-with_conf.ensures.shape (search rules)
    ∙ ap₂ with_rule (c.in_ok-with_test.ensures.shape own_4
    ∙ ap₂ with_rule (c.in_ok-with_nocapture.ensures.shape c.flag-nocapture.ensures.own
    ∙ ap₂ with_rule (c.in_ok-with_daemon.ensures.shape own_2
    ∙ ap₂ with_rule (c.in_ok-with_upgrade.ensures.shape own_1
    ∙ ap₂ with_rule c.new.ensures.app upgrade_is) daemon_is) c.flag-nocapture.ensures.rule) test_is) conf_is
