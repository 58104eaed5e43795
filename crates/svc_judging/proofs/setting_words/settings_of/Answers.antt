use Rattle.std.proofs.Common.{◌≡◌, ℕ, List, Option, Some, None, sym, ap, ◌∙◌}
use Rattle.svc_base.specs.declared.settings.Setting.{Setting}
use Rattle.svc_base.specs.Words.{words}
use Rattle.svc_judging.specs.SettingWords.{setting_of, settings_of}
use Rattle.svc_judging.proofs.SettingLemmas.{settings_after, settings_end, settings_more, settings_stop}
use Rattle.svc_judging.proofs.setting_words.settings_of.Goals as goal

pub returns-in_default-2 : goal.returns-in_default-2
returns-in_default-2 c =
    let is = c.in_default-2.is in
    let says = c.in_ok-setting.ensures in
    let none : Option Setting = None in
    let stops : none ≡ setting_of c.in-Some.word.now = cc in
    sym (
    c.words.invariant ∙ ap (λ (ws : List (List ℕ)). settings_after c.words.settings (settings_of ws)) c.in-Some.ensures.first
    ∙ settings_stop c.words.settings c.in-Some.word.now (words c.in-Some.after.now) stops
    )

pub words-preserved : goal.words-preserved
words-preserved c =
    let is = c.in-Some-2.is in
    let says = c.in_ok-setting.ensures in
    let reads : Some c.in-Some-2.setting ≡ setting_of c.in-Some.word.now = cc in
    c.words.invariant ∙ ap (λ (ws : List (List ℕ)). settings_after c.words.settings (settings_of ws)) c.in-Some.ensures.first
    ∙ settings_more c.words.settings c.push_setting.new.settings c.in-Some-2.setting c.in-Some.word.now (words c.in-Some.after.now) reads
    c.in_ok-push_setting.ensures

pub returns : goal.returns
returns c =
    sym (
    c.words.invariant ∙ ap (λ (ws : List (List ℕ)). settings_after c.words.settings (settings_of ws)) c.in_default.ensures.first
    ∙ settings_end c.words.settings
    )
