use Rattle.std.proofs.Common.{◌≡◌, length}
use Rattle.svc_base.specs.Words.{words}
use Rattle.svc_judging.specs.SettingWords.{settings_of}
use Rattle.svc_judging.proofs.SettingLemmas.{settings_after}
use Rattle.svc_judging.proofs.setting_words.settings_of.Given as goal

abbrev pub invariant-words : goal.invariant-words
invariant-words l = settings_of (words l.text) ≡ settings_after l.settings (settings_of (words l.rest))

abbrev pub decreases-words : goal.decreases-words
decreases-words l = length l.rest
