use Rattle.std.proofs.Common.{All, take}
use Rattle.svc_record.specs.Text.{SettingFits}
use Rattle.svc_text.proofs.fitting.read_settings.Given as goal

abbrev pub invariant-loop-setting : goal.invariant-loop-setting
invariant-loop-setting l = All SettingFits (take l.setting-index l.settings)
