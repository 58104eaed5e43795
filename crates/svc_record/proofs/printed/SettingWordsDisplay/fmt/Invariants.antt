use Rattle.std.proofs.Common.{◌∷◌, take}
use Rattle.std.specs.List.{flat_map}
use Rattle.std.specs.Fmt.{HasWritten, IsPlainFormatter}
use Rattle.svc_record.specs.Text.{setting_word}
use Rattle.svc_record.proofs.printed.SettingWordsDisplay.fmt.Given as goal

abbrev pub invariant-loop-setting : goal.invariant-loop-setting
invariant-loop-setting g l =
    IsPlainFormatter l.initial.f
    → HasWritten g.W.Write.write_str_gives l.initial.f (flat_map (λ x. 32 ∷ setting_word x) (take l.setting-index l.setting-items)) l.f
