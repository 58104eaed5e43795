use Rattle.std.proofs.Common.{arith}
use Rattle.svc_record.specs.Text.{SettingFits}
use Rattle.svc_text.proofs.PieceLemmas.{all_more, all_whole}
use Rattle.svc_text.proofs.fitting.read_settings.Goals as goal

pub loop-setting-preserved : goal.loop-setting-preserved
loop-setting-preserved c =
    all_more SettingFits c.args.settings.now c.loop-setting.setting-index _ c.loop-setting-test.true c.loop-setting.invariant c.read_setting.ensures

pub returns : goal.returns
returns c = all_whole SettingFits c.args.settings.now c.loop-setting.setting-index (omega arith) c.loop-setting.invariant
