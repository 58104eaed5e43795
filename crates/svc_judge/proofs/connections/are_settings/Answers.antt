use Rattle.std.proofs.Common.{[], ◌∷◌, sym, ap, ◌∙◌, Some}
use Rattle.svc_base.specs.declared.settings.Setting.TheVariants.{NoDelay}
use Rattle.svc_record.specs.Connections.{settings_list}
use Rattle.svc_judge.specs.Pasts.{plan_of}
use Rattle.svc_judge.specs.ConnectionSteps.{without_front, is_done, options_list}
use Rattle.svc_judge.proofs.ConnectionLemmas.{fronts-append, fronts-same}
use Rattle.svc_judge.proofs.connections.are_settings.Goals as goal

pub returns : goal.returns
returns c =
    let p = plan_of c.args.past.now in
    c.is_done.ensures
    ∙ ap is_done
    (c.without_options-left.ensures ∙ ap (without_front (options_list p c.args.s c.args.i)) c.without-behind.ensures
    ∙ sym (fronts-append (NoDelay ∷ []) (options_list p c.args.s c.args.i) (Some c.args.told.now)))
    ∙ fronts-same (settings_list p c.args.s c.args.i) c.args.told.now
