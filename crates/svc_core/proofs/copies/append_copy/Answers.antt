use Rattle.std.proofs.Common.{ap, ◌∙◌, ◌++◌, ◌∷◌, []}
use Rattle.svc_base.specs.Items.{list_of}
use Rattle.svc_record.specs.declared.action.Action.{Action}
use Rattle.svc_core.proofs.CopyLemmas.{settings-told, of-settings}
use Rattle.svc_core.proofs.copies.append_copy.Goals as goal
use Rattle.svc_core.proofs.copies.append_copy.Goals.{in-OfSettings, in_default-copy-2}

pub returns-after-copy-3-clause-told : goal.returns-after-copy-3-clause-told
returns-after-copy-3-clause-told c =
    elim c.match-copy-3.branch [
      | in-OfSettings w ↦
          ap list_of w.again-is
          ∙ (w.put-in-OfSettings.ensures.items
          ∙ ap (λ (a : Action). list_of c.args.again.now ++ a ∷ [])
          (settings-told c.args.copy c.args.action.now c.in-Settings.c c.in-Settings.field-1 w.in-OfSettings.settings c.requires.copied c.in-Settings.is
          w.in-OfSettings.is))
      | in_default-copy-2 w ↦
          let some = of-settings c.args.copy c.args.action.now c.in-Settings.c c.in-Settings.field-1 c.requires.copied c.in-Settings.is in
          absurd (w.in_default-copy-2.not-OfSettings some.0 some.1)
    ]
