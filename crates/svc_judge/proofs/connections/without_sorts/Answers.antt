use Rattle.std.proofs.Common.{List, ◌++◌, ◌≡◌, Option, ◌∙◌}
use Rattle.std.specs.Option.{option_copied}
use Rattle.svc_base.specs.declared.settings.Setting.{Setting}
use Rattle.svc_record.specs.Connections.{first_of, is_keepalive, is_dscp, is_send_buffer, is_receive_buffer}
use Rattle.svc_judge.specs.ConnectionSteps.{without_front}
use Rattle.svc_judge.proofs.ConnectionLemmas.{fronts-append}
use Rattle.svc_judge.proofs.connections.without_sorts.Goals as goal

four : (a b c d : List Setting) (r : Option (List Setting))
    → without_front (a ++ (b ++ (c ++ d))) r ≡ without_front d (without_front c (without_front b (without_front a r)))
four a b c d r =
    fronts-append a (b ++ (c ++ d)) r ∙ fronts-append b (c ++ d) (without_front a r) ∙ fronts-append c d (without_front b (without_front a r))

pub returns : goal.returns
returns c =
    let options = c.args.options.now in
    let e = four (first_of is_keepalive options) (first_of is_dscp options) (first_of is_send_buffer options) (first_of is_receive_buffer options)
    (option_copied c.args.told) in
    cc
