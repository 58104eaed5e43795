use Rattle.std.proofs.Common.{◌∙◌, ◌||◌, ap}
use Rattle.std.specs.Char.{is_ascii_whitespace}
use Rattle.std.specs.List.{list_any}
use Rattle.svc_fds.proofs.encoding.is_unjoinable.Goals as goal

pub returns-else-is_empty : goal.returns-else-is_empty
returns-else-is_empty c =
    c.has_blank.ensures ∙ ap (λ bytes. list_any is_ascii_whitespace bytes) c.as_bytes.ensures.value
    ∙ ap (λ b. b || list_any is_ascii_whitespace c.args.address.now) c.if-is_empty.ensures
