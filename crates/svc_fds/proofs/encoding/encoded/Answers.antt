use Rattle.std.proofs.Common.{◌∙◌, subst}
use Rattle.std.specs.Str.{IsUtf8}
use Rattle.svc_fds.proofs.VersionLemmas.{framed-written, read-written}
use Rattle.svc_fds.proofs.encoding.encoded.Goals as goal

pub returns-clause-version : goal.returns-clause-version
returns-clause-version c =
    rw (c.in_ok-bytes.ensures, c.as_bytes.ensures.value, c.as_str.ensures.value, c.in_ok-text.ensures.text) (framed-written c.args.entries.now)

pub returns-clause-again : goal.returns-clause-again
returns-clause-again c =
    let text = c.as_bytes.ensures.value ∙ c.as_str.ensures.value ∙ c.in_ok-text.ensures.text in
    rw (c.in_ok-bytes.ensures, text, c.in_ok-fds.ensures)
    (read-written c.args.entries.now c.requires c.in_ok-text.ensures.said
    (subst (λ bytes. IsUtf8 bytes) text c.as_bytes.ensures.utf8) c.in_ok-text.ensures.read)
