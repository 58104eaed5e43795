use Rattle.std.proofs.Common.{◌≡◌, ◌∙◌, List, ℕ, true, false, drop, sym, ap}
use Rattle.std.proofs.lemmas.List.{take_rest}
use Rattle.std.proofs.lemmas.Str.Pattern.{starts_text}
use Rattle.svc_fds.specs.Messages.{version_2, is_framed}
use Rattle.svc_fds.proofs.FrameLemmas.{read-framed_rest, read-unframed}
use Rattle.svc_fds.proofs.words.words_of.Goals as goal

pub returns-then-starts_with : goal.returns-then-starts_with
returns-then-starts_with c =
    let text = c.args.text.now in
    let begins : is_framed text ≡ true = sym (starts_text c.starts_with.result version_2 text c.starts_with.ensures.cases) ∙ c.if-starts_with.true in
    read-framed_rest c.framed_words.result (λ read. read.items) text _
    (take_rest c.as_bytes.result.now 4 ∙ ap (λ (bytes : List ℕ). drop 4 bytes) c.as_bytes.ensures.value) begins c.framed_words.ensures

pub returns : goal.returns
returns c =
    let begins : is_framed c.args.text.now ≡ false =
    sym (starts_text c.starts_with.result version_2 c.args.text.now c.starts_with.ensures.cases) ∙ c.if-starts_with.false in
    let read = read-unframed c.args.text.now begins in
    (read.0, c.in_ok-joined_words.ensures ∙ read.1)
