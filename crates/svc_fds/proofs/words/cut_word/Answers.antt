use Rattle.std.proofs.Common.{◌∙◌, List, ℕ, Some, ap, subst, sym}
use Rattle.std.specs.Str.{IsUtf8}
use Rattle.std.proofs.lemmas.List.{take_rest}
use Rattle.svc_fds.proofs.FrameLemmas.{cut_word-some, cut_word-other}
use Rattle.svc_fds.proofs.words.cut_word.Goals as goal

pub returns-in-Ok : goal.returns-in-Ok
returns-in-Ok c =
    cut_word-some c.args.length c.args.bytes.now c.in-Ok.word.now c.if-length-eq0.false c.if-length-bytes.false c.in-Ok.ensures.cases.0
    (subst IsUtf8 (sym c.in-Ok.ensures.cases.0) c.in-Ok.ensures.cases.1)
    ∙ ap (λ (rest : List ℕ). Some (c.in-Ok.word.now, rest)) (sym (take_rest c.args.bytes.now c.args.length))

pub returns-in-Err : goal.returns-in-Err
returns-in-Err c = cut_word-other c.args.length c.args.bytes.now c.in-Err.ensures.cases.0
