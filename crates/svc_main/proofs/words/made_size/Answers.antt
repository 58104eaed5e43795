use Rattle.std.proofs.Common.{◌∙◌, sym, arith}
use Rattle.svc_main.proofs.WordsLemmas.{two_words, other_words}
use Rattle.svc_main.proofs.words.made_size.Goals as goal

pub returns-in-len2-clause-size : goal.returns-in-len2-clause-size
returns-in-len2-clause-size c =
    c.size_after.ensures.size
    ∙ sym (two_words c.args.words.now c.key-item.result c.word-item.result
    (omega (arith, c.in-len2.len_at_least, c.in-len2.len_below)) c.key-item.is c.word-item.is)

pub returns-in_default-clause-size : goal.returns-in_default-clause-size
returns-in_default-clause-size c = sym (other_words c.args.words.now (λ e. omega (arith, e, c.in_default.len_below)))

pub returns-in_default-2-clause-size : goal.returns-in_default-2-clause-size
returns-in_default-2-clause-size c = sym (other_words c.args.words.now (λ e. omega (arith, e, c.in_default.len_at_least)))
