use Rattle.std.proofs.Common.{sym}
use Rattle.svc_base.proofs.WordLemmas.{no_word, word_cut}
use Rattle.svc_base.proofs.words.split_word.Goals as goal

pub returns-in_default-clause-first : goal.returns-in_default-clause-first
returns-in_default-clause-first c = no_word c.args.line.now (sym c.in_default.ensures)

pub returns-clause-first : goal.returns-clause-first
returns-clause-first c =
    word_cut c.args.line.now c.in-Some.start c.unwrap_or-end.result c.blank_at.result c.split_at.result.0.now c.split_at.result.1.now
    (sym c.in-Some.ensures) c.blank_at.ensures c.unwrap_or-end.ensures c.split_at.ensures.front c.split_at.ensures.back
