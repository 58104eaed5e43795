use Rattle.std.proofs.Common.{List, ℕ, ◌∙◌, ◌++◌, ◌∷◌, [], sym, ap, append_assoc}
use Rattle.std.specs.Str.Iter.{split_ascii_whitespace_text}
use Rattle.std.proofs.lemmas.List.{append-nil}
use Rattle.svc_fds.proofs.WordLemmas.{joined_words-cut, joined_words-blanks}
use Rattle.svc_fds.proofs.words.joined_words.Goals as goal

pub loop-word-preserved : goal.loop-word-preserved
loop-word-preserved c =
    let found = c.loop-word.found.items in
    let rest = split_ascii_whitespace_text c.next.new.self in
    let cut = joined_words-cut (split_ascii_whitespace_text c.loop-word.word-iterator) rest c.in-Some.word c.in-Some.ensures.steps in
    rw (c.in_ok-push.ensures.items, c.in_ok-new.ensures)
    (append_assoc found (c.in-Some.word.now ∷ []) _ ∙ ap (λ (ws : List (List ℕ)). found ++ ws) (sym cut) ∙ c.loop-word.invariant)

pub returns : goal.returns
returns c =
    let found = c.loop-word.found.items in
    sym (append-nil found)
    ∙ ap (λ (ws : List (List ℕ)). found ++ ws) (sym (joined_words-blanks (split_ascii_whitespace_text c.loop-word.word-iterator) c.in-None.ensures.steps.0))
    ∙ c.loop-word.invariant
