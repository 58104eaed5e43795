use Rattle.std.proofs.Common.{◌∙◌, ◌++◌, ◌<◌, ◌≡◌, [], List, ℕ, Some, length, sym, ap, arith}
use Rattle.std.specs.Option.{option_map}
use Rattle.std.proofs.lemmas.Bool.{eqb-true, eqb-false}
use Rattle.std.proofs.lemmas.List.{append-nil, nil_from_length}
use Rattle.svc_fds.specs.Messages.{framed_words}
use Rattle.svc_fds.proofs.FrameLemmas.{framed_words-nil, framed_words-none, framed_words-front, words-more}
use Rattle.svc_fds.proofs.words.framed_words.Goals as goal

pub returns-in_default : goal.returns-in_default
returns-in_default c =
    let found = c.loop-rest.found.items in
    let rest = c.loop-rest.rest.now in
    let full : length rest ≡ 0 → ⊥ = eqb-false (length rest) 0 (sym c.loop-rest-test.ensures) in
    let some : 0 < length rest = omega arith in
    sym c.loop-rest.invariant ∙ ap (λ o. option_map (λ (words : List (List ℕ)). found ++ words) o) (framed_words-none rest some c.in_default.ensures.cut)

pub loop-rest-preserved : goal.loop-rest-preserved
loop-rest-preserved c =
    let found = c.loop-rest.found.items in
    let after = c.in-Some.after.now in
    rw (c.in_ok-push.ensures.items, c.in_ok-new.ensures)
    (words-more found c.in-Some.word.now (framed_words after)
    ∙ ap (λ o. option_map (λ (words : List (List ℕ)). found ++ words) o)
    (sym (framed_words-front c.loop-rest.rest.now c.in-Some.word.now after c.in-Some.ensures.cut))
    ∙ c.loop-rest.invariant)

pub returns : goal.returns
returns c =
    let found = c.loop-rest.found.items in
    let rest = c.loop-rest.rest.now in
    let none : rest ≡ [] = nil_from_length rest (eqb-true (length rest) 0 (sym c.loop-rest-test.ensures)) in
    sym c.loop-rest.invariant ∙ ap (λ o. option_map (λ (words : List (List ℕ)). found ++ words) o) (ap framed_words none ∙ framed_words-nil)
    ∙ ap (λ (ws : List (List ℕ)). Some ws) (append-nil found)
