use Rattle.std.proofs.Common.{◌≡◌, ◌++◌, List, ℕ, refl, sym, ◌∙◌, inr, append_assoc}
use Rattle.std.specs.Prelude.{codes, string_bytes}
use Rattle.svc_messages.proofs.PlainLemmas.{plain_then, message_behind, message_more, known_at, known_plain}
use Rattle.svc_messages.proofs.words.unknown_word.Goals as goal

pub returns-in-Some-clause-plain : goal.returns-in-Some-clause-plain
returns-in-Some-clause-plain c = λ sort known.
    message_behind _ _ _ _ c.in_ok-word_shown.ensures.plain c.in_ok-format.ensures.ok
    (plain_then _ _ sort (plain_then _ _ (known_plain c.args.known.now c.in-Some.meant.now known c.in-Some.ensures.1) refl))

pub returns-in-Some-clause-hint : goal.returns-in-Some-clause-hint
returns-in-Some-clause-hint c =
    let front : List ℕ = codes " is no " ++ c.args.sort.now in
    let back : List ℕ = codes "; did you mean " ++ (c.in-Some.meant.now ++ codes "?") in
    let shown : List ℕ = string_bytes c.in_ok-word_shown.word_shown in
    let whole : string_bytes c.in_ok-format.field-0 ≡ shown ++ (front ++ back) = c.in_ok-format.ensures.ok in
    inr (c.in-Some.meant.now, shown ++ front, c.in-Some.ensures.0, c.in-Some.ensures.1, whole ∙ sym (append_assoc shown front back))

pub loop-name-init : goal.loop-name-init
loop-name-init c = λ sort known.
    message_behind _ _ _ _ c.in_ok-word_shown.ensures.plain c.in_ok-text.ensures.ok (plain_then _ _ sort refl)

pub loop-name-preserved : goal.loop-name-preserved
loop-name-preserved c = λ sort known.
    message_more _ _ _ _ (c.loop-name.invariant sort known) (known_at c.args.known.now c.loop-name.name-index _ known c.loop-name-test.true)
    c.in_ok-push_str.ensures.bytes c.in_ok-push_str-2.ensures.bytes
