use Rattle.std.proofs.Common.{ℕ, ◌≡◌, ◌∙◌, ◌+◌, List, Option, Some, None, MatchOption, sym, ap, subst}
use Rattle.std.proofs.lemmas.List.{take_rest}
use Rattle.svc_fds.specs.Messages.{cut_word}
use Rattle.svc_fds.proofs.FrameLemmas.{front_word-plain, front_word-colon, front-part_shorter}
use Rattle.svc_fds.proofs.words.front_word.Goals as goal

pub returns-in_default-clause-cut : goal.returns-in_default-clause-cut
returns-in_default-clause-cut c = front_word-plain c.args.bytes.now (sym c.in_default.ensures)

cut : goal.returns-in-Some-number-clause-cut
cut c =
    let bytes = c.args.bytes.now in
    let at = c.in-Some.colon in
    let n = c.in-Some-number.length in
    let is = front_word-colon bytes at (Some n) (sym c.in-Some.ensures) (sym c.in-Some-number.ensures) in
    subst (λ (o : Option (List ℕ × List ℕ)). MatchOption c.cut_word.result (o ≡ None) (λ x. o ≡ Some (x.0.now, x.1.now)))
    (ap (cut_word n) (take_rest bytes (at + 1)) ∙ sym is) c.cut_word.ensures

pub returns-in-Some-number-clause-cut : goal.returns-in-Some-number-clause-cut
returns-in-Some-number-clause-cut c = cut c

pub returns-in-Some-number-clause-shorter : goal.returns-in-Some-number-clause-shorter
returns-in-Some-number-clause-shorter c = front-part_shorter c.args.bytes.now c.cut_word.result (cut c)

pub returns-in-None-clause-cut : goal.returns-in-None-clause-cut
returns-in-None-clause-cut c = front_word-colon c.args.bytes.now c.in-Some.colon None (sym c.in-Some.ensures) (sym c.in-None.ensures)
