use Rattle.std.proofs.Common.{◌≡◌, ℕ, nat_lt, ap, ◌∙◌}
use Rattle.std.specs.List.{insert, position_or_len}
use Rattle.svc_judge.proofs.EndingLemmas.{insert_place}
use Rattle.svc_judge.proofs.ending.put_number.Goals as goal

pub returns : goal.returns
returns c =
    let xs = c.args.numbers.now.items in
    let at : c.place-at.result ≡ position_or_len (λ (m : ℕ). nat_lt c.args.number m) xs =
    c.place-at.ensures.place ∙ ap (position_or_len (λ (m : ℕ). nat_lt c.args.number m)) c.deref.ensures.value in
    c.in_ok-insert.ensures.items ∙ ap (λ (i : ℕ). insert xs i c.args.number) at ∙ insert_place c.args.number xs
