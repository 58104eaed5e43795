use Rattle.svc_messages.proofs.PlainLemmas.{plain_decimal, message_on}
use Rattle.svc_messages.proofs.pieces.put_piece.Goals as goal

pub returns-in_ok-push_str-in-Number : goal.returns-in_ok-push_str-in-Number
returns-in_ok-push_str-in-Number c = λ old.
    message_on _ _ _ old c.in_ok-push_str-in-Number.ensures.bytes
    (rw (c.as_str.ensures.value, c.in_ok-format-in-Number.ensures.ok) (plain_decimal c.in-Number.n).bytes)
