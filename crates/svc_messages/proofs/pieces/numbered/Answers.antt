use Rattle.svc_messages.proofs.PlainLemmas.{plain_then, plain_decimal, message_from}
use Rattle.svc_messages.proofs.pieces.numbered.Goals as goal

pub returns-clause-message : goal.returns-clause-message
returns-clause-message c = λ cause.
    message_from _ _ _ c.in_ok-format.ensures.ok (plain_then _ _ (plain_decimal c.args.number) cause.plain.bytes)
