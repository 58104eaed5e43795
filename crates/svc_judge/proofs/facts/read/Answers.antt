use Rattle.std.proofs.Common.{true, ◌≡◌, sym, ap, ◌∙◌}
use Rattle.svc_record.specs.Boot.{is_read}
use Rattle.svc_record.specs.Descriptors.{words_or_none}
use Rattle.svc_judge.proofs.FactLemmas.{read-message, read-refused}
use Rattle.svc_judge.proofs.facts.read.Goals as goal
use Rattle.svc_base.proofs.Logic.{clash}

pub returns-in-Ok-clause-good : goal.returns-in-Ok-clause-good
returns-in-Ok-clause-good c = sym (ap is_read (read-message c.args.bytes.now c.args.count c.in-Ok.ensures.message))

pub returns-in-Ok-clause-words : goal.returns-in-Ok-clause-words
returns-in-Ok-clause-words c = c.in-Ok.ensures.words ∙ sym (ap words_or_none (read-message c.args.bytes.now c.args.count c.in-Ok.ensures.message))

pub returns-else-eq-clause-good : goal.returns-else-eq-clause-good
returns-else-eq-clause-good c =
    sym (ap is_read
    (read-refused c.args.bytes.now c.args.count c.in-Err.reason
    (λ same. (let here : c.eq.result ≡ true = rw same at c.eq.ensures in clash c.eq.result here c.if-eq.false)) c.in-Err.ensures.refusal))

pub returns-else-eq-clause-words : goal.returns-else-eq-clause-words
returns-else-eq-clause-words c =
    c.new.ensures.items
    ∙ sym (ap words_or_none
    (read-refused c.args.bytes.now c.args.count c.in-Err.reason
    (λ same. (let here : c.eq.result ≡ true = rw same at c.eq.ensures in clash c.eq.result here c.if-eq.false)) c.in-Err.ensures.refusal))
