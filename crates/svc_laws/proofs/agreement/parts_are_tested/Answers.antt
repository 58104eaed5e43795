use Rattle.svc_record.proofs.Complete as complete
use Rattle.svc_record.proofs.Sound as sound
use Rattle.svc_laws.proofs.agreement.parts_are_tested.Goals as goal

pub returns-clause-starts : goal.returns-clause-starts
returns-clause-starts c = λ p q. (complete.starts p q, sound.starts p q)

pub returns-clause-endpoints : goal.returns-clause-endpoints
returns-clause-endpoints c = λ p q. (complete.held_or_wait p q, sound.held_or_wait p q)

pub returns-clause-endpoints_late : goal.returns-clause-endpoints_late
returns-clause-endpoints_late c = λ p q. (complete.held_or_wait_late p q, sound.held_or_wait_late p q)

pub returns-clause-closes : goal.returns-clause-closes
returns-clause-closes c = λ p q. (complete.closes p q, sound.closes p q)

pub returns-clause-fails : goal.returns-clause-fails
returns-clause-fails c = λ p q. (complete.fails p q, sound.fails p q)

pub returns-clause-boot : goal.returns-clause-boot
returns-clause-boot c = λ p q. (complete.boot p q, sound.boot p q)

pub returns-clause-offer : goal.returns-clause-offer
returns-clause-offer c = λ p q. (complete.offer p q, sound.offer p q)

pub returns-clause-connections : goal.returns-clause-connections
returns-clause-connections c = λ p q. (complete.connections p q, sound.connections p q)

pub returns-clause-phases : goal.returns-clause-phases
returns-clause-phases c = λ p q. (complete.phases p q, sound.phases p q)

pub returns-clause-drain : goal.returns-clause-drain
returns-clause-drain c = λ p q. (complete.drains p q, sound.drains p q)

pub returns-clause-ended : goal.returns-clause-ended
returns-clause-ended c = λ p q. (complete.ended p q, sound.ended p q)

pub returns-clause-tested : goal.returns-clause-tested
returns-clause-tested c = λ p q. (complete.tested p q, sound.tested p q)

pub returns-clause-open_ : goal.returns-clause-open_
returns-clause-open_ c = λ p q. (complete.open_ p q, sound.open_ p q)

pub returns-clause-settled : goal.returns-clause-settled
returns-clause-settled c = λ p q. (complete.settled_clause p q, sound.settled_clause p q)

pub returns-clause-serves : goal.returns-clause-serves
returns-clause-serves c = λ p q. (complete.serves p q, sound.serves p q)

pub returns-clause-last_step : goal.returns-clause-last_step
returns-clause-last_step c = λ p q. (complete.last_step_clause p q, sound.last_step_clause p q)

pub returns-clause-stronger : goal.returns-clause-stronger
returns-clause-stronger c = λ p q. (complete.stronger p q, sound.stronger p q)
