use Rattle.std.proofs.Common.{refl}
use Rattle.svc_generations.proofs.ServingLemmas.{given_serving, given_open, same_open}
use Rattle.svc_generations.proofs.serving.Serving.give.Goals as goal

pub returns-in-Ok-clause-took : goal.returns-in-Ok-clause-took
returns-in-Ok-clause-took c =
    λ blocks before s. given_serving blocks before c.args.generation c.args.event _ _ _ _ s c.in-Ok.ensures.steps
    (rw c.as_slice.ensures at c.said_to-said.ensures) c.in-Ok.ensures.kept c.in-Ok.ensures.open refl refl

pub returns-in-Err-Early-clause-took : goal.returns-in-Err-Early-clause-took
returns-in-Err-Early-clause-took c = λ blocks before s.
    let cause = rw c.in-Err-Early.field-0-is at c.in-Err-Early.ensures.cause in
    record { refuses = (cause.1, cause.2); same = c.in-Err-Early.ensures.refused }

pub returns-in-Err-Stray-clause-took : goal.returns-in-Err-Stray-clause-took
returns-in-Err-Stray-clause-took c = λ blocks before s.
    let cause = rw c.in-Err-Stray.field-0-is at c.in-Err-Stray.ensures.cause in
    record { refuses = (cause.1, cause.2, cause.3); same = c.in-Err-Stray.ensures.refused }

pub returns-in-Ok-clause-open : goal.returns-in-Ok-clause-open
returns-in-Ok-clause-open c = given_open c.args.generation c.args.event _ _ c.args.self.now _ c.requires.open c.in-Ok.ensures.steps c.in-Ok.ensures.open refl

pub returns-in-Err-Early-clause-open : goal.returns-in-Err-Early-clause-open
returns-in-Err-Early-clause-open c = same_open c.args.self.now _ c.requires.open refl c.in-Err-Early.ensures.refused

pub returns-in-Err-Stray-clause-open : goal.returns-in-Err-Stray-clause-open
returns-in-Err-Stray-clause-open c = same_open c.args.self.now _ c.requires.open refl c.in-Err-Stray.ensures.refused
