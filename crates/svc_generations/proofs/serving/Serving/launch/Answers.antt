use Rattle.std.proofs.Common.{refl}
use Rattle.svc_generations.proofs.ServingLemmas.{launched_serving, none_left, some_left, launched_open, refused_open, same_open}
use Rattle.svc_generations.proofs.serving.Serving.launch.Goals as goal

pub returns-in_default-clause-took : goal.returns-in_default-clause-took
returns-in_default-clause-took c = λ blocks before s. record { refuses = none_left blocks before _ s (c.in_default.ensures.none refl); same = refl }

pub returns-in-Ok-clause-took : goal.returns-in-Ok-clause-took
returns-in-Ok-clause-took c =
    λ blocks before s. launched_serving blocks before c.in-Some.plan _ _ s c.in-Some.ensures.items c.in-Ok.ensures.launched c.in-Ok.ensures.kept
    c.in-Ok.ensures.open refl

pub returns-in-Err-NotReady-clause-took : goal.returns-in-Err-NotReady-clause-took
returns-in-Err-NotReady-clause-took c = λ blocks before s.
    let cause = rw c.in-Err-NotReady.field-0-is at c.in-Err-NotReady.ensures.cause in
    record { refuses = (some_left blocks before c.in-Some.plan _ _ s c.in-Some.ensures.items, cause.3); same = c.in-Err-NotReady.ensures.refused }

pub returns-in_default-clause-open : goal.returns-in_default-clause-open
returns-in_default-clause-open c = same_open c.args.self.now _ c.requires.open c.in_default.ensures.items refl

pub returns-in-Ok-clause-open : goal.returns-in-Ok-clause-open
returns-in-Ok-clause-open c =
    launched_open c.in-Some.plan c.args.self.now _ c.requires.open c.in-Some.ensures.items c.in-Ok.ensures.launched c.in-Ok.ensures.open

pub returns-in-Err-NotReady-clause-open : goal.returns-in-Err-NotReady-clause-open
returns-in-Err-NotReady-clause-open c = refused_open c.in-Some.plan c.args.self.now _ c.requires.open c.in-Some.ensures.items c.in-Err-NotReady.ensures.refused
