use Rattle.std.proofs.Common.{◌≡◌, ◌+◌, ◌<◌, length, [], ◌∷◌, ◌++◌, Some, refl, arith, length-append}
use Rattle.svc_streams.proofs.EventLemmas.{next_call, turns-more, turns-end, turns-spent}
use Rattle.svc_streams.proofs.apps.handle_event.Goals as goal

pub loop-init : goal.loop-init
loop-init g c = ([], (record { hands_on = refl; come = λ one. absurd (omega (arith, one)); go_on = λ _ h. h }, refl))

pub loop-preserved : goal.loop-preserved
loop-preserved g c =
    let calls = c.loop.invariant.0 in
    let many : length (calls ++ next_call c.loop.event c.args.shutdown (Some c.in-Some.back) ∷ []) ≡ length calls + 1 = length-append calls _ in
    let e : length calls ≡ c.loop.counter = c.loop.invariant.1.1 in
    (_, (turns-more _ _ _ _ _ _ _ _ calls c.loop.invariant.1.0 (c.in-Some.ensures), omega (arith, many, e)))

pub returns-in-None : goal.returns-in-None
returns-in-None g c =
    let calls = c.loop.invariant.0 in
    let e : length calls ≡ c.loop.counter = c.loop.invariant.1.1 in
    let lt : length calls < c.args.turns = omega (arith, e) in
    (_, turns-end _ _ _ _ _ _ _ calls c.args.turns c.loop.invariant.1.0 (c.in-None.ensures) lt)

pub returns : goal.returns
returns g c =
    let calls = c.loop.invariant.0 in
    let e : length calls ≡ c.loop.counter = c.loop.invariant.1.1 in
    let all : length calls ≡ c.args.turns = omega (arith, e) in
    (calls, turns-spent _ _ _ _ _ _ calls c.args.turns c.loop.invariant.1.0 all c.requires)
