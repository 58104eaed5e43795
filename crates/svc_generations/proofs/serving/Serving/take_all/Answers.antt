use Rattle.std.proofs.Common.{◌≡◌, ◌<◌, ◌≤◌, Some, ap, sym, ◌∙◌, length, arith}
use Rattle.std.specs.Prelude.{slice_get}
use Rattle.svc_generations.specs.declared.steps.Step.{Step}
use Rattle.svc_supervisor.specs.ChainData.{ChainData}
use Rattle.std.proofs.lemmas.Option.{slice_get-get_or}
use Rattle.svc_generations.proofs.ServingLemmas.{stops_at, all_taken}
use Rattle.svc_generations.proofs.serving.Serving.take_all.Goals as goal

pub returns-in-Some-clause-ends : goal.returns-in-Some-clause-ends
returns-in-Some-clause-ends c = λ blocks s.
    let inside : c.loop-k.k < length c.args.steps.now = (let test = c.loop-k-test.true in omega arith) in
    let refused = rw c.in-Some.is at (c.in_ok-refusal.ensures.took blocks _ (c.loop-k.invariant.serving blocks s)) in
    let here : slice_get c.args.steps.now c.loop-k.k ≡ Some c.index-steps-k.result =
    slice_get-get_or c.args.steps.now c.loop-k.k c.index-steps-k.result inside ∙ ap (λ (step : Step). Some step) (sym c.index-steps-k.is) in
    stops_at blocks c.args.steps.now c.loop-k.k c.index-steps-k.result c.in-Some.refusal _ _ (c.loop-k.invariant.serving blocks s) here refused.refuses
    (ap (λ (chain : ChainData). chain.generations) refused.same)

pub returns-clause-ends : goal.returns-clause-ends
returns-clause-ends c = λ blocks s.
    let over : length c.args.steps.now ≤ c.loop-k.k = (let test = c.loop-k-test.false in omega arith) in
    all_taken blocks c.args.steps.now c.loop-k.k c.loop-k.self (c.loop-k.invariant.serving blocks s) over
