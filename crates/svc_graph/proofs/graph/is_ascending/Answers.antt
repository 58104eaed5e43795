use Rattle.std.proofs.Common.{arith, inl, inr, ◌≡◌, ◌<◌, ◌+◌, ◌-◌, subst, slice_index}
use Rattle.std.proofs.lemmas.Bool.{cases_lt}
use Rattle.svc_graph.proofs.graph.is_ascending.Goals as goal

pub loop-k-init : goal.loop-k-init
loop-k-init c = λ j lt. absurd (omega arith)

pub loop-k-preserved : goal.loop-k-preserved
loop-k-preserved c = λ j lt.
    elim (cases_lt (j + 1) c.loop-k.k) [
      | inl below ↦ c.loop-k.invariant j below
      | inr at ↦ (let next : c.loop-k.k ≡ j + 1 = omega arith in
          let last : c.loop-k.k - 1 ≡ j = omega arith in
          subst (λ m. slice_index c.args.numbers.now j < slice_index c.args.numbers.now m) next
          (subst (λ m. slice_index c.args.numbers.now m < slice_index c.args.numbers.now c.loop-k.k) last c.if-numbers-k.false))
    ]

pub returns : goal.returns
returns c = λ _ j lt. c.loop-k.invariant j (omega arith)
