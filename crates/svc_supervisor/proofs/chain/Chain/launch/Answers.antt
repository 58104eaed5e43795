use Rattle.std.proofs.Common.{map, refl, ap, subst, arith}
use Rattle.svc_supervisor.specs.ChainData.{ChainData}
use Rattle.svc_supervisor.specs.Chains.{Launches}
use Rattle.svc_supervisor.specs.Refusals.{IsLaunchRefusal}
use Rattle.svc_supervisor.specs.Generations.{data_of}
use Rattle.svc_supervisor.proofs.ChainLemmas.{open-now, kept-now, count-now, said-now, same-now, launched-chain, launched-to, kept-open, kept-chain}
use Rattle.svc_supervisor.proofs.chain.Chain.launch.Goals as goal
use Rattle.svc_supervisor.proofs.chain.Chain.launch.Goals.{in-Ok-push, in-Err-push}

pub overflow_cast-number : goal.overflow_cast-number
overflow_cast-number c = let few = c.self.invariant.few in omega arith

pub next_generation-requires-clause-some : goal.next_generation-requires-clause-some
next_generation-requires-clause-some c = let some = c.self.invariant.some in rw c.as_slice.ensures.value some

pub next_generation-requires-clause-few : goal.next_generation-requires-clause-few
next_generation-requires-clause-few c = let few = c.self.invariant.few in rw c.as_slice.ensures.value few

pub same-self : goal.same-self
same-self c = refl

pub returns-in-Err-clause-launched : goal.returns-in-Err-clause-launched
returns-in-Err-clause-launched c = tt

pub returns-in-Err-clause-number : goal.returns-in-Err-clause-number
returns-in-Err-clause-number c = tt

pub returns-in-Err-clause-open : goal.returns-in-Err-clause-open
returns-in-Err-clause-open c = c.requires.open

pub returns-in-Err-clause-kept : goal.returns-in-Err-clause-kept
returns-in-Err-clause-kept c = kept-now c.self.inside.generations.items c.self.inside.finished c.args.self.now c.self.view_is c.self.invariant c.requires.open

pub returns-in-Err-clause-cause : goal.returns-in-Err-clause-cause
returns-in-Err-clause-cause c =
    said-now (λ ds. IsLaunchRefusal ds c.args.plan c.in-Err.refused) c.self.inside.generations.items c.self.inside.finished c.args.self.now c.self.view_is
    c.self.invariant c.requires.open (rw c.as_slice.ensures.value at c.in-Err.ensures.cause)

pub returns-in-Err-clause-refused : goal.returns-in-Err-clause-refused
returns-in-Err-clause-refused c = refl

pub invariant_of-self : goal.invariant_of-self
invariant_of-self c =
    let gs = c.self.inside.generations.items in
    let going = open-now gs c.self.inside.finished c.args.self.now c.self.view_is c.requires.open in
    elim c.match-push.branch [
      | in-Ok-push w ↦
          launched-chain gs c.push.new.self.items c.self.inside.finished c.args.plan c.in-Ok.generation c.self.invariant going
          (rw c.as_slice.ensures.value at c.in-Ok.ensures.may) w.in-Ok-push.ensures.items
      | in-Err-push w ↦ kept-chain gs c.push.new.self.items c.self.inside.finished c.self.invariant w.in-Err-push.ensures.items
    ]

pub returns-clause-launched : goal.returns-clause-launched
returns-clause-launched c =
    let gs = c.self.inside.generations.items in
    let going = open-now gs c.self.inside.finished c.args.self.now c.self.view_is c.requires.open in
    elim c.match-push.branch [
      | in-Ok-push w ↦ rw w.result-is (subst (λ (x : ChainData). Launches x.generations (map data_of c.push.new.self.items) c.args.plan) c.self.view_is
          (launched-to gs c.push.new.self.items c.self.inside.finished c.args.plan c.in-Ok.generation c.self.invariant going
          (rw c.as_slice.ensures.value at c.in-Ok.ensures.may) w.in-Ok-push.ensures.items))
      | in-Err-push w ↦ rw w.result-is tt
    ]

pub returns-clause-number : goal.returns-clause-number
returns-clause-number c = elim c.match-push.branch [
  | in-Ok-push w ↦ rw w.result-is (let same = count-now c.self.inside.generations.items c.self.inside.finished c.args.self.now c.self.view_is in omega arith)
  | in-Err-push w ↦ rw w.result-is tt
]

pub returns-clause-open : goal.returns-clause-open
returns-clause-open c = open-now c.self.inside.generations.items c.self.inside.finished c.args.self.now c.self.view_is c.requires.open

pub returns-clause-kept : goal.returns-clause-kept
returns-clause-kept c =
    let going = open-now c.self.inside.generations.items c.self.inside.finished c.args.self.now c.self.view_is c.requires.open in
    kept-open c.push.new.self.items c.self.inside.finished (invariant_of-self c) going

pub returns-clause-cause : goal.returns-clause-cause
returns-clause-cause c = elim c.match-push.branch [ in-Ok-push w ↦ rw w.result-is tt | in-Err-push w ↦ rw w.result-is refl ]

pub returns-clause-refused : goal.returns-clause-refused
returns-clause-refused c = elim c.match-push.branch [
  | in-Ok-push w ↦ rw w.result-is tt
  | in-Err-push w ↦
      rw w.result-is
      (same-now c.self.inside.generations.items c.push.new.self.items c.self.inside.finished c.args.self.now c.self.view_is
      (ap (map data_of) w.in-Err-push.ensures.items))
]
