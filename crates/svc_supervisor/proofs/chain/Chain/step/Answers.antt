use Rattle.std.proofs.Common.{◌≡◌, List, length, map, refl, sym, ap, subst, ◌∙◌, arith, Some}
use Rattle.std.specs.Vec.{with_items}
use Rattle.std.proofs.lemmas.List.{with_items_is}
use Rattle.svc_supervisor.specs.declared.generation.Generation.{Generation}
use Rattle.svc_supervisor.specs.ChainData.{ChainData}
use Rattle.svc_supervisor.specs.Chains.{Steps}
use Rattle.svc_supervisor.specs.Refusals.{IsStepRefusal}
use Rattle.svc_supervisor.specs.Generations.{Linked, data_of}
use Rattle.svc_supervisor.proofs.ChainLemmas.{open-now, kept-now, said-now, same-now, stepped-chain, kept-open}
use Rattle.svc_supervisor.proofs.chain.Chain.step.Goals as goal
use Rattle.svc_supervisor.proofs.chain.Chain.step.Goals.{in-Ok-take_at, in-Err-take_at}

pub same-self : goal.same-self
same-self c = refl

pub returns-in-Err-clause-steps : goal.returns-in-Err-clause-steps
returns-in-Err-clause-steps c = tt

pub returns-in-Err-clause-open : goal.returns-in-Err-clause-open
returns-in-Err-clause-open c = c.requires.open

pub returns-in-Err-clause-kept : goal.returns-in-Err-clause-kept
returns-in-Err-clause-kept c = kept-now c.self.inside.generations.items c.self.inside.finished c.args.self.now c.self.view_is c.self.invariant c.requires.open

pub returns-in-Err-clause-cause : goal.returns-in-Err-clause-cause
returns-in-Err-clause-cause c =
    said-now (λ ds. IsStepRefusal ds c.args.generation c.args.event c.in-Err.refused) c.self.inside.generations.items c.self.inside.finished c.args.self.now
    c.self.view_is c.self.invariant c.requires.open
    (rw c.as_slice.ensures.value at c.in-Err.ensures.cause)

pub returns-in-Err-clause-refused : goal.returns-in-Err-clause-refused
returns-in-Err-clause-refused c = refl

pub take_at-requires : goal.take_at-requires
take_at-requires c = record { may = rw c.as_mut_slice.ensures.value (rw c.as_slice.ensures.value at c.in-Ok.ensures.may) }

pub invariant_of-self : goal.invariant_of-self
invariant_of-self c =
    let gs = c.self.inside.generations.items in
    let same = with_items_is c.self.inside.generations c.take_at.new.generations (omega arith) in
    let count : length c.take_at.new.generations ≡ length gs = omega (arith, ap length c.as_mut_slice.ensures.value) in
    let linked : Linked gs → Linked c.take_at.new.generations = rw c.as_mut_slice.ensures.value at c.take_at.ensures.linked in
    stepped-chain gs _ c.self.inside.finished c.self.invariant (ap length same ∙ count) (λ l. subst Linked (sym same) (linked l))

pub returns-clause-steps : goal.returns-clause-steps
returns-clause-steps c =
    let gs = c.self.inside.generations.items in
    let same = with_items_is c.self.inside.generations c.take_at.new.generations (omega arith) in
    let linked = c.self.invariant.linked (open-now gs c.self.inside.finished c.args.self.now c.self.view_is c.requires.open) in
    elim c.match-take_at.branch [
      | in-Ok-take_at w ↦ rw w.result-is (
          let took : Steps (map data_of gs) (map data_of c.take_at.new.generations) c.args.generation c.in-Ok.event c.args.said w.in-Ok-take_at.end =
          (rw c.as_mut_slice.ensures.value at w.in-Ok-take_at.ensures.takes) linked in
          let event = c.in-Ok.ensures.back in
          subst (λ (x : ChainData). Steps x.generations
          (map data_of (with_items c.self.inside.generations c.take_at.new.generations).items) c.args.generation c.args.event c.args.said
          w.in-Ok-take_at.end) c.self.view_is
          (subst (λ (xs : List Generation). Steps (map data_of gs) (map data_of xs) c.args.generation c.args.event c.args.said w.in-Ok-take_at.end) (sym same)
          (rw event at took)))
      | in-Err-take_at w ↦ rw w.result-is tt
    ]

pub returns-clause-open : goal.returns-clause-open
returns-clause-open c = open-now c.self.inside.generations.items c.self.inside.finished c.args.self.now c.self.view_is c.requires.open

pub returns-clause-kept : goal.returns-clause-kept
returns-clause-kept c =
    kept-open _ c.self.inside.finished (invariant_of-self c)
    (open-now c.self.inside.generations.items c.self.inside.finished c.args.self.now c.self.view_is c.requires.open)

pub returns-clause-cause : goal.returns-clause-cause
returns-clause-cause c = elim c.match-take_at.branch [
  | in-Ok-take_at w ↦ rw w.result-is tt
  | in-Err-take_at w ↦ rw w.result-is (ap (λ e. Some e) (w.in-Err-take_at.ensures.back ∙ c.in-Ok.ensures.back))
]

pub returns-clause-refused : goal.returns-clause-refused
returns-clause-refused c = elim c.match-take_at.branch [
  | in-Ok-take_at w ↦ rw w.result-is tt
  | in-Err-take_at w ↦ rw w.result-is (
      let same = with_items_is c.self.inside.generations c.take_at.new.generations (omega arith) in
      same-now c.self.inside.generations.items _ c.self.inside.finished c.args.self.now c.self.view_is
      (ap (map data_of) same ∙ rw c.as_mut_slice.ensures.value at w.in-Err-take_at.ensures.same))
]
