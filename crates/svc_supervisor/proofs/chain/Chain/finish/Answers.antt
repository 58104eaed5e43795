use Rattle.std.proofs.Common.{◌≡◌, true, List, length, map, ap, subst, ◌∙◌, arith}
use Rattle.std.proofs.lemmas.List.{with_items_is}
use Rattle.svc_supervisor.specs.ChainData.{GenerationData, ChainData}
use Rattle.svc_supervisor.specs.Chains.{closed, AreClosed}
use Rattle.svc_supervisor.specs.Generations.{data_of}
use Rattle.svc_supervisor.proofs.LinkedLemmas.{each-stands}
use Rattle.svc_supervisor.proofs.ChainLemmas.{open-now, finished-chain}
use Rattle.svc_supervisor.proofs.chain.Chain.finish.Goals as goal

pub close_each-requires : goal.close_each-requires
close_each-requires c =
    let linked = c.self.invariant.linked (open-now c.self.inside.generations.items c.self.inside.finished c.args.self.now c.self.view_is c.requires.open) in
    record { stand = rw c.as_mut_slice.ensures.value (each-stands c.self.inside.generations.items linked) }

pub invariant_of-self : goal.invariant_of-self
invariant_of-self c =
    let same = with_items_is c.self.inside.generations c.close_each.new.generations (omega arith) in
    let count : length c.close_each.new.generations ≡ length c.self.inside.generations.items = omega (arith, ap length c.as_mut_slice.ensures.value) in
    finished-chain c.self.inside.generations.items _ c.self.inside.finished c.self.invariant (ap length same ∙ count)

pub returns-clause-finished : goal.returns-clause-finished
returns-clause-finished c =
    let same = with_items_is c.self.inside.generations c.close_each.new.generations (omega arith) in
    let all : map data_of c.close_each.new.generations ≡ map closed (map data_of c.self.inside.generations.items) =
    rw c.as_mut_slice.ensures.value at c.close_each.ensures.closed in
    ap (λ (ds : List GenerationData). record { generations = ds; finished = true })
    (ap (map data_of) same ∙ all ∙ ap (λ (x : ChainData). map closed x.generations) c.self.view_is)

pub returns-clause-closed : goal.returns-clause-closed
returns-clause-closed c = subst (λ (x : ChainData). AreClosed x.generations) c.self.view_is (rw c.as_mut_slice.ensures.value at c.close_each.ensures.whole)
