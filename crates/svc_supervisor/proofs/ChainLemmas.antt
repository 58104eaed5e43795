-- What a chain keeps: as it begins, as one more generation is launched, as one takes an event, and as all are closed.
use Rattle.std.proofs.Common.{Bool, true, false, List, [], ◌∷◌, ◌++◌, ◌≡◌, refl, ap, sym, ◌∙◌, subst, arith, length, map, ◌+◌}
use Rattle.std.proofs.lemmas.List.{length-append}
use Rattle.svc_base.proofs.Logic.{clash}
use Rattle.svc_record.specs.declared.plan.Plan.{Plan}
use Rattle.svc_supervisor.specs.declared.generation.Generation.{Generation}
use Rattle.svc_supervisor.specs.ChainData.{GenerationData, ChainData}
use Rattle.svc_supervisor.specs.Chains.{MayBegin, BeginsChain, Launches}
use Rattle.svc_supervisor.specs.Kept.{ChainKept}
use Rattle.svc_supervisor.specs.Generations.{Begins, Linked, IsChain, MayLaunch, data_of, chain_of}
use Rattle.svc_supervisor.proofs.GenerationLemmas.{begun}
use Rattle.svc_supervisor.proofs.LinkedLemmas.{linked-first, chain-kept}
use Rattle.svc_supervisor.proofs.PlaceLemmas.{begins-own, data-length, launches-at, linked-more}

-- one generation alone
first-linked : (p : Plan) (g : Generation) (gs : List Generation) → Begins p g → gs ≡ g ∷ [] → Linked gs
first-linked p g gs b is = subst Linked (sym is) (linked-first g (begins-own p g b))

pub first-chain : (p : Plan) (g : Generation) (gs : List Generation) → Begins p g → gs ≡ g ∷ [] → IsChain gs false
first-chain p g gs b is =
    let one : length gs ≡ 1 = ap (λ (xs : List Generation). length xs) is in
    record { some = omega arith; few = omega arith; linked = λ _. first-linked p g gs b is }

pub first-begins : (p : Plan) (g : Generation) (gs : List Generation) → Begins p g → MayBegin false p → gs ≡ g ∷ [] → BeginsChain p (map data_of gs)
first-begins p g gs b may is = record { first = data_of g; begun = begun p g b; may = may; alone = ap (map data_of) is }

pub first-kept : (p : Plan) (g : Generation) (gs : List Generation) → Begins p g → gs ≡ g ∷ [] → ChainKept (map data_of gs)
first-kept p g gs b is = chain-kept gs (first-linked p g gs b is)

-- what holds of a chain that isn't finished
pub kept-open : (gs : List Generation) (finished : Bool) → IsChain gs finished → finished ≡ false → ChainKept (map data_of gs)
kept-open gs finished c unfinished = chain-kept gs (c.linked unfinished)

-- one generation more
pub launched-chain : (gs new : List Generation) (finished : Bool) (p : Plan) (g : Generation) → IsChain gs finished → finished ≡ false → MayLaunch gs p g
    → new ≡ gs ++ g ∷ [] → IsChain new finished
launched-chain gs new finished p g c unfinished m is =
    let more : length new ≡ length gs + 1 = ap (λ (xs : List Generation). length xs) is ∙ length-append gs (g ∷ []) in
    let few = m.few in
    record { some = omega arith; few = omega arith; linked = λ o. subst Linked (sym is) (linked-more gs p g m (c.linked o)) }

pub launched-to : (gs new : List Generation) (finished : Bool) (p : Plan) (g : Generation) → IsChain gs finished → finished ≡ false → MayLaunch gs p g
    → new ≡ gs ++ g ∷ [] → Launches (map data_of gs) (map data_of new) p
launched-to gs new finished p g c unfinished m is =
    subst (λ (xs : List Generation). Launches (map data_of gs) (map data_of xs) p) (sym is) (launches-at gs p g m (c.linked unfinished))

-- as many generations, which stay linked
pub stepped-chain : (gs new : List Generation) (finished : Bool) → IsChain gs finished → length new ≡ length gs → (Linked gs → Linked new)
    → IsChain new finished
stepped-chain gs new finished c same linked =
    let some = c.some in let few = c.few in record { some = omega arith; few = omega arith; linked = λ o. linked (c.linked o) }

-- all that was open is closed
pub finished-chain : (gs new : List Generation) (finished : Bool) → IsChain gs finished → length new ≡ length gs → IsChain new true
finished-chain gs new finished c same =
    let some = c.some in let few = c.few in record { some = omega arith; few = omega arith; linked = λ o. absurd (clash true refl o) }

-- ---- as contracts see it

-- a chain that isn't finished
pub open-now : (gs : List Generation) (finished : Bool) (v : ChainData) → chain_of gs finished ≡ v → v.finished ≡ false → finished ≡ false
open-now gs finished v e unfinished = ap (λ (c : ChainData). c.finished) e ∙ unfinished

pub kept-now : (gs : List Generation) (finished : Bool) (v : ChainData) → chain_of gs finished ≡ v → IsChain gs finished → v.finished ≡ false
    → ChainKept v.generations
kept-now gs finished v e c unfinished = subst (λ (x : ChainData). ChainKept x.generations) e (kept-open gs finished c (open-now gs finished v e unfinished))

pub count-now : (gs : List Generation) (finished : Bool) (v : ChainData) → chain_of gs finished ≡ v → length gs ≡ length v.generations
count-now gs finished v e = sym (data-length gs) ∙ ap (λ (x : ChainData). length x.generations) e

-- what is said of its generations, where they are linked
pub said-now : (P : List GenerationData → Type 0) (gs : List Generation) (finished : Bool) (v : ChainData) → chain_of gs finished ≡ v → IsChain gs finished
    → v.finished ≡ false → (Linked gs → P (map data_of gs)) → P v.generations
said-now P gs finished v e c unfinished h = subst (λ (x : ChainData). P x.generations) e (h (c.linked (open-now gs finished v e unfinished)))

-- it is as it was
pub same-now : (gs new : List Generation) (finished : Bool) (v : ChainData) → chain_of gs finished ≡ v → map data_of new ≡ map data_of gs
    → chain_of new finished ≡ v
same-now gs new finished v e same = ap (λ (ds : List GenerationData). record { generations = ds; finished = finished }) same ∙ e

-- a generation more found no memory
pub kept-chain : (gs new : List Generation) (finished : Bool) → IsChain gs finished → new ≡ gs → IsChain new finished
kept-chain gs new finished c is = subst (λ (xs : List Generation). IsChain xs finished) (sym is) c
