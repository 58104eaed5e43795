use Rattle.std.proofs.Common.{ℕ, ◌≡◌, List, ap, sym, ◌∙◌, subst, get_or, map, set}
use Rattle.std.proofs.lemmas.List.{set-get_or}
use Rattle.std.proofs.lemmas.Option.{slice_get-get_or}
use Rattle.svc_record.specs.declared.action.StepEnd.{StepEnd}
use Rattle.svc_supervisor.specs.declared.generation.Generation.{Generation}
use Rattle.svc_supervisor.specs.Chains.{Steps}
use Rattle.svc_supervisor.specs.Generations.{Takes, Linked, data_of}
use Rattle.svc_supervisor.proofs.PlaceLemmas.{either-way, ok-then, err-then, linked-at, steps-at}
use Rattle.svc_supervisor.proofs.places.take_at.Goals as goal

-- where the one at a place is as it was, all are
unchanged : (gs : List Generation) (k : ℕ) (d next : Generation) → next ≡ get_or gs k d → set gs k next ≡ gs
unchanged gs k d next same = ap (set gs k) same ∙ set-get_or gs k d

pub returns-clause-linked : goal.returns-clause-linked
returns-clause-linked c l =
    let gs = c.args.generations.now in
    let k = c.args.index in
    let d = c.index-generations-index.result in
    let next = c.take.new.self in
    either-way c.take.result (λ (end : StepEnd). Takes (get_or gs k d) next c.args.event c.args.said end) (next ≡ get_or gs k d)
    (Linked (set gs k next)) c.take.ensures.takes c.take.ensures.refused
    (λ end t. linked-at gs k (get_or gs k d) next c.args.event c.args.said end (slice_get-get_or gs k d c.requires.may.inside) c.requires.may t l)
    (λ same. subst Linked (sym (unchanged gs k d next same)) l)

pub returns-clause-takes : goal.returns-clause-takes
returns-clause-takes c =
    let gs = c.args.generations.now in
    let k = c.args.index in
    let d = c.index-generations-index.result in
    let here = slice_get-get_or gs k d c.requires.may.inside in
    let next = c.take.new.self in
    ok-then c.take.result (λ (end : StepEnd). Takes (get_or gs k d) next c.args.event c.args.said end)
    (λ (end : StepEnd). Linked gs → Steps (map data_of gs) (map data_of (set gs k next)) k c.args.event c.args.said end) c.take.ensures.takes
    (λ end t l. steps-at gs k (get_or gs k d) next c.args.event c.args.said end here c.requires.may t l)

pub returns-clause-same : goal.returns-clause-same
returns-clause-same c =
    let gs = c.args.generations.now in
    let k = c.args.index in
    let d = c.index-generations-index.result in
    let next = c.take.new.self in
    err-then c.take.result (next ≡ get_or gs k d) (map data_of (set gs k next) ≡ map data_of gs) c.take.ensures.refused
    (λ same. ap (map data_of) (unchanged gs k d next same))
