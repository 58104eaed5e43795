-- What a core keeps between two steps, by the part that an event changes.
use Rattle.std.proofs.Common.{ℕ, Bool, true, List, ◌≡◌, ap, sym, ◌∙◌, subst, arith, ◌<◌, length}
use Rattle.svc_graph.specs.WaitingData.{WaitingData}
use Rattle.svc_record.specs.declared.plan.Plan.{Plan}
use Rattle.svc_record.specs.Plans.{service_count}
use Rattle.svc_endpoints.specs.EndpointsData.{EndpointsData}
use Rattle.svc_endpoints.specs.EndpointsState.{IsEndpointsSized}
use Rattle.svc_endpoints.specs.Stays.{FailsOnly, StaysHeld, StaysUnheld, OthersStay, GainsNone}
use Rattle.svc_boot.specs.BootData.{BootData}
use Rattle.svc_core.specs.CoreData.{CoreData, IsFormed}
use Rattle.svc_core.specs.StartsData.{StartsData}
use Rattle.svc_core.specs.StartsState.{IsStartsSized, is_flagged, word_taken, end_taken}
use Rattle.svc_core.specs.WaitsData.{WaitsData}
use Rattle.svc_core.specs.WaitsState.{IsMarked, IsKept, IsWatched, MarksIf, Reopens}
use Rattle.svc_core.proofs.WaitsLemmas.{marked-late, watched-answer, watched-end, watched-same, watched-word}

-- a service of the core's plan is one of the plan that it had
pub inside-of : {old now : CoreData} (s : ℕ) → old ≡ now → s < service_count now.plan → s < service_count old.plan
inside-of s is inside = subst (λ (core : CoreData). s < service_count core.plan) (sym is) inside

-- each service of the plan is counted, and whether each has failed is known
pub counted : {p : Plan} {order : List ℕ} {st : StartsData} {d : EndpointsData} {w : WaitsData} {counts : WaitingData} (s : ℕ)
    → IsWatched p order st d w → counts ≡ w.counts → s < service_count p → s < length counts.marks
counted s watched same inside = let count = ap (λ (c : WaitingData). length c.marks) same ∙ watched.count in omega arith

pub counted-flags : {p : Plan} {order : List ℕ} {st : StartsData} {d d' : EndpointsData} {w : WaitsData} {counts : WaitingData} {flags : List Bool}
    → IsWatched p order st d w → counts ≡ w.counts → IsEndpointsSized p d' → flags ≡ d'.failed → length flags ≡ length counts.marks
counted-flags watched same sized failed =
    let count = ap (λ (c : WaitingData). length c.marks) same ∙ watched.count in
    let flags = ap (λ (f : List Bool). length f) failed in
    let all = sized.failed in
    omega arith

-- the parts fit the plan still
with-starts : {p : Plan} {order : List ℕ} {st st' : StartsData} {d : EndpointsData} → IsFormed p order st d → IsStartsSized p st' → IsFormed p order st' d
with-starts formed sized = record {
  valid = formed.valid;
  in_order = formed.in_order;
  least = formed.least;
  starts = sized;
  endpoints = formed.endpoints;
}

with-endpoints : {p : Plan} {order : List ℕ} {st : StartsData} {d d' : EndpointsData} → IsFormed p order st d → IsEndpointsSized p d' → IsFormed p order st d'
with-endpoints formed sized = record {
  valid = formed.valid;
  in_order = formed.in_order;
  least = formed.least;
  starts = formed.starts;
  endpoints = sized;
}

-- bootstrapping that was complete is
pub kept-boot : {p : Plan} {order : List ℕ} {st : StartsData} {d : EndpointsData} {w : WaitsData} {now after : BootData} (was : BootData) → now ≡ after
    → (was.complete ≡ true → after.complete ≡ true) → IsKept p order st d was.complete w → IsKept p order st d now.complete w
kept-boot was is more kept = record {
  formed = kept.formed;
  watched = kept.watched;
  late = λ on. ap (λ (b : BootData). b.complete) is ∙ more (kept.late on);
}

-- nothing but memory was taken
pub kept-parts : {p : Plan} {order : List ℕ} {st : StartsData} {d d' : EndpointsData} {complete : Bool} {w : WaitsData} → d' ≡ d
    → IsKept p order st d complete w → IsKept p order st d' complete w
kept-parts {p = p} {order = order} {st = st} {complete = complete} {w = w} same kept =
    subst (λ (parts : EndpointsData). IsKept p order st parts complete w) (sym same) kept

-- descriptors were closed
pub kept-closed : {p : Plan} {order : List ℕ} {st : StartsData} {d d' : EndpointsData} {complete : Bool} {w : WaitsData} → IsKept p order st d complete w
    → IsEndpointsSized p d' → d'.rows ≡ d.rows → d'.failed ≡ d.failed → GainsNone d d' → IsKept p order st d' complete w
kept-closed kept sized rows failed gains = record {
  formed = with-endpoints kept.formed sized;
  watched = watched-same _ _ _ _ _ _ rows failed gains kept.watched;
  late = kept.late;
}

-- the service's word came, or its work ended: the service is marked
kept_marked : {p : Plan} {order : List ℕ} {st st' : StartsData} {d : EndpointsData} {complete : Bool} {u w : WaitsData} {s : ℕ} → IsKept p order st d complete u
    → IsStartsSized p st' → IsMarked order s u w → IsWatched p order st' d w → IsKept p order st' d complete w
kept_marked kept sized marked watched = record {
  formed = with-starts kept.formed sized;
  watched = watched;
  late = λ on. kept.late (sym marked.complete ∙ on);
}

pub kept-word : {p : Plan} {order seen : List ℕ} {st st' : StartsData} {d : EndpointsData} {complete : Bool} {u w : WaitsData} {s : ℕ}
    → IsKept p order st d complete u → s < service_count p → IsStartsSized p st' → st' ≡ word_taken s st → seen ≡ order → IsMarked seen s u w
    → IsKept p order st' d complete w
kept-word {p = p} {order = order} {d = d} {u = u} {w = w} {s = s} kept inside sized word is marked =
    let here = subst (λ (o : List ℕ). IsMarked o s u w) is marked in
    kept_marked kept sized here (subst (λ (st : StartsData). IsWatched p order st d w) (sym word)
    (watched-word _ _ _ _ s _ _ inside kept.formed.starts here kept.watched))

pub kept-end : {p : Plan} {order seen : List ℕ} {st st' : StartsData} {d : EndpointsData} {complete : Bool} {u w : WaitsData} {s : ℕ}
    → IsKept p order st d complete u → s < service_count p → IsStartsSized p st' → st' ≡ end_taken s st → seen ≡ order → IsMarked seen s u w
    → IsKept p order st' d complete w
kept-end {p = p} {order = order} {d = d} {u = u} {w = w} {s = s} kept inside sized end is marked =
    let here = subst (λ (o : List ℕ). IsMarked o s u w) is marked in
    kept_marked kept sized here (subst (λ (st : StartsData). IsWatched p order st d w) (sym end)
    (watched-end _ _ _ _ s _ _ inside kept.formed.starts here kept.watched))

-- an ask of the service had an answer, by which it may have failed: its place is open again, and where it failed it is marked
pub kept-answer : {p : Plan} {order seen again : List ℕ} {st : StartsData} {d d' : EndpointsData} {complete : Bool} {u w v : WaitsData} {flags : List Bool}
    {s : ℕ} → IsKept p order st d complete u → s < service_count p → IsEndpointsSized p d' → FailsOnly s d.failed d'.failed → StaysHeld d d'
    → StaysUnheld d d' → GainsNone d d' → OthersStay s d d' → seen ≡ order → Reopens seen s u w → flags ≡ d'.failed → again ≡ order
    → MarksIf (is_flagged flags s) again s w v → IsKept p order st d' complete v
kept-answer {order = order} {again = again} {d' = d'} {u = u} {w = w} {v = v} {s = s} kept inside sized fails held unheld gains others is reopened failed
    again_is marks =
    let open_again = subst (λ (o : List ℕ). Reopens o s u w) is reopened in
    let failed_so = subst (λ (f : List Bool). MarksIf (is_flagged f s) again s w v) failed marks in
    let marked = subst (λ (o : List ℕ). MarksIf (is_flagged d'.failed s) o s w v) again_is failed_so in
    record {
      formed = with-endpoints kept.formed sized;
      watched = watched-answer _ _ _ _ _ s u w v inside kept.formed.endpoints fails held unheld gains others open_again marked kept.watched;
      late = λ on. kept.late (sym open_again.complete ∙ sym (marked-late order s w v (is_flagged d'.failed s) marked) ∙ on);
    }
