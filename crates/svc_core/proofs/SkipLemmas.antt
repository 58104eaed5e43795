-- Services that a pass leaves out: a visit of them would tell nothing.
use Rattle.std.proofs.Common.{ℕ, zero, suc, Bool, true, false, ◌&&◌, not, ◌⊎◌, inl, inr, List, [], ◌≡◌, refl, sym, ◌∙◌, subst, append-nil, arith, ◌<◌, ◌≤◌, ◌+◌, ◌-◌, length, slice_index}
use Rattle.std.proofs.lemmas.Bool.{cases_Bool, cases_lt}
use Rattle.svc_base.proofs.Logic.{clash}
use Rattle.svc_record.specs.declared.plan.Plan.{Plan}
use Rattle.svc_record.specs.declared.action.Action.{Action}
use Rattle.svc_record.specs.Plans.{service_count}
use Rattle.svc_record.specs.Record.{Record, now}
use Rattle.svc_record.specs.Starts.{is_started}
use Rattle.svc_record.specs.Validity.{IsValid, IsInOrder}
use Rattle.svc_endpoints.specs.EndpointsData.{EndpointsData}
use Rattle.svc_endpoints.specs.EndpointsState.{IsEndpointsSized, EndpointsStand, failed_at}
use Rattle.svc_endpoints.specs.Rests.{HasAll, SharesWith}
use Rattle.svc_endpoints.specs.Visits.{Visited, busy_in}
use Rattle.svc_endpoints.proofs.VisitedLemmas.{visited-failed, visited-held, visited-asked, visited-shared}
use Rattle.svc_boot.specs.BootData.{BootData}
use Rattle.svc_drain.specs.DrainData.{DrainData}
use Rattle.svc_core.specs.StartsData.{StartsData}
use Rattle.svc_core.specs.StartsState.{IsStartsSized, is_flagged, starts_now, due_now}
use Rattle.svc_core.specs.WaitsData.{WaitsData}
use Rattle.svc_core.specs.WaitsState.{AsksNothing, Lacks, CountsPlan, IsIdle, StaysBusy, KnowsReady, IsKnown, is_open}
use Rattle.svc_core.specs.Passes.{Passes, is_tested}
use Rattle.svc_core.proofs.ParkedLemmas.{asking-busy}
use Rattle.svc_core.proofs.CountLemmas.{not-due}
use Rattle.svc_core.proofs.WaitsLemmas.{idle-on}
use Rattle.svc_core.proofs.PassLemmas.{wait-half, ask-whole, passes-none, passes-stay, passes-then}

started_not : (on due : Bool) → on ≡ true → (not on && due) ≡ false
started_not on due h = grind arith

due_not : (on due : Bool) → due ≡ false → (not on && due) ≡ false
due_not on due h = grind arith

-- the address of its first missing endpoint is kept busy at the moment
record IsKeptBusy (p : Plan) (d : EndpointsData) (s moment : ℕ) : Type 0 where
  by : ℕ
  inside : by < service_count p
  shares : SharesWith p d s by
  busy : busy_in d moment by shares.other ≡ true

-- a visit of the service tells nothing at the moment
abbrev TellsNothing : Plan → StartsData → EndpointsData → WaitsData → ℕ → ℕ → ℕ → Type 0
TellsNothing p st d w s k moment =
    ((is_flagged st.started s ≡ true) × AsksNothing p d s)
    ⊎ (((is_flagged st.started s ≡ false) × Lacks w s) ⊎ ((is_flagged st.started s ≡ true) × IsKeptBusy p d s moment))

-- an idle service isn't started
idle-waits : (p : Plan) (st : StartsData) (d : EndpointsData) (failed : List Bool) (complete : Bool) (w : WaitsData) (s k moment : ℕ)
    → s < service_count p → length w.counts.marks ≡ service_count p → CountsPlan p w → KnowsReady p st failed complete w → TellsNothing p st d w s k moment
    → starts_now p st failed complete s ≡ false
idle-waits p st d failed complete w s k moment inside count edges knows (inl done) = started_not (is_flagged st.started s)
    (due_now p st failed complete s) done.0
idle-waits p st d failed complete w s k moment inside count edges knows (inr (inl waits)) =
    due_not (is_flagged st.started s) (due_now p st failed complete s) (not-due p st failed complete w s inside count edges knows waits.1)
idle-waits p st d failed complete w s k moment inside count edges knows (inr (inr busy)) = started_not (is_flagged st.started s)
    (due_now p st failed complete s) busy.0

-- there is nothing to ask for a service that has failed, or each endpoint of which is held
has-visited : (p : Plan) (d : EndpointsData) (s : ℕ) (q : Record) → IsEndpointsSized p d → s < service_count p → EndpointsStand p d q → is_started q s ≡ true
    → HasAll p d s → Visited p d s q []
has-visited p d s q sized inside stand on (inl bad) = visited-failed p d s q sized stand inside on bad
has-visited p d s q sized inside stand on (inr all) = elim (cases_Bool (failed_at d s)) [
  | inl bad ↦ visited-failed p d s q sized stand inside on bad
  | inr free ↦ visited-held p d s q sized stand inside on free all
]

-- nor where an ask of it is open
nothing-visited : (p : Plan) (d : EndpointsData) (s : ℕ) (q : Record) → IsEndpointsSized p d → s < service_count p → EndpointsStand p d q
    → is_started q s ≡ true → AsksNothing p d s → Visited p d s q []
nothing-visited p d s q sized inside stand on (inl all) = has-visited p d s q sized inside stand on all
nothing-visited p d s q sized inside stand on (inr ask) = visited-asked p d s q sized stand inside on ask.at ask.within ask.asks

-- and its endpoints are as right as they can be
idle-visited : (p : Plan) (st : StartsData) (d : EndpointsData) (w : WaitsData) (s k moment : ℕ) (q : Record) → IsEndpointsSized p d → s < service_count p
    → is_flagged st.started s ≡ is_started q s → moment ≡ now q → EndpointsStand p d q → TellsNothing p st d w s k moment → Visited p d s q []
idle-visited p st d w s k moment q sized inside is at stand (inl done) = nothing-visited p d s q sized inside stand (sym is ∙ done.0) done.1
idle-visited p st d w s k moment q sized inside is at stand (inr (inl waits)) =
    let off : is_started q s ≡ false = sym is ∙ waits.0 in
    record { stands = stand; right = λ silent i lt. rw off refl; right_late = λ i lt. rw off refl }
idle-visited p st d w s k moment q sized inside is at stand (inr (inr busy)) =
    visited-shared p d s q sized stand inside (sym is ∙ busy.0) busy.1.by busy.1.inside busy.1.shares
    (subst (λ m. busy_in d m busy.1.by busy.1.shares.other ≡ true) at busy.1.busy)

-- so a visit of it is none
passes_idle : (p : Plan) → IsValid p → (order : List ℕ) (dr : DrainData) (k : ℕ) → k < length order → IsInOrder p order
    → (st : StartsData) (d : EndpointsData) (b : BootData) (w : WaitsData) (before : List Action)
    → IsStartsSized p st → IsEndpointsSized p d → length w.counts.marks ≡ service_count p → CountsPlan p w → KnowsReady p st d.failed b.complete w
    → TellsNothing p st d w (slice_index order k) k dr.moment → Passes p order dr k (k + 1) st st d d b b before before
passes_idle p valid order dr k place in_order st d b w before sized ends count edges knows idle =
    elim (cases_Bool (is_tested p b)) [
      | inl tested ↦ passes-stay p order dr k st d b before tested
      | inr untested ↦ record {
        told = [];
        appended = sym (append-nil before);
        kept = λ o cn q was. ask-whole p order k st d d b o dr cn q [] untested tt
            (idle-visited p st d w (slice_index order k) k dr.moment q ends (in_order.inside k place)
            (was.going.starts.started_is (slice_index order k) (in_order.inside k place)) was.going.drain.moment_is was.going.ends idle)
            (wait-half p valid order dr k place in_order st d b o cn q sized untested was
            (idle-waits p st d d.failed b.complete w (slice_index order k) k dr.moment (in_order.inside k place) count edges knows idle));
      }
    ]

-- a service that isn't started and waits
pub passes-waiting : (p : Plan) → IsValid p → (order : List ℕ) (dr : DrainData) (k : ℕ) → k < length order → IsInOrder p order
    → (st : StartsData) (d : EndpointsData) (b : BootData) (w : WaitsData) (before : List Action)
    → IsStartsSized p st → IsEndpointsSized p d → length w.counts.marks ≡ service_count p → CountsPlan p w → KnowsReady p st d.failed b.complete w
    → is_flagged st.started (slice_index order k) ≡ false → Lacks w (slice_index order k)
    → Passes p order dr k (k + 1) st st d d b b before before
passes-waiting p valid order dr k place in_order st d b w before sized ends count edges knows off waits =
    passes_idle p valid order dr k place in_order st d b w before sized ends count edges knows (inr (inl (off, waits)))

-- what a service waits behind is busy when the pass has come to its place and no earlier one is open
still_busy : (d : EndpointsData) (from moment : ℕ) (w : WaitsData) (e t i : ℕ) → moment ≤ w.until → (from ≤ e → is_open w e ≡ false) → StaysBusy d from w e t i
    → busy_in d moment t i ≡ true
still_busy d from moment w e t i soon closed (inl asks) = asking-busy d moment t i asks
still_busy d from moment w e t i soon closed (inr (inl next)) = absurd (clash (is_open w e) next.0 (closed next.1))
still_busy d from moment w e t i soon closed (inr (inr rest)) = rest.1 moment soon

tells_nothing : (p : Plan) (order : List ℕ) (st : StartsData) (d : EndpointsData) (from moment : ℕ) (w : WaitsData) (k : ℕ) → IsInOrder p order
    → k < length order → moment ≤ w.until → ((c : ℕ) → from ≤ c → c ≤ k → is_open w c ≡ false)
    → IsIdle p order st d from w (slice_index order k) k → TellsNothing p st d w (slice_index order k) k moment
tells_nothing p order st d from moment w k in_order lt soon off (inl done) = inl done
tells_nothing p order st d from moment w k in_order lt soon off (inr (inl waits)) = inr (inl waits)
tells_nothing p order st d from moment w k in_order lt soon off (inr (inr x)) = inr (inr (
  x.0,
  record {
    by = slice_index order x.1.by;
    inside = in_order.inside x.1.by (let le = x.1.earlier in omega arith);
    shares = x.1.shares;
    busy = still_busy d from moment w x.1.by (slice_index order x.1.by) x.1.shares.other soon (λ le. off x.1.by le x.1.earlier) x.1.busy;
  },
))

-- the same of so many places
passes_skip : (p : Plan) → IsValid p → (order : List ℕ) (dr : DrainData) (from n : ℕ) → from + n ≤ length order → IsInOrder p order
    → (st : StartsData) (d : EndpointsData) (b : BootData) (w : WaitsData) (before : List Action)
    → IsStartsSized p st → IsEndpointsSized p d → IsKnown p order st d b.complete dr.moment from w → ((c : ℕ) → from ≤ c → c < from + n → is_open w c ≡ false)
    → Passes p order dr from (from + n) st st d d b b before before
passes_skip p valid order dr from zero within in_order st d b w before sized ends known off =
    subst (λ k. Passes p order dr from k st st d d b b before before) (nothing from) (passes-none p order dr from st d b before (sym (append-nil before)))
  where
    nothing : (a : ℕ) → a ≡ a + 0
    nothing a = omega arith
passes_skip p valid order dr from (suc n) within in_order st d b w before sized ends known off =
    subst (λ k. Passes p order dr from k st st d d b b before before) (one_more from n)
    (passes-then p order dr from (from + n) ((from + n) + 1) st st st d d d b b b before before before
    (passes_skip p valid order dr from n (omega arith) in_order st d b w before sized ends known (λ c le lt. off c le (omega arith)))
    (passes_idle p valid order dr (from + n) (omega arith) in_order st d b w before sized ends known.count known.edges known.ready
    (tells_nothing p order st d from dr.moment w (from + n) in_order (omega arith) known.soon (λ c le lt. off c le (omega arith))
    (known.idle (from + n) (omega arith) (off (from + n) (omega arith) (omega arith))))))
  where
    one_more : (a n : ℕ) → (a + n) + 1 ≡ a + suc n
    one_more a n = omega arith

-- of all places from one to another
pub passes-skip : (p : Plan) → IsValid p → (order : List ℕ) (dr : DrainData) (from k : ℕ) → from ≤ k → k ≤ length order → IsInOrder p order
    → (st : StartsData) (d : EndpointsData) (b : BootData) (w : WaitsData) (before : List Action)
    → IsStartsSized p st → IsEndpointsSized p d → IsKnown p order st d b.complete dr.moment from w → ((c : ℕ) → from ≤ c → c < k → is_open w c ≡ false)
    → Passes p order dr from k st st d d b b before before
passes-skip p valid order dr from k le within in_order st d b w before sized ends known off =
    subst (λ j. Passes p order dr from j st st d d b b before before) (together from k le)
    (passes_skip p valid order dr from (k - from) (omega arith) in_order st d b w before sized ends known (λ c low lt. off c low (omega arith)))
  where
    together : (a b : ℕ) → a ≤ b → a + (b - a) ≡ b
    together a b le = omega arith

-- and then the pass has come to the other one
pub known-skip : (p : Plan) (order : List ℕ) (st : StartsData) (d : EndpointsData) (complete : Bool) (moment from k : ℕ) (w : WaitsData)
    → ((c : ℕ) → from ≤ c → c < k → is_open w c ≡ false) → IsKnown p order st d complete moment from w → IsKnown p order st d complete moment k w
known-skip p order st d complete moment from k w off known = record {
  count = known.count;
  edges = known.edges;
  sound = known.sound;
  idle = idle-on p order st d from k w (λ e le on. elim (cases_lt e k) [ inl lt ↦ absurd (clash (is_open w e) on (off e le lt)) | inr ge ↦ ge ]) known.idle;
  complete_is = known.complete_is;
  ready = known.ready;
  soon = known.soon;
}
