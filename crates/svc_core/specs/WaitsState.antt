-- Which services the pass needn't visit, and why.
use Rattle.std.specs.Prelude.{ℕ, Bool, true, false, not, ◌≡◌, ◌≢◌, ◌<◌, ◌≤◌, ◌+◌, ◌==◌, ◌||◌, ◌&&◌, ◌⊎◌, List, length, min, slice_index}
use Rattle.std.specs.Bool.{OnTrue}
use Rattle.svc_graph.specs.Bits.{is_set}
use Rattle.svc_graph.specs.Waitings.{missing_of, waits_for}
use Rattle.svc_record.specs.declared.plan.Plan.{Plan}
use Rattle.svc_record.specs.Plans.{service_count, endpoints}
use Rattle.svc_record.specs.Validity.{depends_on}
use Rattle.svc_endpoints.specs.EndpointsData.{EndpointsData}
use Rattle.svc_endpoints.specs.EndpointsState.{last_at, is_asking}
use Rattle.svc_endpoints.specs.Rests.{HasAll, LackSame, SharesWith, IsBusyUntil}
use Rattle.svc_core.specs.CoreData.{IsFormed}
use Rattle.svc_core.specs.StartsData.{StartsData}
use Rattle.svc_core.specs.StartsState.{is_flagged, ready_now, due_now, start_if}
use Rattle.svc_core.specs.WaitsData.{WaitsData}

-- the place is open: the pass visits it
abbrev pub is_open : WaitsData → ℕ → Bool
is_open w k = is_set w.bits 0 k

-- the place waits behind the service t
abbrev pub is_behind : WaitsData → ℕ → ℕ → Bool
is_behind w t k = is_set w.bits (1 + t) k

-- the place waits behind some service
abbrev pub is_parked : WaitsData → ℕ → Bool
is_parked w k = is_set w.bits (length w.counts.marks + 1) k

-- the place's service rests
abbrev pub is_resting : WaitsData → ℕ → Bool
is_resting w k = is_set w.bits (length w.counts.marks + 2) k

-- a dependency of the service isn't marked
abbrev pub Lacks : WaitsData → ℕ → Type 0
Lacks w s = missing_of w.counts s ≢ 0

-- an ask of the service is open
pub record HasAsk (p : Plan) (d : EndpointsData) (s : ℕ) : Type 0 where
  pub at : ℕ
  pub within : at < length (endpoints p s)
  pub asks : is_asking (last_at d s at) ≡ true

-- there is nothing to ask for now
abbrev pub AsksNothing : Plan → EndpointsData → ℕ → Type 0
AsksNothing p d s = HasAll p d s ⊎ HasAsk p d s

-- endpoint k of t, which is at the place e, is busy: it is asked for; or a pass that has come to the place `from` visits it before it goes on; or it rests
abbrev pub StaysBusy : EndpointsData → ℕ → WaitsData → ℕ → ℕ → ℕ → Type 0
StaysBusy d from w e t k = (is_asking (last_at d t k) ≡ true) ⊎ (((is_open w e ≡ true) × (from ≤ e)) ⊎ ((is_resting w e ≡ true) × IsBusyUntil d t k w.until))

-- the place waits behind a started service that has no later place, and an endpoint of which keeps the service's address busy; where the service
-- rests, behind itself
pub record IsParked (p : Plan) (order : List ℕ) (on : List Bool) (d : EndpointsData) (from : ℕ) (w : WaitsData) (s k : ℕ) : Type 0 where
  pub by : ℕ
  pub earlier : by ≤ k
  pub started : is_flagged on (slice_index order by) ≡ true
  pub shares : SharesWith p d s (slice_index order by)
  pub busy : StaysBusy d from w by (slice_index order by) shares.other
  pub behind : is_behind w (slice_index order by) k ≡ true
  pub parked : is_parked w k ≡ true

-- a visit of the service at the place tells nothing: it is started with nothing to ask for now, or waits behind a service, or isn't started and waits
abbrev pub IsIdle : Plan → List ℕ → StartsData → EndpointsData → ℕ → WaitsData → ℕ → ℕ → Type 0
IsIdle p order st d from w s k =
    ((is_flagged st.started s ≡ true) × AsksNothing p d s)
    ⊎ (((is_flagged st.started s ≡ false) × Lacks w s) ⊎ ((is_flagged st.started s ≡ true) × IsParked p order st.started d from w s k))

-- so it is at each place that isn't open, as a pass has come to the place `from`
abbrev pub AreIdle : Plan → List ℕ → StartsData → EndpointsData → ℕ → WaitsData → Type 0
AreIdle p order st d from w = (k : ℕ) → k < length order → is_open w k ≡ false → IsIdle p order st d from w (slice_index order k) k

-- each service that is ready is marked
abbrev pub KnowsReady : Plan → StartsData → List Bool → Bool → WaitsData → Type 0
KnowsReady p st failed complete w = (s : ℕ) → s < service_count p → ready_now p st failed complete s ≡ true → is_flagged w.counts.marks s ≡ true

-- the same but for this service
abbrev pub KnowsOthers : Plan → StartsData → List Bool → Bool → ℕ → WaitsData → Type 0
KnowsOthers p st failed complete s w = (t : ℕ) → t < service_count p → (s == t) ≡ false → ready_now p st failed complete t ≡ true
    → is_flagged w.counts.marks t ≡ true

-- nothing else is
abbrev pub IsSound : Plan → StartsData → List Bool → Bool → WaitsData → Type 0
IsSound p st failed complete w = (s : ℕ) → s < service_count p → is_flagged w.counts.marks s ≡ true → ready_now p st failed complete s ≡ true

-- the counts are of the plan's dependencies
abbrev pub CountsPlan : Plan → WaitsData → Type 0
CountsPlan p w = (a b : ℕ) → a < service_count p → waits_for w.counts a b ≡ depends_on p a b

-- between two steps: what was ready when it was last looked at all is marked, and nothing else
pub record IsWatched (p : Plan) (order : List ℕ) (st : StartsData) (d : EndpointsData) (w : WaitsData) : Type 0 where
  pub count : length w.counts.marks ≡ service_count p
  pub edges : CountsPlan p w
  pub sound : IsSound p st d.failed w.complete w
  pub idle : AreIdle p order st d 0 w
  pub ready : OnTrue w.fresh (KnowsReady p st d.failed w.complete w)

-- the place e is the first of those that waited behind the service at the place k, and its service is started and wants the same address
pub record IsHeir (p : Plan) (order : List ℕ) (on : List Bool) (d : EndpointsData) (w : WaitsData) (k e : ℕ) : Type 0 where
  pub later : k < e
  pub place : e < length order
  pub started : is_flagged on (slice_index order e) ≡ true
  pub same : LackSame p d (slice_index order k) (slice_index order e)
  pub first : (c : ℕ) → k < c → c < e → is_behind w (slice_index order k) c ≡ false

-- in a pass that has come to the place `from`: what is ready is marked, and what rests still does
pub record IsKnown (p : Plan) (order : List ℕ) (st : StartsData) (d : EndpointsData) (complete : Bool) (moment from : ℕ) (w : WaitsData) : Type 0 where
  pub count : length w.counts.marks ≡ service_count p
  pub edges : CountsPlan p w
  pub sound : IsSound p st d.failed complete w
  pub idle : AreIdle p order st d from w
  pub complete_is : w.complete ≡ complete
  pub ready : KnowsReady p st d.failed complete w
  pub soon : moment ≤ w.until

-- services were marked, and the place of each that lacked one and lacks none by now is open
pub record Opens (order : List ℕ) (old new : WaitsData) : Type 0 where
  pub count : length new.counts.marks ≡ length old.counts.marks
  pub depends : new.counts.depends ≡ old.counts.depends
  pub kept : (d : ℕ) → is_flagged old.counts.marks d ≡ true → is_flagged new.counts.marks d ≡ true
  pub waits : (a b : ℕ) → is_set old.bits a b ≡ true → is_set new.bits a b ≡ true
  pub opened : (k : ℕ) → k < length order → Lacks old (slice_index order k) → missing_of new.counts (slice_index order k) ≡ 0 → is_open new k ≡ true
  pub until : new.until ≡ old.until

-- those that were marked pass the test
abbrev pub MarksOnly : (ℕ → Bool) → WaitsData → WaitsData → Type 0
MarksOnly test old new = (t : ℕ) → is_flagged new.counts.marks t ≡ true → (is_flagged old.counts.marks t ≡ true) ⊎ (test t ≡ true)

-- the service is marked
pub record IsMarked (order : List ℕ) (s : ℕ) (old new : WaitsData) : Type 0 where
  pub opens : Opens order old new
  pub marks : (t : ℕ) → is_flagged new.counts.marks t ≡ ((s == t) || is_flagged old.counts.marks t)
  pub fresh : new.fresh ≡ old.fresh
  pub complete : new.complete ≡ old.complete

-- the service is marked, where b says so
abbrev pub MarksIf : Bool → List ℕ → ℕ → WaitsData → WaitsData → Type 0
MarksIf true order s old new = IsMarked order s old new
MarksIf false order s old new = new ≡ old

-- only bits have changed, and up to which moment all that rest do
pub record HasBits (to : ℕ → ℕ → Bool) (until : ℕ) (old new : WaitsData) : Type 0 where
  pub counts : new.counts ≡ old.counts
  pub bits : (a b : ℕ) → is_set new.bits a b ≡ to a b
  pub fresh : new.fresh ≡ old.fresh
  pub complete : new.complete ≡ old.complete
  pub until_is : new.until ≡ until

-- the place isn't open any more
abbrev pub ClosesPlace : ℕ → WaitsData → WaitsData → Type 0
ClosesPlace k old new = HasBits (λ a b. is_set old.bits a b && not (a == 0 && b == k)) old.until old new

-- no service has two places
abbrev pub AreApart : List ℕ → Type 0
AreApart order = (j k : ℕ) → j < k → k < length order → slice_index order j ≢ slice_index order k

-- an order that has room in a row of bits
pub record IsShortOrder (order : List ℕ) : Type 0 where
  pub short : length order ≤ 1024
  pub apart : AreApart order

-- the service's place is open
abbrev pub IsOpenOf : List ℕ → ℕ → WaitsData → Type 0
IsOpenOf order s w = (k : ℕ) → k < length order → slice_index order k ≡ s → is_open w k ≡ true

-- the service's place is open again
pub record Reopens (order : List ℕ) (s : ℕ) (old new : WaitsData) : Type 0 where
  pub counts : new.counts ≡ old.counts
  pub kept : (a b : ℕ) → is_set old.bits a b ≡ true → is_set new.bits a b ≡ true
  pub opened : IsOpenOf order s new
  pub fresh : new.fresh ≡ old.fresh
  pub complete : new.complete ≡ old.complete
  pub until : new.until ≡ old.until

-- the places in this row are open again
abbrev pub JoinsRow : ℕ → ℕ → WaitsData → WaitsData → Type 0
JoinsRow row until old new = HasBits (λ a b. is_set old.bits a b || (a == 0 && is_set old.bits row b)) until old new

-- the places that wait behind the service are open again
abbrev pub Frees : ℕ → WaitsData → WaitsData → Type 0
Frees t old new = JoinsRow (1 + t) old.until old new

-- what waits behind the service s waits behind t too, the place of which is open
abbrev pub HandsOn : ℕ → ℕ → ℕ → WaitsData → WaitsData → Type 0
HandsOn s t k old new =
    HasBits (λ a b. (is_set old.bits a b || (a == 1 + t && is_set old.bits (1 + s) b))
    || (a == 0 && b == k)) old.until old new

-- all places that wait behind a service are open again
abbrev pub FreesAll : WaitsData → WaitsData → Type 0
FreesAll old new = JoinsRow (length old.counts.marks + 1) old.until old new

-- all of them, or those that wait behind the service
abbrev pub FreesMore : Bool → ℕ → WaitsData → WaitsData → Type 0
FreesMore true t old new = FreesAll old new
FreesMore false t old new = Frees t old new

-- what rests is open again, or nothing has changed
abbrev pub Wakes : WaitsData → WaitsData → Type 0
Wakes old new = (new ≡ old) ⊎ JoinsRow (length old.counts.marks + 2) new.until old new

-- the place waits behind no service
abbrev pub LeavesPlace : ℕ → WaitsData → WaitsData → Type 0
LeavesPlace k old new =
    HasBits (λ a b. (is_set old.bits a b && not (a == length old.counts.marks + 1 && b == k)) && not
    (a == length old.counts.marks + 2 && b == k)) old.until old new

-- the place isn't open any more, and waits behind the service
abbrev pub ParksBehind : ℕ → ℕ → WaitsData → WaitsData → Type 0
ParksBehind k t old new =
    HasBits (λ a b. ((is_set old.bits a b || (a == 1 + t && b == k)) || (a == length old.counts.marks + 1 && b == k))
    && not (a == 0 && b == k)) old.until old new

-- the same, and its service rests up to the end
abbrev pub ParksResting : ℕ → ℕ → ℕ → WaitsData → WaitsData → Type 0
ParksResting k t end old new =
    HasBits (λ a b.
    (((is_set old.bits a b || (a == 1 + t && b == k)) || (a == length old.counts.marks + 1 && b == k))
    || (a == length old.counts.marks + 2 && b == k))
    && not (a == 0 && b == k)) (min old.until end) old new

-- the service may have been started, where all that it depends on was ready
pub record StartsOnly (p : Plan) (failed : List Bool) (complete : Bool) (s : ℕ) (st st' : StartsData) : Type 0 where
  pub starts : Bool
  pub due : starts ≡ true → due_now p st failed complete s ≡ true
  pub after : st' ≡ start_if starts s st

-- a visit of the service at its place starts it, if it isn't started
abbrev pub IsDueAt : Plan → StartsData → List Bool → Bool → ℕ → Type 0
IsDueAt p st failed complete s = (is_flagged st.started s ≡ true) ⊎ (due_now p st failed complete s ≡ true)

-- a service that isn't started waits at its place, where a dependency of it isn't marked; else nothing has changed
abbrev pub WaitsStill : StartsData → ℕ → ℕ → WaitsData → WaitsData → Bool → Type 0
WaitsStill st s k old new true = (is_flagged st.started s ≡ false) × (Lacks old s × ClosesPlace k old new)
WaitsStill st s k old new false = ((is_flagged st.started s ≡ true) ⊎ (missing_of old.counts s ≡ 0)) × (new ≡ old)

-- what a core keeps: its parts fit the plan, what its pass leaves out needn't be visited, and bootstrapping that was complete is
pub record IsKept (p : Plan) (order : List ℕ) (st : StartsData) (d : EndpointsData) (complete : Bool) (w : WaitsData) : Type 0 where
  pub formed : IsFormed p order st d
  pub watched : IsWatched p order st d w
  pub late : w.complete ≡ true → complete ≡ true
