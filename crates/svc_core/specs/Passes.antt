-- What a pass over the services keeps.
use Rattle.std.specs.Prelude.{ℕ, Bool, true, false, not, ◌≡◌, ◌≢◌, ◌<◌, ◌+◌, ◌||◌, ◌&&◌, ◌⊎◌, List, length, slice_index, MatchBool, if◌then◌else◌}
use Rattle.std.specs.Bool.{OnTrue}
use Rattle.svc_graph.specs.declared.plan.Kind.TheVariants.{Bootstrap}
use Rattle.svc_base.specs.Items.{list_of}
use Rattle.svc_record.specs.declared.plan.Plan.{Plan}
use Rattle.svc_record.specs.declared.action.Action.{Action}
use Rattle.svc_record.specs.Plans.{service_count, endpoints, has_kind}
use Rattle.svc_record.specs.Record.{Record, now, tell, has, last_step, EachEntry, EachEarlier}
use Rattle.svc_record.specs.Starts.{is_started, is_due, start_due, start_known}
use Rattle.svc_record.specs.Endpoints.{endpoint_right, endpoint_right_late}
use Rattle.svc_record.specs.Closes.{is_broadcast}
use Rattle.svc_record.specs.AskRules.{FailsRight}
use Rattle.svc_record.specs.Boot.{has_begun, start_after_boot}
use Rattle.svc_record.specs.Drain.{is_ending, every_moment_right, waits_are_over}
use Rattle.svc_record.specs.Offer.{one_ask}
use Rattle.svc_record.specs.Fits.{event_fits}
use Rattle.svc_record.specs.Right.{SettledRight, is_quiet, is_test_step}
use Rattle.svc_record.specs.Told.{Tells}
use Rattle.svc_endpoints.specs.EndpointsData.{EndpointsData, EndpointsRoom}
use Rattle.svc_endpoints.specs.EndpointsState.{EndpointsStand}
use Rattle.svc_boot.specs.BootData.{BootData}
use Rattle.svc_boot.specs.ForkState.{may_run}
use Rattle.svc_boot.specs.BootState.{BootStands, is_refused, is_through}
use Rattle.svc_offer.specs.OfferData.{OfferData}
use Rattle.svc_offer.specs.OfferState.{OfferStands, over_since}
use Rattle.svc_drain.specs.DrainData.{DrainData}
use Rattle.svc_drain.specs.DrainState.{DrainStands}
use Rattle.svc_connections.specs.ConnectionsData.{ConnectionsData}
use Rattle.svc_connections.specs.ConnectionsState.{ConnectionsStand}
use Rattle.svc_core.specs.StartsData.{StartsData}
use Rattle.svc_core.specs.StartsState.{StartsStand}

-- each event, start and phase is right, with what stands before it
pub record EntriesRight (p : Plan) (q : Record) : Type 0 where
  pub fits : EachEntry (λ e before. event_fits p e before ≡ true) q
  pub starts : EachEntry (λ e before. start_due p e before ≡ true) q
  pub after_boot : EachEntry (λ e before. start_after_boot p e before ≡ true) q
  pub moments : EachEntry (λ e before. every_moment_right e before ≡ true) q
  pub known_starts : EachEntry (λ e before. start_known p e before ≡ true) q

-- the run was tested: bootstrapping has begun, and that is all
abbrev pub is_tested : Plan → BootData → Bool
is_tested p b = p.test && b.begun

-- services may start: no fork is awaited, and bootstrapping is complete, or needn't be
abbrev pub may_start : Plan → BootData → Bool
may_start p b = may_run p b.fork && (not p.eager || b.complete)

-- receiving hasn't ended the run, and bootstrapping is told to be complete exactly where nothing is left to receive
pub record IsBootRipe (p : Plan) (b : BootData) : Type 0 where
  pub goes_on : is_refused b.receiving ≡ false
  pub complete_is : b.complete ≡ is_through p b

-- what holds of the parts all through a step: they stand for q; each entry is right; what is started is due; bootstrapping has begun where it was to;
-- the run hasn't told its end; and what stands before each event is right
pub record Going (p : Plan) (st : StartsData) (d : EndpointsData) (b : BootData) (o : OfferData) (dr : DrainData) (cn : ConnectionsData)
    (q : Record) : Type 0 where
  pub drain : DrainStands p dr (over_since o.state) q
  pub offer : OfferStands p o q
  pub connections : ConnectionsStand p cn q
  pub starts : StartsStand p st q
  pub ends : EndpointsStand p d q
  pub boot : BootStands p b q
  pub entries : EntriesRight p q
  pub started_due : (s : ℕ) → s < service_count p → is_started q s ≡ true → is_due p q s ≡ true
  pub begun_is : has_begun p q ≡ b.begun
  pub runs : dr.running ≡ true → may_start p b ≡ true
  pub no_end : has is_ending q ≡ false
  pub earlier : EachEarlier (SettledRight p) q
  pub fails : EachEarlier (FailsRight p) q
  pub asks : EachEarlier (λ before. one_ask p before ≡ true) q

-- each service that is due is started
abbrev pub AreStarted : Plan → Record → Type 0
AreStarted p q = (s : ℕ) → s < service_count p → is_due p q s ≡ true → is_started q s ≡ true

-- the waits after a signal haven't passed, and nothing is to be asked of a successor, so that the run may end in its bootstrapping
pub record MayEnd (p : Plan) (q : Record) : Type 0 where
  pub unpassed : waits_are_over p q ≡ false
  pub asks : one_ask p q ≡ true

-- each of the first k services of the order is started where it is due, and each of its endpoints is held or waits; what is held is live where the
-- broadcast wasn't told
pub record VisitedUpTo (p : Plan) (order : List ℕ) (k : ℕ) (q : Record) : Type 0 where
  pub due_started : (j : ℕ) → j < k → is_due p q (slice_index order j) ≡ true → is_started q (slice_index order j) ≡ true
  pub right : has is_broadcast q ≡ false → (j : ℕ) → j < k → (i : ℕ) → i < length (endpoints p (slice_index order j))
      → endpoint_right p q (slice_index order j) i ≡ true
  pub late : (j : ℕ) → j < k → (i : ℕ) → i < length (endpoints p (slice_index order j)) → endpoint_right_late p q (slice_index order j) i ≡ true

-- the service bootstraps, and is started
abbrev pub is_boot_service : Plan → Record → ℕ → Bool
is_boot_service p q s = has_kind p Bootstrap s && is_started q s

-- a pass ended at the place k, at the start of the first service that bootstraps: the run was tested
pub record TestedAt (p : Plan) (order : List ℕ) (k : ℕ) (q : Record) : Type 0 where
  pub place : k < length order
  pub boots : is_boot_service p q (slice_index order k) ≡ true
  pub first : (j : ℕ) → j < k → is_boot_service p q (slice_index order j) ≡ false
  pub visited : VisitedUpTo p order k q
  pub last : is_test_step (now q) (last_step q) ≡ true
  pub may_end : MayEnd p q

-- a pass is at the place k of the order, or ended before it; as long as bootstrapping hasn't begun, this step told only starts, asks, failures and
-- closes; and where something is still to be started, the run may end in its bootstrapping
pub record PassedUpTo (p : Plan) (order : List ℕ) (k : ℕ) (st : StartsData) (d : EndpointsData) (b : BootData) (o : OfferData) (dr : DrainData)
    (cn : ConnectionsData) (q : Record) : Type 0 where
  pub going : Going p st d b o dr cn q
  pub may : may_start p b ≡ true
  pub ripe : IsBootRipe p b
  pub visited : MatchBool (is_tested p b) ((j : ℕ) × TestedAt p order j q) (VisitedUpTo p order k q)
  pub quiet : b.begun ≡ false → is_quiet (last_step q) ≡ true
  pub calm : AreStarted p q ⊎ MayEnd p q

-- between the two halves of a visit of the service at the place k: it is started where it is due, and where that tested the run, the pass ends
pub record Half (p : Plan) (order : List ℕ) (k : ℕ) (st : StartsData) (d : EndpointsData) (b : BootData) (o : OfferData) (dr : DrainData) (cn : ConnectionsData)
    (q : Record) : Type 0 where
  pub going : Going p st d b o dr cn q
  pub may : may_start p b ≡ true
  pub ripe : IsBootRipe p b
  pub tested : OnTrue (is_tested p b) (TestedAt p order k q)
  pub due_started : (j : ℕ) → j < k + 1 → is_due p q (slice_index order j) ≡ true → is_started q (slice_index order j) ≡ true
  pub right : has is_broadcast q ≡ false → (j : ℕ) → j < k → slice_index order j ≢ slice_index order k → (i : ℕ)
      → i < length (endpoints p (slice_index order j)) → endpoint_right p q (slice_index order j) i ≡ true
  pub late : (j : ℕ) → j < k → slice_index order j ≢ slice_index order k → (i : ℕ) → i < length (endpoints p (slice_index order j))
      → endpoint_right_late p q (slice_index order j) i ≡ true
  pub quiet : b.begun ≡ false → is_quiet (last_step q) ≡ true
  pub calm : AreStarted p q ⊎ MayEnd p q

-- the first half of a visit of the service at the place k
abbrev pub Starting : Plan → List ℕ → DrainData → ℕ → StartsData → StartsData → EndpointsData → BootData → BootData → List Action → List Action → Type 0
Starting p order dr k st st' d b b' before after =
    Tells before after
    (λ told. (o : OfferData) (cn : ConnectionsData) (q : Record) → PassedUpTo p order k st d b o dr cn q → Half p order k st' d b' o dr cn (tell q told))

-- how many actions the beginning of bootstrapping may still tell
abbrev pub begin_room : BootData → ℕ
begin_room b = if b.begun then 0 else 4

-- visits went from the place j of the order to the place k
abbrev pub Passes : Plan → List ℕ → DrainData → ℕ → ℕ → StartsData → StartsData → EndpointsData → EndpointsData → BootData → BootData → List Action
    → List Action → Type 0
Passes p order dr j k st st' d d' b b' before after =
    Tells before after
    (λ told. (o : OfferData) (cn : ConnectionsData) (q : Record) → PassedUpTo p order j st d b o dr cn q
    → PassedUpTo p order k st' d' b' o dr cn (tell q told))

-- a call's part of it: the visits of all
abbrev pub VisitsAll : Plan → List ℕ → DrainData → StartsData → StartsData → EndpointsRoom → EndpointsRoom
    → BootData → BootData → List Action × ℕ → List Action × ℕ → Type 0
VisitsAll p order dr st st' d d' b b' before after = Passes p order dr 0 (length order) st st' d.parts d'.parts b b' (list_of before) (list_of after)
