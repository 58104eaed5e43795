-- From which moment on a core has something to tell.
use Rattle.std.specs.Prelude.{ℕ, Bool, true, false, ◌≡◌, ◌<◌, ◌≤◌, ◌^◌, ◌⊎◌, List, ◌∷◌, Option, Some, None, IfSome, max, length, slice_index}
use Rattle.svc_record.specs.declared.plan.Plan.{Plan}
use Rattle.svc_record.specs.declared.entry.Entry.TheVariants.{Got}
use Rattle.svc_record.specs.declared.event.Event.TheVariants.{Moment}
use Rattle.svc_record.specs.Due.{is_calm}
use Rattle.svc_record.specs.Record.{Record}
use Rattle.svc_record.specs.Right.{Right}
use Rattle.svc_moments.specs.Least.{is_before}
use Rattle.svc_endpoints.specs.EndpointsData.{EndpointsData}
use Rattle.svc_endpoints.specs.EndpointsState.{StatesKept}
use Rattle.svc_endpoints.specs.Dues.{AsksAt}
use Rattle.svc_boot.specs.ForkState.{is_parent_over}
use Rattle.svc_boot.specs.BootState.{is_due_in}
use Rattle.svc_boot.specs.BootEffects.{waited}
use Rattle.svc_offer.specs.OfferState.{over_since}
use Rattle.svc_offer.specs.OfferDues as offers
use Rattle.svc_drain.specs.DrainDues as drains
use Rattle.svc_core.specs.CoreData.{CoreData, is_on}
use Rattle.svc_core.specs.StartsState.{is_flagged}
use Rattle.svc_core.specs.Stands.{Represents}

-- the core stands for the right record, and the run goes on
pub record GoesOnFrom (core : CoreData) (q : Record) : Type 0 where
  pub right : Right core.plan q
  pub stands : Represents core q
  pub on : is_on core.end ≡ true

-- the moment comes next
abbrev pub moment_after : ℕ → Record → Record
moment_after t q = Got (Moment t) ∷ q

-- each moment before that one that may come tells nothing: the record is right as it is, and the run goes on
abbrev pub TellsNothingBefore : CoreData → Option ℕ → Type 0
TellsNothingBefore core at = (q : Record) → GoesOnFrom core q → (t : ℕ) → core.drain.moment ≤ t → t < 2 ^ 64 → is_before t at ≡ true
    → is_calm core.plan (moment_after t q) ≡ true

-- that one may come, and tells something or ends the run: the record isn't right as it is, or the run goes on no more
abbrev pub TellsAt : CoreData → Option ℕ → Type 0
TellsAt core at =
    IfSome at (λ m. (core.drain.moment ≤ m) × ((q : Record) → GoesOnFrom core q → is_calm core.plan (moment_after m q) ≡ false))

-- the moment, or the last one that came where it is before that
abbrev pub from_last : ℕ → Option ℕ → Option ℕ
from_last last (Some m) = Some (max m last)
from_last last None = None

-- a visit of the service at the place, which is started, tells something at the moment t
pub record AsksThere (p : Plan) (order : List ℕ) (on : List Bool) (d : EndpointsData) (place t : ℕ) : Type 0 where
  pub started : is_flagged on (slice_index order place) ≡ true
  pub asks : AsksAt p d (slice_index order place) t

-- the same of one of the first n services of the order
pub record AsksAmong (p : Plan) (order : List ℕ) (on : List Bool) (d : EndpointsData) (n t : ℕ) : Type 0 where
  pub place : ℕ
  pub inside : place < n
  pub there : AsksThere p order on d place t

-- the same of one of all
abbrev pub AsksSome : Plan → List ℕ → List Bool → EndpointsData → ℕ → Type 0
AsksSome p order on d t = AsksAmong p order on d (length order) t

-- a service is asked for as the server runs
pub record RunsAndAsks (core : CoreData) (t : ℕ) : Type 0 where
  pub runs : core.drain.running ≡ true
  pub asks : AsksSome core.plan core.order core.starts.started core.endpoints t

-- as the server runs, no service was left to be asked for at the last moment
abbrev pub NothingAsked : CoreData → Type 0
NothingAsked core = RunsAndAsks core core.drain.moment → ⊥

-- and what the endpoints keep among themselves
pub record IsRested (core : CoreData) : Type 0 where
  pub none : NothingAsked core
  pub kept : StatesKept core.plan core.endpoints

-- something is due at the moment t of a server that goes on: of bootstrapping, of the offer, of the shutdown, or of an endpoint
abbrev pub IsDueAt : CoreData → ℕ → Type 0
IsDueAt core t =
    ((is_due_in core.boot.receiving t ≡ true) ⊎ (offers.is_due_at core.offer.state t ≡ true))
    ⊎ ((drains.is_due_at core.plan core.drain (over_since core.offer.state) t ≡ true) ⊎ RunsAndAsks core t)

-- a parent that waits ends at the moment t
abbrev pub EndsWaitAt : CoreData → ℕ → Type 0
EndsWaitAt core t = is_parent_over (waited core.plan.ready_timeout t core.boot.fork) ≡ true
