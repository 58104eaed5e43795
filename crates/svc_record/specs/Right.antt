-- What a right record is, and one of a run that served.
use Rattle.std.specs.Prelude.{ℕ, Bool, true, false, ◌==◌, ◌≡◌, not, ◌&&◌, ◌||◌, List, [], ◌∷◌, if◌then◌else◌, MatchBool}
use Rattle.std.specs.Bool.{OnTrue, OnFalse}
use Rattle.std.specs.List.{list_all}
use Rattle.svc_record.specs.declared.plan.Plan.{Plan}
use Rattle.svc_record.specs.declared.entry.Entry.{Entry}
use Rattle.svc_record.specs.declared.entry.Entry.TheVariants.{Told}
use Rattle.svc_record.specs.declared.action.Action.{Action}
use Rattle.svc_record.specs.declared.action.Action.TheVariants.{Start, Fail, Bind, Adopt, Close, Phase}
use Rattle.svc_record.specs.declared.action.ExecutionPhase.TheVariants.{Bootstrap}
use Rattle.svc_record.specs.Record.{Record, has, times, now, last_step, is_signal, from_the_start, before_runtimes, EachEntry, EachSettled, each_entry, each_settled}
use Rattle.svc_record.specs.Descriptors.{Descriptor, opened_descriptors, is_opened, is_close, one_live}
use Rattle.svc_record.specs.Starts.{StartsRight, starts_right, start_due, start_known}
use Rattle.svc_record.specs.Endpoints.{EndpointsRight, EndpointsRightLate, endpoints_right, endpoints_right_late}
use Rattle.svc_record.specs.Closes.{ClosesRight, closes_right, close_once}
use Rattle.svc_record.specs.AskRules.{AsksRight, ask_due, fails_right, ask_known}
use Rattle.svc_record.specs.Offer.{OfferRight, offer_right, offer_due, retry_due, one_ask}
use Rattle.svc_record.specs.Drain.{Drain, drain_right, waits_are_over, PhasesRight, phases_right, moment_right, every_moment_right, is_ending}
use Rattle.svc_record.specs.Boot.{BootRight, boot_right, try_due, boot_due}
use Rattle.svc_record.specs.Connections.{ConnRight, conn_right, connection_known}
use Rattle.svc_record.specs.Ends.{has_ended, has_ended_early, ends_tested, TestedRight, tested_right}
use Rattle.svc_record.specs.Fits.{event_fits}

-- a close is of a descriptor that was opened before
abbrev pub close_due : Plan → Entry → Record → Bool
close_due p (Told (Close fd)) before = is_opened p before fd
close_due p _ before = true

-- from the start and before the signal
abbrev pub in_service : Record → Bool
in_service q = from_the_start q && not (has is_signal q)

-- before the signal exactly what is gone is closed; and from the start the services are started and their endpoints held
pub record ServesRight (p : Plan) (q : Record) : Type 0 where
  pub closes : OnFalse (has is_signal q) (ClosesRight p q)
  pub starts : OnTrue (in_service q) (StartsRight p q)
  pub endpoints : OnTrue (in_service q) (EndpointsRight p q)

-- the same as a test
abbrev pub serves_right : Plan → Record → Bool
serves_right p q = (has is_signal q || closes_right p q) && (not (in_service q) || ((starts_right p q && each_entry (start_due p) q) && endpoints_right p q))

-- stronger: what stands before `ShutdownRuntimes` is right as a settled prefix is
pub record LastStepRight (p : Plan) (at : Record) : Type 0 where
  pub starts : StartsRight p at
  pub endpoints : EndpointsRightLate p at
  pub closes : ClosesRight p at
  pub boot : BootRight p at
  pub offer : OfferRight p at
  pub connections : ConnRight p at

-- the same as a test
abbrev pub last_step_right : Plan → Record → Bool
last_step_right p at = (((starts_right p at && each_entry (start_due p) at) && endpoints_right_late p at) && (closes_right p at && boot_right p at))
    && ((offer_right p at && each_entry (offer_due p) at) && conn_right p at)

-- what is asked of every record beyond the words: each clause is one that those leave open
pub record Stronger (p : Plan) (r : Record) : Type 0 where
  pub boots : EachEntry (λ e before. boot_due p e before ≡ true) r
  pub tries : EachEntry (λ e before. try_due e before ≡ true) r
  pub retries : EachEntry (λ e before. retry_due e before ≡ true) r
  pub one_ask : EachSettled (λ q. one_ask p q ≡ true) r
  pub tested : OnTrue (ends_tested p r) (TestedRight p r)
  pub closes : EachEntry (λ e before. close_once p e before ≡ true) r
  pub last_step : OnTrue (waits_are_over p r) (LastStepRight p (before_runtimes r))
  pub moments : EachEntry (λ e before. every_moment_right e before ≡ true) r
  pub known_starts : EachEntry (λ e before. start_known p e before ≡ true) r
  pub known_asks : EachEntry (λ e before. ask_known p e before ≡ true) r
  pub known_connections : EachEntry (λ e before. connection_known p e before ≡ true) r

-- the same as a test
abbrev pub is_stronger : Plan → Record → Bool
is_stronger p r =
    ((((each_entry (boot_due p) r && each_entry try_due r) && each_entry retry_due r)
    && (each_settled (one_ask p) r && (not (ends_tested p r) || tested_right p r)))
    && ((each_entry (close_once p) r && (not (waits_are_over p r) || last_step_right p (before_runtimes r))) && each_entry every_moment_right r))
    && ((each_entry (start_known p) r && each_entry (ask_known p) r) && each_entry (connection_known p) r)

-- the record of a run that served
pub record Served (p : Plan) (r : Record) : Type 0 where
  pub fits : EachEntry (λ e before. event_fits p e before ≡ true) r
  pub drain : Drain p r
  pub serves : EachSettled (ServesRight p) r
  pub closed_once : (fd : ℕ) → is_opened p r fd ≡ true → times (is_close fd) r ≡ 1
  pub closed_after : EachEntry (λ e before. close_due p e before ≡ true) r
  pub stronger : Stronger p r

-- the words of it as a test
abbrev pub is_served_by_words : Plan → Record → Bool
is_served_by_words p r = ((each_entry (event_fits p) r && drain_right p r) && each_settled (serves_right p) r)
    && (list_all (λ (d : Descriptor). times (is_close d.number) r == 1) (opened_descriptors p r) && each_entry (close_due p) r)

-- the same as a test
abbrev pub is_served : Plan → Record → Bool
is_served p r = is_served_by_words p r && is_stronger p r

-- nothing was told
abbrev pub is_silent : List Action → Bool
is_silent [] = true
is_silent (a ∷ more) = false

-- only starts, asks, failures and closes
abbrev pub is_quiet : List Action → Bool
is_quiet [] = true
is_quiet (Start s ∷ more) = is_quiet more
is_quiet (Fail s ∷ more) = is_quiet more
is_quiet (Bind s i ∷ more) = is_quiet more
is_quiet (Adopt s i fd ∷ more) = is_quiet more
is_quiet (Close fd ∷ more) = is_quiet more
is_quiet (_ ∷ more) = false

-- the step told `Bootstrap` last, with its moment, and before it only starts, asks, failures and closes
abbrev pub is_test_step : ℕ → List Action → Bool
is_test_step t (Phase Bootstrap ms ∷ more) = ms == t && is_quiet more
is_test_step t _ = false

-- a run that ended early told nothing in its last step; one that was tested told `Bootstrap` last
pub record EndedRight (p : Plan) (q : Record) : Type 0 where
  pub early : OnTrue (has_ended_early p q) (last_step q ≡ [])
  pub tested : OnTrue (ends_tested p q) ((is_test_step (now q) (last_step q) ≡ true) × ClosesRight p q)

-- the same as a test
abbrev pub ended_right : Plan → Record → Bool
ended_right p q = (not (has_ended_early p q) || is_silent (last_step q)) && (not (ends_tested p q) || (is_test_step (now q) (last_step q) && closes_right p q))

-- while the run goes on
pub record OpenRight (p : Plan) (q : Record) : Type 0 where
  pub boot : BootRight p q
  pub offer : OfferRight p q
  pub connections : ConnRight p q
  pub closes : ClosesRight p q
  pub one_live : one_live p q ≡ true
  pub starts : OnTrue (from_the_start q) (StartsRight p q)
  pub endpoints : OnTrue (in_service q) (EndpointsRight p q)
  pub endpoints_late : OnTrue (from_the_start q) (EndpointsRightLate p q)
  pub phases : PhasesRight p q
  pub moments : EachEntry (λ e before. moment_right e before ≡ true) q
  pub no_end : has is_ending q ≡ false

-- the same as a test
abbrev pub open_right : Plan → Record → Bool
open_right p q = (((boot_right p q && (offer_right p q && each_entry (offer_due p) q)) && (conn_right p q && closes_right p q))
    && (one_live p q && (not (from_the_start q) || ((starts_right p q && each_entry (start_due p) q) && endpoints_right_late p q))))
    && ((not (in_service q) || endpoints_right p q) && ((phases_right p q && each_entry moment_right q) && not (has is_ending q)))

-- a settled prefix: by whether the run has ended in it
abbrev pub SettledRight : Plan → Record → Type 0
SettledRight p q = MatchBool (has_ended p q) (EndedRight p q) (OpenRight p q)

-- the same as a test
abbrev pub settled_right : Plan → Record → Bool
settled_right p q = if has_ended p q then ended_right p q else open_right p q

-- what holds besides of a record that has passed
pub record PassedRight (p : Plan) (r : Record) : Type 0 where
  pub served : Served p r
  pub boot : BootRight p r
  pub offer : OfferRight p r
  pub connections : ConnRight p r

-- the words of it as a test
abbrev pub passed_right : Plan → Record → Bool
passed_right p r = (is_served_by_words p r && boot_right p r) && ((offer_right p r && each_entry (offer_due p) r) && conn_right p r)

-- a right record
pub record Right (p : Plan) (r : Record) : Type 0 where
  pub fits : EachEntry (λ e before. event_fits p e before ≡ true) r
  pub starts : EachEntry (λ e before. start_due p e before ≡ true) r
  pub settled : EachSettled (SettledRight p) r
  pub asks : AsksRight p r
  pub passed : OnTrue (waits_are_over p r) (PassedRight p r)
  pub stronger : Stronger p r

-- the words of it as a test
abbrev pub is_right_by_words : Plan → Record → Bool
is_right_by_words p r = ((each_entry (event_fits p) r && each_entry (start_due p) r) && each_settled (settled_right p) r)
    && ((each_entry (ask_due p) r && each_settled (fails_right p) r) && (not (waits_are_over p r) || passed_right p r))

-- the same as a test
abbrev pub is_right : Plan → Record → Bool
is_right p r = is_right_by_words p r && is_stronger p r
