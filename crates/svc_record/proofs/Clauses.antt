-- Which clauses of a right record refuse a record.
use Rattle.std.proofs.Common.{Bool, true, false, not, ◌&&◌, ◌||◌, ◌==◌, ◌≡◌, List, [], ◌∷◌, ◌++◌}
use Rattle.std.specs.List.{list_all}
use Rattle.svc_record.specs.declared.plan.Plan.{Plan}
use Rattle.svc_record.specs.Record.{Record, has, times, now, last_step, from_the_start, before_runtimes, each_entry, each_earlier, each_settled}
use Rattle.svc_record.specs.Plans.{endpoint_numbers}
use Rattle.svc_record.specs.Descriptors.{Descriptor, opened_descriptors, is_close, one_live}
use Rattle.svc_record.specs.Starts.{starts_right, start_due, start_right, start_known}
use Rattle.svc_record.specs.Endpoints.{endpoints_right, endpoints_right_late, endpoint_right_late}
use Rattle.svc_record.specs.Closes.{closes_right, close_once}
use Rattle.svc_record.specs.AskRules.{fails_right, ask_due, ask_known}
use Rattle.svc_record.specs.Offer.{offer_right, offer_due, retry_due, one_ask}
use Rattle.svc_record.specs.Connections.{arrivals, connection_right, rests_right, rest_due, conn_right, connection_known}
use Rattle.svc_record.specs.Drain.{phases_right, every_moment_right, waits_are_over, ends_right, is_ending}
use Rattle.svc_record.specs.Boot.{boot_entries_right, stands_first, fork_first, start_after_boot, boot_right, boot_due, try_due, may_begin, has_begun}
use Rattle.svc_record.specs.Ends.{has_ended, has_ended_early, ends_tested, visited_services}
use Rattle.svc_record.specs.Fits.{event_fits}
use Rattle.svc_record.specs.Right.{is_right, in_service, serves_right, last_step_right, close_due, is_silent, is_test_step}

-- the clauses: of each entry; of each settled prefix, while the run goes on and where it has ended; of a record that has passed, and of one that was tested
pub data Clause : Type 0 where
  EventFits : Clause
  StartInTurn : Clause
  AskInTurn : Clause
  GivenUp : Clause
  CloseOnce : Clause
  Moment : Clause
  StartKnown : Clause
  AskKnown : Clause
  ConnectionKnown : Clause
  BootInTurn : Clause
  TryInTurn : Clause
  RetryInTurn : Clause
  OneAsk : Clause
  Beginning : Clause
  ForkIsFirst : Clause
  ForkBeforeAll : Clause
  BootBeforeStarts : Clause
  OfferGoes : Clause
  OfferInTurn : Clause
  Connections : Clause
  Rests : Clause
  RestInTurn : Clause
  Closes : Clause
  OneLive : Clause
  Starts : Clause
  Endpoints : Clause
  EndpointsLate : Clause
  Phases : Clause
  NoEnd : Clause
  SilentEnd : Clause
  TestStep : Clause
  TestCloses : Clause
  TestForked : Clause
  TestBegun : Clause
  TestBootBeforeStarts : Clause
  TestStarts : Clause
  TestEndpoints : Clause
  FirstToPass : Clause
  AllPhases : Clause
  LastActions : Clause
  EndNowhereElse : Clause
  Serves : Clause
  AllClosed : Clause
  ClosedAfter : Clause
  LastStep : Clause
  BeginningOfAll : Clause
  OfferOfAll : Clause
  ConnectionsOfAll : Clause

-- one more clause where its test fails
abbrev unless : Bool → Clause → List Clause → List Clause
unless true clause more = more
unless false clause more = clause ∷ more

-- the clauses where there is need of them
abbrev where_due : Bool → List Clause → List Clause
where_due true clauses = clauses
where_due false clauses = []

-- the clauses of entries that refuse the record
abbrev entries_refused_by : Plan → Record → List Clause
entries_refused_by p r =
    unless (each_entry (event_fits p) r) EventFits (unless (each_entry (start_due p) r) StartInTurn (unless (each_entry (ask_due p) r) AskInTurn
    (unless (each_settled (fails_right p) r) GivenUp
    (unless (each_entry (close_once p) r) CloseOnce (unless (each_entry every_moment_right r) Moment (unless (each_entry (start_known p) r) StartKnown
    (unless (each_entry (ask_known p) r) AskKnown
    (unless (each_entry (connection_known p) r) ConnectionKnown (unless (each_entry (boot_due p) r) BootInTurn (unless (each_entry try_due r) TryInTurn
    (unless (each_entry retry_due r) RetryInTurn (unless (each_settled (one_ask p) r) OneAsk []))))))))))))

-- each settled prefix in which the run hasn't ended passes the test
abbrev while_open : Plan → (Record → Bool) → Record → Bool
while_open p test r = each_settled (λ q. has_ended p q || test q) r

-- the clauses of the beginning, the offer and the connections that refuse it
abbrev parts_refused_by : Plan → Record → List Clause
parts_refused_by p r =
    unless (while_open p (boot_entries_right p) r) Beginning
    (unless (while_open p (each_entry stands_first) r) ForkIsFirst (unless (while_open p (each_entry (fork_first p)) r) ForkBeforeAll
    (unless (while_open p (each_entry (start_after_boot p)) r) BootBeforeStarts
    (unless (while_open p (offer_right p) r) OfferGoes (unless (while_open p (each_entry (offer_due p)) r) OfferInTurn
    (unless (while_open p (λ q. list_all (connection_right p q) (arrivals q)) r) Connections
    (unless (while_open p rests_right r) Rests (unless (while_open p (each_entry rest_due) r) RestInTurn []))))))))

-- the other clauses of settled prefixes that refuse it
abbrev prefixes_refused_by : Plan → Record → List Clause
prefixes_refused_by p r = unless (while_open p (closes_right p) r) Closes (unless (while_open p (one_live p) r) OneLive
    (unless (while_open p (λ q. not (from_the_start q) || starts_right p q) r) Starts
    (unless (while_open p (λ q. not (in_service q) || endpoints_right p q) r) Endpoints
    (unless (while_open p (λ q. not (from_the_start q) || endpoints_right_late p q) r) EndpointsLate (unless (while_open p (phases_right p) r) Phases
    (unless (while_open p (λ q. not (has is_ending q)) r) NoEnd []))))))

-- the clauses of settled prefixes in which the run has ended otherwise than served
abbrev ends_refused_by : Plan → Record → List Clause
ends_refused_by p r = unless (each_settled (λ q. not (has_ended_early p q) || is_silent (last_step q)) r) SilentEnd
    (unless (each_settled (λ q. not (ends_tested p q) || is_test_step (now q) (last_step q)) r) TestStep
    (unless (each_settled (λ q. not (ends_tested p q) || closes_right p q) r) TestCloses []))

-- the clauses of a record that was tested that refuse it
abbrev tested_refused_by : Plan → Record → List Clause
tested_refused_by p r = unless (may_begin p r) TestForked (unless (has_begun p r) TestBegun (unless (each_entry (start_after_boot p) r) TestBootBeforeStarts
    (unless (p.eager || list_all (start_right p r) (visited_services p r)) TestStarts
    (unless (p.eager || list_all (λ s. list_all (endpoint_right_late p r s) (endpoint_numbers p s)) (visited_services p r)) TestEndpoints []))))

-- the clauses of a record that has passed that refuse it
abbrev passed_refused_by : Plan → Record → List Clause
passed_refused_by p r =
    unless (each_earlier (λ q. not (waits_are_over p q)) r) FirstToPass
    (unless (each_settled (phases_right p) r) AllPhases (unless (ends_right p (before_runtimes r) r) LastActions
    (unless (not (has is_ending (before_runtimes r))) EndNowhereElse (unless (each_settled (serves_right p) r) Serves
    (unless (list_all (λ (d : Descriptor). times (is_close d.number) r == 1) (opened_descriptors p r)) AllClosed
    (unless (each_entry (close_due p) r) ClosedAfter
    (unless (last_step_right p (before_runtimes r)) LastStep
    (unless (boot_right p r) BeginningOfAll
    (unless (offer_right p r && each_entry (offer_due p) r) OfferOfAll (unless (conn_right p r) ConnectionsOfAll []))))))))))

-- the clauses that refuse the record
abbrev pub refused_by : Plan → Record → List Clause
refused_by p r =
    entries_refused_by p r ++ parts_refused_by p r ++ prefixes_refused_by p r ++ ends_refused_by p r ++ where_due (ends_tested p r) (tested_refused_by p r)
    ++ where_due (waits_are_over p r) (passed_refused_by p r)

-- exactly these clauses refuse the record, so it isn't right
abbrev pub IsRefusedBy : Plan → Record → List Clause → Type 0
IsRefusedBy p r clauses = (refused_by p r ≡ clauses) × (is_right p r ≡ false)
