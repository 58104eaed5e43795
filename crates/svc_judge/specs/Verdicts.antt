-- Where a record first isn't right, and which rule it breaks there.
use Rattle.std.specs.Prelude.{ℕ, Bool, true, not, ◌&&◌, ◌||◌, ◌+◌, ◌≡◌, ◌⊎◌, ◌++◌, [], ◌∷◌, length, Option, Some, None, if◌then◌else◌}
use Rattle.svc_record.specs.declared.plan.Plan.{Plan}
use Rattle.svc_record.specs.declared.entry.Entry.{Entry}
use Rattle.svc_record.specs.declared.entry.Entry.TheVariants.{Got, Told}
use Rattle.svc_record.specs.Record.{Record, has, from_the_start, before_runtimes, each_entry, each_earlier}
use Rattle.svc_record.specs.Starts.{start_due, start_known}
use Rattle.svc_record.specs.Endpoints.{endpoints_right, endpoints_right_late}
use Rattle.svc_record.specs.AskRules.{ask_due, ask_known, fails_right}
use Rattle.svc_record.specs.Boot.{boot_right, boot_due, try_due}
use Rattle.svc_record.specs.Offer.{retry_due, one_ask}
use Rattle.svc_record.specs.Closes.{close_once, closes_right}
use Rattle.svc_record.specs.Descriptors.{one_live}
use Rattle.svc_record.specs.Connections.{conn_right, connection_known}
use Rattle.svc_record.specs.Drain.{waits_are_over, phases_right, moment_right, every_moment_right, is_ending}
use Rattle.svc_record.specs.Ends.{has_ended, ends_tested, tested_right}
use Rattle.svc_record.specs.Fits.{event_fits}
use Rattle.svc_record.specs.Right.{in_service, ended_right, passed_right, last_step_right, is_right}
use Rattle.svc_judge.specs.Firsts.{first_of}
use Rattle.svc_judge.specs.Settled.{offer_kept, starts_kept}
use Rattle.svc_judge.specs.declared.judging.Rule.{Rule}
use Rattle.svc_judge.specs.declared.judging.Rule.TheVariants as rules
use Rattle.svc_judge.specs.declared.judging.Breach.{Breach}

-- the rule is broken where this doesn't hold; else what is broken next
abbrev pub unless : Bool → Rule → Option Rule → Option Rule
unless holds rule next = if holds then next else Some rule

-- the first rule that the entry breaks
abbrev pub entry_breach : Plan → Entry → Record → Option Rule
entry_breach p e before =
    unless (event_fits p e before) rules.Fits
    (unless (start_due p e before) rules.StartDue
    (unless (ask_due p e before) rules.AskDue
    (unless (boot_due p e before) rules.BootDue
    (unless (try_due e before) rules.TryDue
    (unless (retry_due e before) rules.RetryDue
    (unless (close_once p e before) rules.CloseOnce
    (unless (every_moment_right e before) rules.Moment
    (unless (start_known p e before) rules.StartKnown
    (unless (ask_known p e before) rules.AskKnown (unless (connection_known p e before) rules.ConnectionKnown None))))))))))

-- the endpoints of the services at work are held or wait: as before the signal, and as after it
abbrev pub are_endpoints_kept : Plan → Record → Bool
are_endpoints_kept p q = (not (from_the_start q) || endpoints_right_late p q) && (not (in_service q) || endpoints_right p q)

-- each phase, and the broadcast, is told when it is due, with its moment
abbrev pub are_phases_kept : Plan → Record → Bool
are_phases_kept p q = phases_right p q && each_entry moment_right q

-- the first rule that a settled prefix breaks in which the run goes on, where what is asked of the beginning and of connections is known
abbrev pub open_breach_by : Bool → Bool → Plan → Record → Option Rule
open_breach_by boots connects p q =
    unless boots rules.Bootstrapping
    (unless (offer_kept p q) rules.Offer
    (unless connects rules.Connections
    (unless (closes_right p q) rules.Closes
    (unless (one_live p q) rules.OneLive
    (unless (not (from_the_start q) || starts_kept p q) rules.Starts
    (unless (are_endpoints_kept p q) rules.Endpoints
    (unless (are_phases_kept p q) rules.Phases (unless (not (has is_ending q)) rules.Ending None))))))))

-- the first rule that a settled prefix breaks in which the run goes on
abbrev pub open_breach : Plan → Record → Option Rule
open_breach p q = open_breach_by (boot_right p q) (conn_right p q) p q

-- the same, by whether the run has ended in it
abbrev pub settled_breach_by : Bool → Bool → Plan → Record → Option Rule
settled_breach_by boots connects p q =
    if has_ended p q then unless (ended_right p q) rules.Ended None else open_breach_by boots connects p q

-- the first rule of a run's end that the settled prefix breaks
abbrev pub end_breach : Plan → Record → Option Rule
end_breach p q =
    unless (not (waits_are_over p q) || passed_right p q) rules.Served
    (unless (not (ends_tested p q) || tested_right p q) rules.Tested
    (unless (not (waits_are_over p q) || last_step_right p (before_runtimes q)) rules.LastStep None))

-- the first rule that a settled prefix breaks, where what is asked of the beginning and of connections is known
abbrev pub step_breach_by : Bool → Bool → Plan → Record → Option Rule
step_breach_by boots connects p q =
    first_of (settled_breach_by boots connects p q)
    (unless (fails_right p q) rules.Fails (unless (one_ask p q) rules.OneAsk (end_breach p q)))

-- the first rule that a settled prefix breaks
abbrev pub step_breach : Plan → Record → Option Rule
step_breach p q = step_breach_by (boot_right p q) (conn_right p q) p q

-- the breach of a rule at this place
abbrev pub at : ℕ → Option Rule → Option Breach
at n (Some rule) = Some (record { entry = n; rule = rule })
at n None = None

-- the breach at an entry: where it is an event, first that of what stands before it
abbrev pub place_breach : Plan → Entry → Record → Option Breach
place_breach p (Got e) before = first_of (at (length before) (step_breach p before)) (at (length before + 1) (entry_breach p (Got e) before))
place_breach p (Told a) before = at (length before + 1) (entry_breach p (Told a) before)

-- the first breach in the entries, and in what stands before an event
abbrev pub breach_below : Plan → Record → Option Breach
breach_below p [] = None
breach_below p (e ∷ before) = first_of (breach_below p before) (place_breach p e before)

-- the first breach of the record
abbrev pub breach_of : Plan → Record → Option Breach
breach_of p r = first_of (breach_below p r) (at (length r) (step_breach p r))

-- the newest entry breaks the rule, after entries that break none
abbrev pub BreaksEntry : Plan → Record → Rule → Type 0
BreaksEntry p [] rule = ⊥
BreaksEntry p (e ∷ before) rule = (entry_breach p e before ≡ Some rule) × (breach_below p before ≡ None)

-- the settled prefix breaks the rule, and none of its entries does
abbrev pub BreaksStep : Plan → Record → Rule → Type 0
BreaksStep p q rule = (step_breach p q ≡ Some rule) × (breach_below p q ≡ None)

-- the record up to that place breaks the rule there, and what stands in it before an event is right
pub record FirstBreach (p : Plan) (r : Record) (b : Breach) : Type 0 where
  pub at_place : Record
  pub more : Record
  pub is : r ≡ more ++ at_place
  pub place : length at_place ≡ b.entry
  pub broken : BreaksEntry p at_place b.rule ⊎ BreaksStep p at_place b.rule
  pub earlier : each_earlier (is_right p) at_place ≡ true
