-- What of a run's end is looked at anew, where no rule was broken up to it.
use Rattle.std.specs.Prelude.{Bool, not, ◌&&◌, ◌||◌, ◌+◌, length, Option, None, if◌then◌else◌}
use Rattle.svc_record.specs.declared.plan.Plan.{Plan}
use Rattle.svc_record.specs.declared.entry.Entry.{Entry}
use Rattle.svc_record.specs.declared.entry.Entry.TheVariants.{Got, Told}
use Rattle.svc_record.specs.Record.{Record, has, before_runtimes}
use Rattle.svc_record.specs.AskRules.{fails_right}
use Rattle.svc_record.specs.Boot.{boot_right}
use Rattle.svc_record.specs.Offer.{one_ask}
use Rattle.svc_record.specs.Connections.{conn_right}
use Rattle.svc_record.specs.Drain.{waits_are_over, phases_right, ends_right, is_ending}
use Rattle.svc_record.specs.Ends.{ends_tested, tested_right}
use Rattle.svc_record.specs.Right.{serves_right, last_step_right}
use Rattle.svc_judge.specs.Settled.{offer_kept}
use Rattle.svc_judge.specs.Steps.{is_closed_once}
use Rattle.svc_judge.specs.Firsts.{first_of}
use Rattle.svc_judge.specs.Verdicts.{unless, at, entry_breach, settled_breach_by}
use Rattle.svc_judge.specs.Anew.{only_connections, connection_breach, boot_kept, conn_kept}
use Rattle.svc_judge.specs.Still.{is_idle}
use Rattle.svc_judge.specs.Binds.{is_well_bound}
use Rattle.svc_judge.specs.Stirred.{only_stirs, stirred_breach}
use Rattle.svc_judge.specs.declared.judging.Rule.{Rule}
use Rattle.svc_judge.specs.declared.judging.Rule.TheVariants as rules
use Rattle.svc_judge.specs.declared.judging.Breach.{Breach}

-- what holds besides of a record that has passed, where it held of all before it
abbrev pub passed_anew : Plan → Record → Bool
passed_anew p q = (((phases_right p q && (ends_right p (before_runtimes q) q && not (has is_ending (before_runtimes q))))
    && (serves_right p q && is_closed_once p q)) && boot_right p q) && (offer_kept p q && conn_right p q)

-- the first rule of a run's end that the settled prefix breaks
abbrev pub end_anew : Plan → Record → Option Rule
end_anew p q =
    unless (not (waits_are_over p q) || passed_anew p q) rules.Served
    (unless (not (ends_tested p q) || tested_right p q) rules.Tested
    (unless (not (waits_are_over p q) || last_step_right p (before_runtimes q)) rules.LastStep None))

-- the first rule that a settled prefix breaks, where what is asked of the beginning and of connections is known
abbrev pub step_anew_by : Bool → Bool → Plan → Record → Option Rule
step_anew_by boots connects p q =
    first_of (settled_breach_by boots connects p q) (unless (fails_right p q) rules.Fails (unless (one_ask p q) rules.OneAsk (end_anew p q)))

-- the first rule that a settled prefix breaks, where none is broken up to the one before it
abbrev pub late_breach : Plan → Record → Option Rule
late_breach p q =
    if only_connections q then connection_breach p q else
    (if is_idle p q then None else
    (if is_well_bound p q then None else (if only_stirs p q then stirred_breach p q else step_anew_by (boot_kept p q) (conn_kept p q) p q)))

-- the breach at an entry, where none is broken up to it
abbrev pub late_place_breach : Plan → Entry → Record → Option Breach
late_place_breach p (Got e) before = first_of (at (length before) (late_breach p before)) (at (length before + 1) (entry_breach p (Got e) before))
late_place_breach p (Told a) before = at (length before + 1) (entry_breach p (Told a) before)
