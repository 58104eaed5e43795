-- What each rule of an entry asks.
use Rattle.std.specs.Prelude.{Bool}
use Rattle.svc_record.specs.declared.plan.Plan.{Plan}
use Rattle.svc_record.specs.declared.entry.Entry.{Entry}
use Rattle.svc_record.specs.Record.{Record}
use Rattle.svc_record.specs.Starts.{start_due, start_known}
use Rattle.svc_record.specs.AskRules.{ask_due, ask_known}
use Rattle.svc_record.specs.Boot.{boot_due, try_due, stands_first, fork_first, start_after_boot}
use Rattle.svc_record.specs.Offer.{offer_due, retry_due}
use Rattle.svc_record.specs.Closes.{close_once}
use Rattle.svc_record.specs.Connections.{rest_due, connection_known}
use Rattle.svc_record.specs.Drain.{moment_right, every_moment_right}
use Rattle.svc_record.specs.Fits.{event_fits}
use Rattle.svc_record.specs.Right.{close_due}
use Rattle.svc_judge.specs.declared.rules.EntryRule.{EntryRule}
use Rattle.svc_judge.specs.declared.rules.EntryRule.TheVariants as rules

-- the entry keeps the rule after what stands before it
abbrev pub entry_test : EntryRule → Plan → Entry → Record → Bool
entry_test rules.Fits p = event_fits p
entry_test rules.StartDue p = start_due p
entry_test rules.AskDue p = ask_due p
entry_test rules.BootDue p = boot_due p
entry_test rules.TryDue p = try_due
entry_test rules.RetryDue p = retry_due
entry_test rules.CloseOnce p = close_once p
entry_test rules.EveryMoment p = every_moment_right
entry_test rules.StartKnown p = start_known p
entry_test rules.AskKnown p = ask_known p
entry_test rules.ConnectionKnown p = connection_known p
entry_test rules.StandsFirst p = stands_first
entry_test rules.ForkFirst p = fork_first p
entry_test rules.StartAfterBoot p = start_after_boot p
entry_test rules.OfferDue p = offer_due p
entry_test rules.RestDue p = rest_due
entry_test rules.Moment p = moment_right
entry_test rules.CloseDue p = close_due p
