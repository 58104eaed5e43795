-- Parts of the tests of a settled prefix, and what each rule of one asks.
use Rattle.std.specs.Prelude.{ℕ, Bool, not, ◌&&◌, ◌||◌}
use Rattle.std.specs.List.{list_all}
use Rattle.svc_record.specs.declared.plan.Plan.{Plan}
use Rattle.svc_graph.specs.declared.plan.Kind.TheVariants.{Bootstrap}
use Rattle.svc_record.specs.Record.{Record, each_entry, each_settled, before_runtimes}
use Rattle.svc_record.specs.Plans.{has_kind, endpoint_numbers}
use Rattle.svc_record.specs.Starts.{starts_right, start_known, start_due, start_right, is_started, startup_order}
use Rattle.svc_record.specs.Endpoints.{endpoint_right_late}
use Rattle.svc_record.specs.Offer.{offer_right, offer_due, retry_due, one_ask}
use Rattle.svc_record.specs.Ends.{before_boot, ends_tested, tested_right}
use Rattle.svc_record.specs.Drain.{phases_right, waits_are_over, every_moment_right}
use Rattle.svc_record.specs.Right.{serves_right, last_step_right}
use Rattle.svc_record.specs.AskRules.{ask_known}
use Rattle.svc_record.specs.Boot.{boot_due, try_due}
use Rattle.svc_record.specs.Closes.{close_once}
use Rattle.svc_record.specs.Connections.{connection_known}
use Rattle.svc_judge.specs.declared.settled.SettledRule.{SettledRule}
use Rattle.svc_judge.specs.declared.settled.SettledRule.TheVariants.{Serves, Phases, OneAsk, GoesOn}

-- while the offer goes on, one of its asks is open, or the last answer rests; and each ask of it was due
abbrev pub offer_kept : Plan → Record → Bool
offer_kept p q = offer_right p q && each_entry (offer_due p) q

-- each service is started exactly where it is due, and was due as it was started
abbrev pub starts_kept : Plan → Record → Bool
starts_kept p q = starts_right p q && each_entry (start_due p) q

-- the service bootstraps, and is started
abbrev pub is_booting : Plan → Record → ℕ → Bool
is_booting p q s = has_kind p Bootstrap s && is_started q s

-- the service's endpoints are held or wait
abbrev pub are_held : Plan → Record → ℕ → Bool
are_held p q s = list_all (endpoint_right_late p q s) (endpoint_numbers p s)

-- the services before the one by which bootstrapping began are started where they are due, and their endpoints are held or wait
abbrev pub all_visited_start : Plan → Record → Bool
all_visited_start p q = list_all (start_right p q) (before_boot p q (startup_order p))

abbrev pub all_visited_held : Plan → Record → Bool
all_visited_held p q = list_all (are_held p q) (before_boot p q (startup_order p))

-- the prefix keeps the rule
abbrev pub settled_test : SettledRule → Plan → Record → Bool
settled_test Serves p q = serves_right p q
settled_test Phases p q = phases_right p q
settled_test OneAsk p q = one_ask p q
settled_test GoesOn p q = not (waits_are_over p q)

-- what belongs to bootstrapping, tries and retries come when they are due
abbrev pub is_ordered : Plan → Record → Bool
is_ordered p r = (each_entry (boot_due p) r && each_entry try_due r) && each_entry retry_due r

-- only one ask of the offer is open at a time, and a run that was tested did what comes before
abbrev pub is_tested_well : Plan → Record → Bool
is_tested_well p r = each_settled (one_ask p) r && (not (ends_tested p r) || tested_right p r)

-- a run whose waits have passed ends with a right last step
abbrev pub is_last_well : Plan → Record → Bool
is_last_well p r = not (waits_are_over p r) || last_step_right p (before_runtimes r)

-- closes, the last step and moments are as they should be
abbrev pub is_ended_well : Plan → Record → Bool
is_ended_well p r = (each_entry (close_once p) r && is_last_well p r) && each_entry every_moment_right r

-- what is told is of the plan, or has arrived
abbrev pub is_known : Plan → Record → Bool
is_known p r = (each_entry (start_known p) r && each_entry (ask_known p) r) && each_entry (connection_known p) r
