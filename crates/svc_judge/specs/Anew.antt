-- What of a settled prefix is looked at anew, where no rule was broken up to the one before it.
use Rattle.std.specs.Prelude.{ℕ, Bool, true, false, ◌==◌, not, ◌&&◌, ◌||◌, [], ◌∷◌, Option, None, if◌then◌else◌}
use Rattle.std.specs.List.{list_all}
use Rattle.svc_record.specs.declared.plan.Plan.{Plan}
use Rattle.svc_record.specs.declared.entry.Entry.{Entry}
use Rattle.svc_record.specs.declared.entry.Entry.TheVariants.{Got, Told}
use Rattle.svc_record.specs.declared.event.Event.TheVariants.{Arrived, Set, Shaken, Finished}
use Rattle.svc_record.specs.declared.action.Action.TheVariants.{Judged, Refuse, Settings as TellSettings, Handshake, Serve, Drop, Cut, Phase}
use Rattle.svc_record.specs.declared.action.ExecutionPhase.TheVariants.{ShutdownRuntimes}
use Rattle.svc_record.specs.Record.{Record, each_entry}
use Rattle.svc_record.specs.Boot.{boot_entries_right, stands_first, fork_first, start_after_boot}
use Rattle.svc_record.specs.Connections.{Arrival, arrivals, connection_right, rests_right, rest_due}
use Rattle.svc_judge.specs.declared.judging.Rule.{Rule}
use Rattle.svc_judge.specs.declared.judging.Rule.TheVariants as rules
use Rattle.svc_judge.specs.Verdicts.{unless, step_breach_by}

-- what stands before the last event
abbrev pub earlier : Record → Record
earlier [] = []
earlier (Got e ∷ before) = before
earlier (Told a ∷ before) = earlier before

-- the last event and what was told since pass the test
abbrev pub each_new : (Entry → Record → Bool) → Record → Bool
each_new test [] = true
each_new test (Got e ∷ before) = test (Got e) before
each_new test (Told a ∷ before) = test (Told a) before && each_new test before

-- the entry is of a connection, and ends it in no way that the end of the run does
abbrev pub is_of_connection : Entry → Bool
is_of_connection (Got (Arrived s i n peer)) = true
is_of_connection (Got (Set n ok)) = true
is_of_connection (Got (Shaken n ok)) = true
is_of_connection (Got (Finished n)) = true
is_of_connection (Told (Judged n said)) = true
is_of_connection (Told (Refuse n)) = true
is_of_connection (Told (TellSettings n list)) = true
is_of_connection (Told (Handshake n)) = true
is_of_connection (Told (Serve n)) = true
is_of_connection (Told (Drop n)) = true
is_of_connection _ = false

-- there is an event, and the last one and what was told since are of connections
abbrev pub only_connections : Record → Bool
only_connections [] = false
only_connections (Got e ∷ before) = is_of_connection (Got e)
only_connections (Told a ∷ before) = is_of_connection (Told a) && only_connections before

-- the entry is of this connection, or cuts what is left of any
abbrev pub touches : ℕ → Entry → Bool
touches c (Got (Arrived s i n peer)) = n == c
touches c (Got (Set n ok)) = n == c
touches c (Got (Shaken n ok)) = n == c
touches c (Got (Finished n)) = n == c
touches c (Told (Judged n said)) = n == c
touches c (Told (Refuse n)) = n == c
touches c (Told (TellSettings n list)) = n == c
touches c (Told (Handshake n)) = n == c
touches c (Told (Serve n)) = n == c
touches c (Told (Drop n)) = n == c
touches c (Told (Cut n)) = n == c
touches c (Told (Phase ShutdownRuntimes ms)) = true
touches c _ = false

-- the last event, or what was told since, is of the connection
abbrev pub is_touched : ℕ → Record → Bool
is_touched c [] = false
is_touched c (Got e ∷ before) = touches c (Got e)
is_touched c (Told a ∷ before) = touches c (Told a) || is_touched c before

-- the connection is right, if it is touched
unfoldable pub is_connection_kept : Plan → Record → Arrival → Bool
is_connection_kept p q x = not (is_touched x.number q) || connection_right p q x

-- each connection that is touched is right
abbrev pub connections_kept : Plan → Record → Bool
connections_kept p q = list_all (is_connection_kept p q) (arrivals q)

-- what is asked of connections, where it held before the last event
abbrev pub conn_kept : Plan → Record → Bool
conn_kept p q = (connections_kept p q && rests_right q) && each_entry rest_due q

-- what is asked of the beginning, where it held before the last event
abbrev pub boot_kept : Plan → Record → Bool
boot_kept p q = boot_entries_right p q && ((each_entry stands_first q && each_new (fork_first p) q) && each_entry (start_after_boot p) q)

-- the first rule that a settled prefix breaks after entries of connections alone
abbrev pub connection_breach : Plan → Record → Option Rule
connection_breach p q = unless (each_new (fork_first p) q) rules.Bootstrapping (unless (connections_kept p q) rules.Connections None)

-- the first rule that a settled prefix breaks, where none is broken up to the one before it
abbrev pub new_breach : Plan → Record → Option Rule
new_breach p q = if only_connections q then connection_breach p q else step_breach_by (boot_kept p q) (conn_kept p q) p q
