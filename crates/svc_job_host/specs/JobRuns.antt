-- What the run of a server over a host of jobs leaves.
use Rattle.std.specs.Prelude.{ℕ, Bool, true, ◌≡◌, ◌++◌, ◌≤◌, List, length, map, take, Option, Some, Result, Err, slice_get}
use Rattle.std.specs.List.{list_all}
use Rattle.svc_record.specs.declared.plan.Plan.{Plan}
use Rattle.svc_record.specs.declared.entry.Entry.{Entry}
use Rattle.svc_record.specs.declared.entry.Entry.TheVariants.{Told}
use Rattle.svc_record.specs.declared.action.Action.TheVariants.{Start}
use Rattle.svc_record.specs.Plans.{depends}
use Rattle.svc_record.specs.declared.item.Item.TheVariants as items
use Rattle.svc_record.specs.Record.{Record, each_entry}
use Rattle.svc_server.specs.declared.run.Outcome.{Outcome}
use Rattle.svc_server.specs.declared.run.RunError.{RunError}
use Rattle.svc_server.specs.declared.run.RunError.TheVariants.{HostFault, TurnsSpent, OutOfEvents, NoMemory}
use Rattle.svc_job_host.specs.Dues.{due_runs, has_run}
use Rattle.svc_job_host.specs.Readies.{first_runs, readies_since, readies_right, are_told, items_of}
use Rattle.svc_job_host.specs.Rows.{owing}
use Rattle.svc_job_host.specs.JobHostData.{JobHostData}
use Rattle.svc_job_host.specs.JobHosts.{is_job_entry, head_due, AreHeard}
use Rattle.svc_job_host.specs.Timetables.{periods_of}

-- what a host of jobs tells at any time: its runs are those that are due by its record; its jobs said that they are ready in turn; its items are
-- given in order, and hold no fault so far; and the jobs were told the due numbers of their runs
pub record TellsJobs {J : Type 0} (told : J → Option (List ℕ)) (host : JobHostData J) : Type 0 where
  pub runs : host.runs ≡ due_runs (periods_of host.plans) host.entries
  pub in_turn : readies_right (periods_of host.plans) host.entries ≡ true
  pub given : map items.Event (items_of host.entries) ≡ take host.given host.items
  pub within : host.given ≤ length host.items
  pub heard : AreHeard (map told host.jobs) host.runs

-- what it keeps besides, of its record
pub record KeepsWords (periods : List ℕ) (q : Record) : Type 0 where
  pub words : first_runs periods q ≡ readies_since q ++ owing periods q
  pub heads : each_entry (head_due periods) q ≡ true
  pub only_jobs : each_entry (λ e before. is_job_entry e) q ≡ true

-- after such an answer each job that ran for the first time at the last item has said that it is ready
abbrev pub EndsTold : Result Outcome RunError → List ℕ → Record → Type 0
EndsTold (Err TurnsSpent) periods q = Unit {0}
EndsTold (Err NoMemory) periods q = Unit {0}
EndsTold answer periods q = are_told periods q ≡ true

-- what comes next after such an answer: a fault where the host failed, and nothing where nothing came
abbrev pub ComesNext : {J : Type 0} → Result Outcome RunError → JobHostData J → Type 0
ComesNext (Err HostFault) host = slice_get host.items host.given ≡ Some items.Fault
ComesNext (Err OutOfEvents) host = host.given ≡ length host.items
ComesNext answer host = Unit {0}

-- a job starts after each job that it depends on has run
abbrev pub start_after_runs : Plan → List ℕ → Entry → Record → Bool
start_after_runs p periods (Told (Start s)) before = list_all (has_run periods before) (depends p s)
start_after_runs p periods _ before = true
