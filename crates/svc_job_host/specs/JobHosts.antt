-- What a host of jobs keeps.
use Rattle.std.specs.Prelude.{ℕ, Bool, true, false, ◌≡◌, ◌==◌, ◌-◌, ◌<◌, ◌≤◌, List, [], ◌∷◌, ◌++◌, length, map, filter, take, drop, bytes_eq, Option, Some, slice_get}
use Rattle.std.specs.List.{list_all}
use Rattle.svc_record.specs.declared.entry.Entry.{Entry}
use Rattle.svc_record.specs.declared.entry.Entry.TheVariants.{Got, Told}
use Rattle.svc_record.specs.declared.event.Event.{Event}
use Rattle.svc_record.specs.declared.event.Event.TheVariants.{Moment, Ready, Signal}
use Rattle.svc_record.specs.declared.item.Item.{Item}
use Rattle.svc_record.specs.declared.item.Item.TheVariants as items
use Rattle.svc_record.specs.Record.{Record, each_entry}
use Rattle.svc_job_host.specs.declared.plan.JobRun.{JobRun}
use Rattle.svc_job_host.specs.Readies.{first_runs, readies_since, readies_right, items_of}
use Rattle.svc_job_host.specs.Rows.{owing}
use Rattle.svc_job_host.specs.TimetableData.{TimetableData}
use Rattle.svc_job_host.specs.Timetables.{IsTimetableOf}

-- the event is one that an item of a host of jobs may be: a moment or a signal
abbrev pub is_job_event : Event → Bool
is_job_event (Moment m) = true
is_job_event (Signal kind) = true
is_job_event _ = false

-- the item is a moment, a signal or a fault
abbrev pub is_job_item : Item → Bool
is_job_item (items.Event e) = is_job_event e
is_job_item items.Fault = true

-- each of the items is
abbrev pub AreJobItems : List Item → Type 0
AreJobItems all = list_all is_job_item all ≡ true

-- the event is a moment, a signal or the word of a job
abbrev pub is_job_entry : Entry → Bool
is_job_entry (Got (Moment m)) = true
is_job_entry (Got (Signal kind)) = true
is_job_entry (Got (Ready s)) = true
is_job_entry (Got e) = false
is_job_entry (Told a) = true

-- nothing is in the list
abbrev pub is_none : List ℕ → Bool
is_none [] = true
is_none (n ∷ more) = false

-- a word is that of the first job that owes it, and an item comes where none does
abbrev pub head_due : List ℕ → Entry → Record → Bool
head_due periods (Got (Ready s)) before = bytes_eq (take 1 (owing periods before)) (s ∷ [])
head_due periods (Got e) before = is_none (owing periods before)
head_due periods (Told a) before = true

-- of these items so many were given, and the record with its table is of these and of the jobs' words; where the host failed, a fault comes next;
-- where nothing came, no item is left
pub record KeepsJobs (periods : List ℕ) (t : TimetableData) (all : List Item) (at : ℕ) (q : Record) (faults idles : ℕ) : Type 0 where
  pub table : IsTimetableOf periods t q
  pub words : first_runs periods q ≡ readies_since q ++ owing periods q
  pub in_turn : readies_right periods q ≡ true
  pub heads : each_entry (head_due periods) q ≡ true
  pub only_jobs : each_entry (λ e before. is_job_entry e) q ≡ true
  pub given : map items.Event (items_of q) ≡ take at all
  pub within : at ≤ length all
  pub faulted : 0 < faults → slice_get all at ≡ Some items.Fault
  pub faulted_last : 0 < faults → owing periods q ≡ []
  pub finished : 0 < idles → at ≡ length all
  pub finished_last : 0 < idles → owing periods q ≡ []

-- the due numbers of the runs of job s, in order
abbrev pub dues_of : ℕ → List JobRun → List ℕ
dues_of s runs = map (λ (run : JobRun). run.due) (filter (λ (run : JobRun). run.job == s) runs)

-- each job that tells what it was told was told the due numbers of its runs last, in order
abbrev pub AreHeard : List (Option (List ℕ)) → List JobRun → Type 0
AreHeard told runs = (s : ℕ) (numbers : List ℕ) → slice_get told s ≡ Some (Some numbers)
    → drop (length numbers - length (dues_of s runs)) numbers ≡ dues_of s runs
