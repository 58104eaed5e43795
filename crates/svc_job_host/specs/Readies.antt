-- When jobs say that they are ready: after the moment of their first run, before the next item. Items are the events that aren't `Ready`.
use Rattle.std.specs.Prelude.{ℕ, Bool, true, List, [], ◌∷◌, ◌++◌, length, take, bytes_eq}
use Rattle.svc_record.specs.declared.entry.Entry.{Entry}
use Rattle.svc_record.specs.declared.entry.Entry.TheVariants.{Got, Told}
use Rattle.svc_record.specs.declared.event.Event.{Event}
use Rattle.svc_record.specs.declared.event.Event.TheVariants.{Moment, Ready}
use Rattle.svc_record.specs.Record.{Record, each_entry}
use Rattle.svc_job_host.specs.Dues.{firsts_at}

-- the jobs whose first run was at the last item, in ascending number
abbrev pub first_runs : List ℕ → Record → List ℕ
first_runs periods [] = []
first_runs periods (Got (Moment m) ∷ before) = firsts_at periods before m
first_runs periods (Got (Ready s) ∷ before) = first_runs periods before
first_runs periods (Got e ∷ before) = []
first_runs periods (Told a ∷ before) = first_runs periods before

-- the jobs whose `Ready` stands after the last item, the oldest first
abbrev pub readies_since : Record → List ℕ
readies_since [] = []
readies_since (Got (Ready s) ∷ before) = readies_since before ++ s ∷ []
readies_since (Got e ∷ before) = []
readies_since (Told a ∷ before) = readies_since before

-- the numbers are the first of those
abbrev pub is_front : List ℕ → List ℕ → Bool
is_front front numbers = bytes_eq (take (length front) numbers) front

-- each job whose first run was at the last item, and no other, has said that it is ready
abbrev pub are_told : List ℕ → Record → Bool
are_told periods q = bytes_eq (readies_since q) (first_runs periods q)

-- an item comes when they all have; and they do in ascending number
abbrev pub ready_due : List ℕ → Entry → Record → Bool
ready_due periods (Got (Ready s)) before = is_front (readies_since before ++ s ∷ []) (first_runs periods before)
ready_due periods (Got e) before = are_told periods before
ready_due periods (Told a) before = true

-- so it is with each entry of the record
abbrev pub readies_right : List ℕ → Record → Bool
readies_right periods q = each_entry (ready_due periods) q

-- the events other than `Ready`, the oldest first
abbrev pub items_of : Record → List Event
items_of [] = []
items_of (Got (Ready s) ∷ before) = items_of before
items_of (Got e ∷ before) = items_of before ++ e ∷ []
items_of (Told a ∷ before) = items_of before
