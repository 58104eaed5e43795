-- How the status line of a record says that its run ended.
use Rattle.std.specs.Prelude.{ℕ, Bool, false, ◌^◌, ◌&&◌, is_some, if◌then◌else◌, List, [], ◌∷◌, codes, Option, Some, None}
use Rattle.std.specs.Str.{bytes_eq}
use Rattle.svc_base.specs.Words.{number_of, words}
use Rattle.svc_judging.specs.declared.status_lines.RecordEnd.{RecordEnd}
use Rattle.svc_judging.specs.declared.status_lines.RecordEnd.TheVariants.{Served, Closed, Stray}

-- the end of a run that neither served nor had an event that didn't fit
unfoldable pub closed_end : List ℕ → Option RecordEnd
closed_end line =
    if bytes_eq line (codes "status out of events") then Some Closed
    else (if bytes_eq line (codes "status host fault") then Some Closed
    else (if bytes_eq line (codes "status turns spent") then Some Closed
    else (if bytes_eq line (codes "status tested") then Some Closed
    else (if bytes_eq line (codes "status parent 0") then Some Closed
    else (if bytes_eq line (codes "status parent 1") then Some Closed
    else (if bytes_eq line (codes "status transfer") then Some Closed
    else (if bytes_eq line (codes "status no sender") then Some Closed
    else (if bytes_eq line (codes "status bad message") then Some Closed else None))))))))

-- the words are `status stray` and a number
unfoldable pub is_stray : List (List ℕ) → Bool
is_stray (first ∷ second ∷ third ∷ []) = (bytes_eq first (codes "status") && bytes_eq second (codes "stray")) && is_some (number_of (2 ^ 64) third)
is_stray _ = false

-- how the line says that the run ended, if it is the status line of a run with a record
unfoldable pub end_of : List ℕ → Option RecordEnd
end_of line = if bytes_eq line (codes "status served") then Some Served else (if is_stray (words line) then Some Stray else closed_end line)
