-- What a text of jobs says. It is read as a script: each of its lines is one of the script, and services stand for the jobs.
use Rattle.std.specs.Prelude.{ℕ, ◌≡◌, ◌^◌, ◌+◌, Bool, true, false, not, ◌&&◌, ◌||◌, ◌==◌, if◌then◌else◌, List, [], ◌∷◌, ◌++◌, codes, Option, Some, None, Result, Ok, Err}
use Rattle.std.specs.List.{list_all}
use Rattle.std.specs.Option.{option_map, option_to_list}
use Rattle.std.specs.Str.{bytes_eq}
use Rattle.std.specs.Str.Lines.{lines}
use Rattle.svc_record.specs.declared.item.Item.{Item}
use Rattle.svc_base.specs.Options.{◌>>=◌}
use Rattle.svc_base.specs.Words.{number_of, words}
use Rattle.svc_text.specs.EventLines.{item_of}
use Rattle.svc_text.specs.Script.{Parts, is_header, is_skipped, script_of}
use Rattle.svc_job_host.specs.JobHosts.{is_job_item}
use Rattle.svc_main.specs.TextLines.{is_daemon, part_with}
use Rattle.svc_jobs.specs.declared.job_line.JobWords.{JobWords}

-- a line that no script has: its byte is no text
abbrev pub no_line : List ℕ
no_line = 255 ∷ []

-- what a job's line says: its name, its period in milliseconds, and the jobs that it comes after, as they are written
pub record JobLine : Type 0 where
  pub name : List ℕ
  pub every : ℕ
  pub after : Option (List ℕ)

-- what the words of a job's line say
abbrev pub job_said : JobWords → JobLine
job_said job = record { name = job.name.now; every = job.every; after = option_map (λ (value : _). value.now) job.after }

-- a period: a number above 0
abbrev pub period_in : ℕ → Option ℕ
period_in n = if n == 0 then None else Some n

-- the period that a word says
unfoldable pub period_of : List ℕ → Option ℕ
period_of word = number_of (2 ^ 64) word >>= period_in

-- the number is a period
abbrev pub is_period : ℕ → Bool
is_period n = not (n == 0)

-- each of the numbers is
abbrev pub ArePeriods : List ℕ → Type 0
ArePeriods periods = list_all is_period periods ≡ true

-- what the last words of a job's line say: nothing, or `after N,N`
unfoldable pub after_of : List (List ℕ) → Option (Option (List ℕ))
after_of [] = Some None
after_of (key ∷ value ∷ []) = if bytes_eq key (codes "after") then Some (Some value) else None
after_of _ = None

-- what the words of a line say of a job: `NAME every MS`, and perhaps `after N,N`
unfoldable pub job_of : List (List ℕ) → Option JobLine
job_of (name ∷ key ∷ ms ∷ more) =
    if bytes_eq key (codes "every") then
    (period_of ms >>= λ every. after_of more >>= λ after. Some (record { name = name; every = every; after = after })) else None
job_of _ = None

-- the words of a service's line behind its kind
abbrev pub after_text : Option (List ℕ) → List ℕ
after_text None = []
after_text (Some value) = codes " after " ++ value

-- the line of the service that stands for a job: it says by itself when it is ready
abbrev pub service_line : Option JobLine → List ℕ
service_line None = no_line
service_line (Some job) = job.name ++ (codes " notify" ++ after_text job.after)

-- the line, where it may stand; else one that no script has
abbrev pub kept : Bool → List ℕ → List ℕ
kept may_stand line = if may_stand then line else no_line

-- the item is a moment, a signal or a fault
abbrev pub is_job_event : Option Item → Bool
is_job_event None = false
is_job_event (Some item) = is_job_item item

-- the script's line of one that begins no part, behind so many beginnings of parts
unfoldable pub inner_line : ℕ → List ℕ → List ℕ
inner_line part line =
    if part == 1 then kept (not (is_daemon line)) line
    else (if is_skipped (words line) then line
    else (if part == 2 then service_line (job_of (words line))
    else (if part == 3 then kept (is_job_event (item_of (words line))) line else line)))

-- the script's line of a line of jobs, behind so many beginnings of parts: the part of the jobs is that of the services
unfoldable pub script_line : ℕ → List ℕ → List ℕ
script_line part line =
    if bytes_eq line (codes "%jobs") then codes "%services"
    else (if bytes_eq line (codes "%services") then no_line
    else (if is_header line then line else inner_line part line))

-- the script's lines of these, behind so many beginnings of parts
abbrev pub script_lines_from : ℕ → List (List ℕ) → List (List ℕ)
script_lines_from part [] = []
script_lines_from part (line ∷ more) = script_line part line ∷ script_lines_from (part_with part (script_line part line)) more

-- the period that one more line says, behind so many beginnings of parts, which begins one itself or not
unfoldable pub said_period : ℕ → Bool → List ℕ → List ℕ
said_period part begins line =
    if (part == 2) && not (begins || is_skipped (words line)) then option_to_list (option_map (λ (job : JobLine). job.every) (job_of (words line))) else []

-- the periods that these lines say
abbrev pub periods_from : ℕ → List (List ℕ) → List ℕ
periods_from part [] = []
periods_from part (line ∷ more) = said_period part (is_header (script_line part line)) line ++ periods_from (part_with part (script_line part line)) more

-- what a text of jobs says: the configuration, the jobs' services and the items, as a script has them; and the jobs' periods, by number
pub record JobParts : Type 0 where
  pub script : Parts
  pub periods : List ℕ

-- what lines say of jobs, where they say a script
abbrev pub with_periods : List ℕ → Result Parts ℕ → Result JobParts ℕ
with_periods periods (Ok parts) = Ok (record { script = parts; periods = periods })
with_periods periods (Err n) = Err n

-- the lines of the script that a text of jobs is read as
abbrev pub script_lines : List ℕ → List (List ℕ)
script_lines bytes = script_lines_from 0 (lines bytes)

-- what the bytes say of jobs, or the number of the first refused line
unfoldable pub jobs_in : List ℕ → Result JobParts ℕ
jobs_in bytes = with_periods (periods_from 0 (lines bytes)) (script_of (script_lines bytes))
