-- What the lines of a part say that services do.
use Rattle.std.specs.Prelude.{ℕ, ◌^◌, nat_lt, nat_le, ◌==◌, if◌then◌else◌, ◌&&◌, List, [], ◌∷◌, length, codes, position, Option, Some, None}
use Rattle.std.specs.Option.{option_map, option_or}
use Rattle.std.specs.Str.{bytes_eq, is_utf8}
use Rattle.svc_base.specs.Options.{◌>>=◌}
use Rattle.svc_base.specs.Words.{number_of}
use Rattle.svc_work.specs.declared.works.Work.{Work}
use Rattle.svc_work.specs.declared.works.Work.TheVariants.{Echo, ForwardTcp, ForwardUnix, Ready, Gate, Jobs}
use Rattle.svc_work.specs.declared.works.WorkFile.{WorkFile}
use Rattle.svc_work.specs.declared.works.WorkFile.TheVariants as files
use Rattle.svc_work.specs.declared.works.WorkLine.{WorkLine}

-- the address or path that a word is: a text of 1 to 4,096 bytes
unfoldable pub address_of : List ℕ → Option (List ℕ)
address_of word = if is_utf8 word && (nat_lt 0 (length word) && nat_le (length word) 4096) then Some word else None

-- `echo`
unfoldable pub bare_work : List ℕ → Option Work
bare_work word = if bytes_eq word (codes "echo") then Some Echo else None

-- `MS` behind `ready`
unfoldable pub ready_of : List ℕ → Option Work
ready_of value = option_map Ready (number_of (2 ^ 64) value)

-- `FILE` behind `gate`
unfoldable pub gate_of : List ℕ → Option Work
gate_of value = option_map Gate (address_of value)

-- `FILE` behind `jobs`
unfoldable pub jobs_of : List ℕ → Option Work
jobs_of value = option_map Jobs (address_of value)

-- `ready MS`, `gate FILE` or `jobs FILE`
unfoldable pub short_work : List ℕ → List ℕ → Option Work
short_work word value =
    if bytes_eq word (codes "ready") then ready_of value
    else (if bytes_eq word (codes "gate") then gate_of value
    else (if bytes_eq word (codes "jobs") then jobs_of value else None))

-- the work of forwarding to this kind of address
abbrev pub forward_to : List ℕ → List ℕ → Option Work
forward_to kind text =
    if bytes_eq kind (codes "tcp") then Some (ForwardTcp text) else (if bytes_eq kind (codes "unix") then Some (ForwardUnix text) else None)

-- `tcp ADDRESS` or `unix PATH`
unfoldable pub forward_of : List ℕ → List ℕ → Option Work
forward_of kind value = address_of value >>= forward_to kind

-- `forward tcp ADDRESS` or `forward unix PATH`
unfoldable pub long_work : List ℕ → List ℕ → List ℕ → Option Work
long_work word kind value = if bytes_eq word (codes "forward") then forward_of kind value else None

-- what these words say that a service does
unfoldable pub work_of : List (List ℕ) → Option Work
work_of (word ∷ []) = bare_work word
work_of (word ∷ value ∷ []) = short_work word value
work_of (word ∷ kind ∷ value ∷ []) = long_work word kind value
work_of _ = None

-- the number of the first service with this name
abbrev pub service_named : List (List ℕ) → List ℕ → Option ℕ
service_named names word = position (λ name. bytes_eq name word) names

-- what the words of a line say, where the services have these names: the number of a service, and what that does
unfoldable pub line_of : List (List ℕ) → List (List ℕ) → Option WorkLine
line_of names [] = None
line_of names (name ∷ rest) = service_named names name >>= λ s. option_map (λ work. record { service = s; work = work }) (work_of rest)

-- the path that a work says for such a file
abbrev pub file_in : WorkFile → Work → Option (List ℕ)
file_in files.Gate (Gate path) = Some path
file_in files.Jobs (Jobs path) = Some path
file_in _ _ = None

-- the path that a line says for such a file of this service
abbrev pub path_in : WorkFile → ℕ → WorkLine → Option (List ℕ)
path_in file service line = if line.service == service then file_in file line.work else None

-- the path that the last of these lines says for such a file of this service; without one that was found before
abbrev pub path_after : WorkFile → ℕ → Option (List ℕ) → List WorkLine → Option (List ℕ)
path_after file service found [] = found
path_after file service found (line ∷ more) = path_after file service (option_or (path_in file service line) found) more

-- the same of all lines
abbrev pub file_path : WorkFile → ℕ → List WorkLine → Option (List ℕ)
file_path file service works = path_after file service None works
