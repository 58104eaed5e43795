-- The status lines, and the statuses that go with them.
use Rattle.std.specs.Prelude.{ℕ, ◌^◌, ◌<◌, ◌≤◌, ◌==◌, if◌then◌else◌, List, [], ◌∷◌, ◌++◌, codes}
use Rattle.std.specs.Fmt.{decimal}
use Rattle.svc_conf.specs.Keys.{key_name}
use Rattle.svc_record.specs.declared.action.BootstrapError.TheVariants.{Transfer, NoSender, BadMessage}
use Rattle.svc_main.specs.declared.outcome.RunEnd.{RunEnd}
use Rattle.svc_main.specs.declared.outcome.RunEnd.TheVariants.{Served, Tested, Parent, Config, HostFault, Bootstrap, Stray, OutOfEvents}
use Rattle.svc_main.specs.declared.outcome.StatusLine.{StatusLine}
use Rattle.svc_main.specs.declared.outcome.StatusLine.TheVariants.{Words, Line, ReadFault, Run}

-- how a run's end is printed
abbrev pub end_text : RunEnd → List ℕ
end_text Served = codes "served"
end_text Tested = codes "tested"
end_text (Parent n) = codes "parent " ++ decimal n
end_text (Config key) = codes "config " ++ key_name key
end_text HostFault = codes "host fault"
end_text (Bootstrap Transfer) = codes "transfer"
end_text (Bootstrap NoSender) = codes "no sender"
end_text (Bootstrap BadMessage) = codes "bad message"
end_text (Stray k) = codes "stray " ++ decimal k
end_text OutOfEvents = codes "out of events"

-- how a status line is printed
abbrev pub status_text : StatusLine → List ℕ
status_text Words = codes "status words"
status_text (Line n) = codes "status line " ++ decimal n
status_text ReadFault = codes "status read fault"
status_text (Run end) = codes "status " ++ end_text end

-- the status line with its line feed
abbrev pub status_line : StatusLine → List ℕ
status_line s = status_text s ++ (10 ∷ [])

-- the number of a run's end is one of its type
abbrev pub EndFits : RunEnd → Type 0
EndFits (Parent n) = n < 2 ^ 8
EndFits (Stray k) = k < 2 ^ 64
EndFits end = Unit {0}

-- the number of a status line is one of its type
abbrev pub StatusFits : StatusLine → Type 0
StatusFits Words = Unit {0}
StatusFits (Line n) = n < 2 ^ 64
StatusFits ReadFault = Unit {0}
StatusFits (Run end) = EndFits end

-- the status that goes with a run's end
abbrev pub end_status : RunEnd → ℕ
end_status Served = 0
end_status Tested = 0
end_status (Parent n) = if n == 0 then 0 else 1
end_status (Config key) = 4
end_status HostFault = 4
end_status (Bootstrap error) = 4
end_status (Stray k) = 4
end_status OutOfEvents = 4

-- the status that goes with the line
abbrev pub status_of : StatusLine → ℕ
status_of Words = 2
status_of (Line n) = 3
status_of ReadFault = 5
status_of (Run end) = end_status end

-- no other status is answered
abbrev pub IsStatus : ℕ → Type 0
IsStatus n = n ≤ 7
