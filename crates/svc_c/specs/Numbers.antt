-- The numbers that the calls answer, and their texts.
use Rattle.std.specs.Prelude.{ℕ, ◌==◌, List, codes, Some, None, Result, Ok, Err, if◌then◌else◌}
use Rattle.svc_record.specs.declared.action.StepEnd.{StepEnd}
use Rattle.svc_record.specs.declared.action.StepEnd.TheVariants.{On, Served, Tested, Parent, Ended}
use Rattle.svc_record.specs.declared.action.BootstrapError.TheVariants.{Transfer, NoSender, BadMessage}
use Rattle.svc_c.specs.declared.making.MakeError.{MakeError}
use Rattle.svc_c.specs.declared.making.MakeError.TheVariants as making
use Rattle.svc_c.specs.declared.session.Asked.{Asked}
use Rattle.svc_c.specs.declared.session.StepError.{StepError}
use Rattle.svc_c.specs.declared.session.StepError.TheVariants.{NoMemory, NoEvent, Stray, Order}
use Rattle.svc_c.specs.declared.session.ToldError.{ToldError}
use Rattle.svc_c.specs.declared.session.ToldError.TheVariants as told

-- how a run has ended; 0 where it goes on
abbrev pub end_number : StepEnd → ℕ
end_number On = 0
end_number Served = 1
end_number Tested = 2
end_number (Parent n) = if n == 0 then 3 else 4
end_number (Ended Transfer) = 5
end_number (Ended NoSender) = 6
end_number (Ended BadMessage) = 7

-- why no session was made
abbrev pub make_number : MakeError → ℕ
make_number making.NoMemory = 16
make_number (making.Line n) = 17
make_number (making.Config key) = 18

-- why a call of a session was refused
abbrev pub error_number : StepError → ℕ
error_number NoMemory = 16
error_number NoEvent = 19
error_number Stray = 20
error_number Order = 21

-- what a step answered
abbrev pub step_number : Result StepEnd StepError → ℕ
step_number (Ok end) = end_number end
step_number (Err error) = error_number error

-- whether a filter is asked
abbrev pub asked_number : Asked → ℕ
asked_number asked = elim asked.filter [ None ↦ 0 | Some f ↦ 1 ]

-- what is asked at an event
abbrev pub fits_number : Result Asked StepError → ℕ
fits_number (Ok asked) = asked_number asked
fits_number (Err error) = error_number error

-- what a close answered
abbrev pub close_number : Result (Unit {0}) StepError → ℕ
close_number (Ok _) = 0
close_number (Err error) = error_number error

-- whether the lines were written
abbrev pub told_number : Result ℕ ToldError → ℕ
told_number (Ok n) = 0
told_number (Err told.NoMemory) = 16
told_number (Err (told.TooShort n)) = 22

-- the text of a number
abbrev pub reason : ℕ → List ℕ
reason n =
    if n == 0 then codes "the run goes on"
    else (if n == 1 then codes "the run went through its shutdown"
    else (if n == 2 then codes "the run tested that it can start"
    else (if n == 3 then codes "this process is the parent of the server's, which is ready or isn't waited for"
    else (if n == 4 then codes "this process is the parent of the server's, which isn't ready"
    else (if n == 5 then codes "a try to receive the sockets of an older server failed"
    else (if n == 6 then codes "no older server sent its sockets"
    else (if n == 7 then codes "what the older server sent is no message"
    else (if n == 16 then codes "out of memory"
    else (if n == 17 then codes "a line of the script is refused"
    else (if n == 18 then codes "the configuration is refused"
    else (if n == 19 then codes "the line is no event"
    else (if n == 20 then codes "the event doesn't fit"
    else (if n == 21 then codes "the call came out of its order"
    else (if n == 22 then codes "the buffer is too short"
    else codes "no call answers this number"))))))))))))))
