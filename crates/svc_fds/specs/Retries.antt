-- What follows an answer, by what was answered before.
use Rattle.std.specs.Prelude.{ℕ, ◌≡◌, ◌+◌, ◌-◌, Bool, true, false, List, [], ◌∷◌, nat_lt, if◌then◌else◌}
use Rattle.svc_fds.specs.declared.retry.SendAnswer.{SendAnswer}
use Rattle.svc_fds.specs.declared.retry.SendAnswer.TheVariants.{Connected, NotThere, StillConnecting, ConnectFailed, Sent, SendBusy, SendFailed}
use Rattle.svc_fds.specs.declared.retry.SendNext.{SendNext}
use Rattle.svc_fds.specs.declared.retry.SendNext.TheVariants as sends
use Rattle.svc_fds.specs.declared.retry.ReceiveKind.{ReceiveKind}
use Rattle.svc_fds.specs.declared.retry.ReceiveKind.TheVariants as kinds
use Rattle.svc_fds.specs.declared.retry.ReceiveNext.{ReceiveNext}
use Rattle.svc_fds.specs.declared.retry.ReceiveNext.TheVariants as receives
use Rattle.svc_fds.specs.declared.errors.SendError.TheVariants as send_errors
use Rattle.svc_fds.specs.declared.errors.ReceiveError.TheVariants as receive_errors
use Rattle.svc_fds.specs.RetriesLeft.{RetriesLeft}

-- the receiver wasn't there
abbrev pub is_absence : SendAnswer → Bool
is_absence Connected = false
is_absence NotThere = true
is_absence StillConnecting = false
is_absence ConnectFailed = false
is_absence Sent = false
is_absence SendBusy = false
is_absence SendFailed = false

-- the receiver was busy, at a connect or at a send
abbrev pub is_delay : SendAnswer → Bool
is_delay Connected = false
is_delay NotThere = false
is_delay StillConnecting = true
is_delay ConnectFailed = false
is_delay Sent = false
is_delay SendBusy = true
is_delay SendFailed = false

-- how often the receiver wasn't there, and how often it was busy. Lists of answers have the newest first
abbrev pub absences : List SendAnswer → ℕ
absences [] = 0
absences (answer ∷ answers) = absences answers + (if is_absence answer then 1 else 0)

abbrev pub delays : List SendAnswer → ℕ
delays [] = 0
delays (answer ∷ answers) = delays answers + (if is_delay answer then 1 else 0)

-- what follows an answer: the limit plus first missing receiver and the twentieth busy answer end it
abbrev pub send_next : ℕ → List SendAnswer → SendAnswer → SendNext
send_next limit earlier Connected = sends.Send 0
send_next limit earlier NotThere = if nat_lt limit (absences earlier + 1) then sends.Refused send_errors.NoReceiver else sends.Connect 1000
send_next limit earlier StillConnecting = if nat_lt (delays earlier + 1) 20 then sends.Connect 500 else sends.Refused send_errors.StillBusy
send_next limit earlier ConnectFailed = sends.Refused send_errors.Transfer
send_next limit earlier Sent = sends.Done
send_next limit earlier SendBusy = if nat_lt (delays earlier + 1) 20 then sends.Send 500 else sends.Refused send_errors.StillBusy
send_next limit earlier SendFailed = sends.Refused send_errors.Transfer

-- what comes after these answers; a connect without a rest is the first
abbrev pub after_sends : ℕ → List SendAnswer → SendNext
after_sends limit [] = sends.Connect 0
after_sends limit (answer ∷ earlier) = send_next limit earlier answer

-- the state after these answers
pub record IsAfterSends (limit : ℕ) (answers : List SendAnswer) (state : RetriesLeft) : Type 0 where
  pub absences : state.absences ≡ limit - absences answers
  pub delays : state.delays ≡ 19 - delays answers

-- nobody sent yet
abbrev pub is_missing : ReceiveKind → Bool
is_missing kinds.Came = false
is_missing kinds.NotYet = true
is_missing kinds.Failed = false

-- how often nobody sent yet
abbrev pub missing : List ReceiveKind → ℕ
missing [] = 0
missing (answer ∷ answers) = missing answers + (if is_missing answer then 1 else 0)

-- what follows an answer: the limit plus first missing sender ends it
abbrev pub receive_next : ℕ → List ReceiveKind → ReceiveKind → ReceiveNext
receive_next limit earlier kinds.Came = receives.Done
receive_next limit earlier kinds.NotYet = if nat_lt limit (missing earlier + 1) then receives.Refused receive_errors.NoSender else receives.Receive 1000
receive_next limit earlier kinds.Failed = receives.Refused receive_errors.Transfer

-- what comes after these answers; a receive without a rest is the first
abbrev pub after_receives : ℕ → List ReceiveKind → ReceiveNext
after_receives limit [] = receives.Receive 0
after_receives limit (answer ∷ earlier) = receive_next limit earlier answer

-- the state after these answers
abbrev pub IsAfterReceives : ℕ → List ReceiveKind → ℕ → Type 0
IsAfterReceives limit answers state = state ≡ limit - missing answers
