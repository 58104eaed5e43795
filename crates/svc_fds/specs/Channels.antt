-- What the answers of a channel say.
use Rattle.std.specs.Prelude.{ℕ, ◌≡◌, ◌≤◌, Bool, true, false, length}
use Rattle.svc_base.specs.Streams.{Rose}
use Rattle.svc_fds.specs.declared.call.ReceiveAnswer.{ReceiveAnswer}
use Rattle.svc_fds.specs.declared.call.ReceiveAnswer.TheVariants as answers
use Rattle.svc_fds.specs.declared.call.Receipt.{Receipt}
use Rattle.svc_fds.specs.declared.call.Receipt.TheVariants as receipts
use Rattle.svc_fds.specs.declared.retry.SendAnswer.{SendAnswer}
use Rattle.svc_fds.specs.declared.retry.SendAnswer.TheVariants.{Connected, NotThere, StillConnecting, ConnectFailed, Sent, SendBusy, SendFailed}

-- a receipt, with the numbers of its descriptors
abbrev pub receipt_of : ReceiveAnswer → Receipt
receipt_of (answers.Got bytes fds) = receipts.Got bytes fds.items
receipt_of answers.NotYet = receipts.NotYet
receipt_of answers.ReceiveFailed = receipts.Failed
receipt_of answers.NoMemory = receipts.NoMemory

-- a message brings at most 32 descriptors
abbrev pub IsFew : ReceiveAnswer → Type 0
IsFew (answers.Got bytes fds) = length fds.items ≤ 32
IsFew answers.NotYet = Unit {0}
IsFew answers.ReceiveFailed = Unit {0}
IsFew answers.NoMemory = Unit {0}

-- the count of faults stays where it went well, and rises where it didn't
abbrev pub FaultsUnless : Bool → ℕ → ℕ → Type 0
FaultsUnless true before now = now ≡ before
FaultsUnless false before now = Rose before now

abbrev pub ReceiveFaults : ReceiveAnswer → ℕ → ℕ → Type 0
ReceiveFaults (answers.Got bytes fds) before now = now ≡ before
ReceiveFaults answers.NotYet before now = now ≡ before
ReceiveFaults answers.ReceiveFailed before now = Rose before now
ReceiveFaults answers.NoMemory before now = now ≡ before

abbrev pub SendFaults : SendAnswer → ℕ → ℕ → Type 0
SendFaults Connected before now = now ≡ before
SendFaults NotThere before now = now ≡ before
SendFaults StillConnecting before now = now ≡ before
SendFaults ConnectFailed before now = Rose before now
SendFaults Sent before now = now ≡ before
SendFaults SendBusy before now = now ≡ before
SendFaults SendFailed before now = Rose before now

-- what a connect answers
abbrev pub IsConnectAnswer : SendAnswer → Type 0
IsConnectAnswer Connected = Unit {0}
IsConnectAnswer NotThere = Unit {0}
IsConnectAnswer StillConnecting = Unit {0}
IsConnectAnswer ConnectFailed = Unit {0}
IsConnectAnswer Sent = ⊥
IsConnectAnswer SendBusy = ⊥
IsConnectAnswer SendFailed = ⊥

-- what a send answers
abbrev pub IsSendAnswer : SendAnswer → Type 0
IsSendAnswer Connected = ⊥
IsSendAnswer NotThere = ⊥
IsSendAnswer StillConnecting = ⊥
IsSendAnswer ConnectFailed = ⊥
IsSendAnswer Sent = Unit {0}
IsSendAnswer SendBusy = Unit {0}
IsSendAnswer SendFailed = Unit {0}
