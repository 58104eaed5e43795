-- What a transfer asks of a channel, by the answers that it gets.
use Rattle.std.specs.Prelude.{ℕ, ◌≡◌, ◌==◌, true, false, not, Option, Result, Ok, Err, List, [], ◌∷◌, ◌++◌, map, filter, length, is_some, if◌then◌else◌}
use Rattle.svc_fds.specs.declared.call.ChannelCall.{ChannelCall}
use Rattle.svc_fds.specs.declared.call.ChannelCall.TheVariants.{Listen, Receive, Connect, Send, Rest, Close}
use Rattle.svc_fds.specs.declared.call.Receipt.{Receipt}
use Rattle.svc_fds.specs.declared.call.Receipt.TheVariants as receipts
use Rattle.svc_fds.specs.declared.retry.SendAnswer.{SendAnswer}
use Rattle.svc_fds.specs.declared.retry.SendNext.{SendNext}
use Rattle.svc_fds.specs.declared.retry.SendNext.TheVariants as sends
use Rattle.svc_fds.specs.declared.retry.ReceiveKind.{ReceiveKind}
use Rattle.svc_fds.specs.declared.retry.ReceiveKind.TheVariants as kinds
use Rattle.svc_fds.specs.declared.retry.ReceiveNext.{ReceiveNext}
use Rattle.svc_fds.specs.declared.retry.ReceiveNext.TheVariants as receives
use Rattle.svc_fds.specs.declared.errors.SendError.{SendError}
use Rattle.svc_fds.specs.declared.errors.ReceiveError.{ReceiveError}
use Rattle.svc_fds.specs.declared.errors.ReceiveError.TheVariants as receive_errors
use Rattle.svc_base.specs.Calls.{Adds}
use Rattle.svc_fds.specs.Channels.{IsConnectAnswer, IsSendAnswer}
use Rattle.svc_fds.specs.Retries.{after_sends, after_receives, receive_next}
use Rattle.svc_fds.specs.declared.errors.EncodeError.{EncodeError}
use Rattle.svc_fds.specs.declared.errors.EncodeError.TheVariants as encode_errors
use Rattle.svc_fds.specs.declared.errors.DecodeError.{DecodeError}
use Rattle.svc_fds.specs.declared.errors.DecodeError.TheVariants as decode_errors
use Rattle.svc_fds.specs.declared.errors.SendError.TheVariants as send_errors
use Rattle.svc_fds.specs.Tables.{Entry, lookup, numbers, put_all}
use Rattle.svc_fds.specs.Messages.{message_bytes, IsEncodable, EncodeRefusalFits, IsMessage, table_of, DecodeRefusalFits}

-- a rest before a call, where there is one
abbrev pub rested : ℕ → List ChannelCall
rested ms = if ms == 0 then [] else Rest ms ∷ []

-- the calls of one try to send these bytes and numbers, with its answer
abbrev pub send_calls : List ℕ → List ℕ → SendNext → SendAnswer → List ChannelCall
send_calls bytes fds (sends.Connect ms) answer = rested ms ++ Connect answer ∷ []
send_calls bytes fds (sends.Send ms) answer = rested ms ++ Send bytes fds answer ∷ []
send_calls bytes fds sends.Done answer = []
send_calls bytes fds (sends.Refused error) answer = []

-- the answer is one of the call that came next
abbrev pub Answers : SendNext → SendAnswer → Type 0
Answers (sends.Connect ms) answer = IsConnectAnswer answer
Answers (sends.Send ms) answer = IsSendAnswer answer
Answers sends.Done answer = ⊥
Answers (sends.Refused error) answer = ⊥

-- nothing comes next
abbrev pub IsEnd : SendNext → Type 0
IsEnd (sends.Connect ms) = ⊥
IsEnd (sends.Send ms) = ⊥
IsEnd sends.Done = Unit {0}
IsEnd (sends.Refused error) = Unit {0}

-- the calls of a sender that got these answers, the newest first
abbrev pub sends_asked : ℕ → List ℕ → List ℕ → List SendAnswer → List ChannelCall
sends_asked limit bytes fds [] = []
sends_asked limit bytes fds (answer ∷ earlier) = sends_asked limit bytes fds earlier ++ send_calls bytes fds (after_sends limit earlier) answer

-- each answer is one of the call that came next
abbrev pub IsSendRun : ℕ → List SendAnswer → Type 0
IsSendRun limit [] = Unit {0}
IsSendRun limit (answer ∷ earlier) = IsSendRun limit earlier × Answers (after_sends limit earlier) answer

-- what comes next is the end that was answered
abbrev pub SendEnds : SendNext → Result ℕ SendError → Type 0
SendEnds next (Ok sent) = next ≡ sends.Done
SendEnds next (Err error) = next ≡ sends.Refused error

-- a channel was asked what the retries say, with these bytes and numbers, up to the end that was answered
pub record SendsBy (limit : ℕ) (bytes fds : List ℕ) (before now : Option (List ChannelCall)) (result : Result ℕ SendError) : Type 0 where
  pub answers : List SendAnswer
  pub run : IsSendRun limit answers
  pub told : Adds before now (sends_asked limit bytes fds answers)
  pub ended : SendEnds (after_sends limit answers) result

-- a receipt, as the retries take it. Want of memory is none of their answers: it ends a transfer
abbrev pub kind_of : Receipt → ReceiveKind
kind_of (receipts.Got bytes fds) = kinds.Came
kind_of receipts.NotYet = kinds.NotYet
kind_of receipts.Failed = kinds.Failed
kind_of receipts.NoMemory = kinds.Failed

-- the calls of one try to receive
abbrev pub receive_calls : ReceiveNext → Receipt → List ChannelCall
receive_calls (receives.Receive ms) receipt = rested ms ++ Receive receipt ∷ []
receive_calls receives.Done receipt = []
receive_calls (receives.Refused error) receipt = []

-- more tries come after these receipts, the newest first: nobody sent yet, up to the limit
abbrev pub IsWait : ℕ → List Receipt → Type 0
IsWait limit [] = Unit {0}
IsWait limit (receipts.Got bytes fds ∷ earlier) = ⊥
IsWait limit (receipts.NotYet ∷ earlier) = IsWait limit earlier × (receive_next limit (map kind_of earlier) kinds.NotYet ≡ receives.Receive 1000)
IsWait limit (receipts.Failed ∷ earlier) = ⊥
IsWait limit (receipts.NoMemory ∷ earlier) = ⊥

-- the calls of a receiver that got these receipts, the newest first
abbrev pub receives_asked : ℕ → List Receipt → List ChannelCall
receives_asked limit [] = Listen true ∷ []
receives_asked limit (receipt ∷ earlier) = receives_asked limit earlier ++ receive_calls (after_receives limit (map kind_of earlier)) receipt

-- the last receipt is a message
pub record Receives (limit : ℕ) (before now : Option (List ChannelCall)) (bytes fds : List ℕ) : Type 0 where
  pub earlier : List Receipt
  pub wait : IsWait limit earlier
  pub told : Adds before now (receives_asked limit (receipts.Got bytes fds ∷ earlier))

-- there was memory for what came of a receipt
abbrev pub IsRead : Receipt → Type 0
IsRead (receipts.Got bytes fds) = Unit {0}
IsRead receipts.NotYet = Unit {0}
IsRead receipts.Failed = Unit {0}
IsRead receipts.NoMemory = ⊥

-- nothing came: the socket wasn't opened, the last receipt ended the tries, or there was no memory for it
pub data ReceivesNot (limit : ℕ) (before now : Option (List ChannelCall)) : ReceiveError → Type 0 where
  not_opened : Adds before now (Listen false ∷ []) → ReceivesNot limit before now receive_errors.Transfer
  given_up : (receipt : Receipt) (earlier : List Receipt) (error : ReceiveError) → IsRead receipt → IsWait limit earlier
      → Adds before now (receives_asked limit (receipt ∷ earlier))
      → receive_next limit (map kind_of earlier) (kind_of receipt) ≡ receives.Refused error → ReceivesNot limit before now error
  unread : (earlier : List Receipt) → IsWait limit earlier → Adds before now (receives_asked limit (receipts.NoMemory ∷ earlier))
      → ReceivesNot limit before now receive_errors.NoMemory

-- the entries that came whose addresses are held already, and the others
abbrev pub copies : List Entry → List Entry → List Entry
copies came es = filter (λ e. is_some (lookup e.0 es)) came

abbrev pub fresh : List Entry → List Entry → List Entry
fresh came es = filter (λ e. not (is_some (lookup e.0 es))) came

-- each descriptor is closed, in order
abbrev pub closes : List ℕ → List ChannelCall
closes fds = map (λ fd. Close fd) fds

-- the refusal of a message, as a receiver answers it
abbrev pub receive_error : DecodeError → ReceiveError
receive_error decode_errors.NotUtf8 = receive_errors.NotUtf8
receive_error decode_errors.BadForm = receive_errors.BadForm
receive_error decode_errors.Unequal = receive_errors.Unequal
receive_error decode_errors.Repeated = receive_errors.Repeated
receive_error decode_errors.NoMemory = receive_errors.NoMemory

-- a message came, its new entries are added, and the copies of what is held are closed
pub record Loads (limit : ℕ) (before now : Option (List ChannelCall)) (old new : List Entry) : Type 0 where
  pub bytes : List ℕ
  pub fds : List ℕ
  pub middle : Option (List ChannelCall)
  pub received : Receives limit before middle bytes fds
  pub message : IsMessage bytes (length fds)
  pub added : new ≡ put_all (fresh (table_of bytes fds) old) old
  pub closed : Adds middle now (closes (numbers (copies (table_of bytes fds) old)))

-- nothing came, or what came was refused and is closed
pub data LoadsNot (limit : ℕ) (before now : Option (List ChannelCall)) : ReceiveError → Type 0 where
  nothing_came : (error : ReceiveError) → ReceivesNot limit before now error → LoadsNot limit before now error
  turned_away : (bytes fds : List ℕ) (middle : Option (List ChannelCall)) (error : DecodeError) → Receives limit before middle bytes fds
      → DecodeRefusalFits bytes (length fds) error
      → Adds middle now (closes fds) → LoadsNot limit before now (receive_error error)

-- the refusal of a table, as a sender answers it
abbrev pub send_error : EncodeError → SendError
send_error encode_errors.BadAddress = send_errors.BadAddress
send_error encode_errors.TooLong = send_errors.TooLong
send_error encode_errors.TooMany = send_errors.TooMany
send_error encode_errors.NoMemory = send_errors.NoMemory

-- a table that has no message is refused before any call of the channel, and else its message is sent
pub data SendsTable {X : Type 0} (calls : X → Option (List ChannelCall)) (limit : ℕ) (es : List Entry) (before now : X) : Result ℕ SendError → Type 0 where
  unsent : (error : EncodeError) → EncodeRefusalFits es error → now ≡ before → SendsTable calls limit es before now (Err (send_error error))
  tried : (result : Result ℕ SendError) → IsEncodable es → SendsBy limit (message_bytes es) (numbers es) (calls before) (calls now) result
      → SendsTable calls limit es before now result
