-- Answers that are no faults leave the count as it is.
use Rattle.std.proofs.Common.{ℕ, ◌≡◌, sym, subst}
use Rattle.svc_fds.specs.declared.call.ReceiveAnswer.{ReceiveAnswer}
use Rattle.svc_fds.specs.declared.retry.SendAnswer.{SendAnswer}
use Rattle.svc_fds.specs.Channels.{ReceiveFaults, SendFaults}

pub calm-send : (answer : SendAnswer) (before now : ℕ) → now ≡ before → ((n : ℕ) → SendFaults answer n n) → SendFaults answer before now
calm-send answer before now same calm = subst (λ n. SendFaults answer before n) (sym same) (calm before)

pub calm-receive : (answer : ReceiveAnswer) (before now : ℕ) → now ≡ before → ((n : ℕ) → ReceiveFaults answer n n) → ReceiveFaults answer before now
calm-receive answer before now same calm = subst (λ n. ReceiveFaults answer before n) (sym same) (calm before)
