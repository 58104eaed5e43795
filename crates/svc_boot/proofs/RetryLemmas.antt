-- Whether a try without a sender was once too often, by what the retry answers.
use Rattle.std.proofs.Common.{ℕ, Bool, true, false, ◌-◌, ◌≡◌, refl, arith, if◌then◌else◌}
use Rattle.svc_fds.specs.declared.retry.ReceiveNext.{ReceiveNext}
use Rattle.svc_fds.specs.declared.retry.ReceiveNext.TheVariants.{Receive, Refused}
use Rattle.svc_fds.specs.declared.errors.ReceiveError.{ReceiveError}
use Rattle.svc_fds.specs.declared.errors.ReceiveError.TheVariants.{NoSender}

pub once_too_often : (last : Bool) (next : ReceiveNext) (reason : ReceiveError) → next ≡ (if last then Refused NoSender else Receive 1000)
    → next ≡ Refused reason → true ≡ last
once_too_often true next reason is refused = refl
once_too_often false next reason is refused = cc

pub not_too_often : (last : Bool) (next : ReceiveNext) → next ≡ (if last then Refused NoSender else Receive 1000)
    → ((reason : ReceiveError) → next ≡ Refused reason → ⊥) → false ≡ last
not_too_often true next is goes_on = absurd (goes_on NoSender is)
not_too_often false next is goes_on = refl

pub all_left : (n : ℕ) → n ≡ n - 0
all_left n = omega arith
