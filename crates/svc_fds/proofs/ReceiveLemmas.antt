-- A receiver's tries, one after another.
use Rattle.std.proofs.Common.{ℕ, ◌+◌, ◌-◌, ◌<◌, Bool, true, false, cond, ltb, List, [], ◌∷◌, map, Option, ◌≡◌, refl, sym, subst, ◌∙◌, arith}
use Rattle.std.proofs.lemmas.Bool.{ltb-false}
use Rattle.svc_fds.specs.declared.call.ChannelCall.{ChannelCall}
use Rattle.svc_fds.specs.declared.call.ChannelCall.TheVariants.{Listen, Receive}
use Rattle.svc_fds.specs.declared.call.Receipt.{Receipt}
use Rattle.svc_fds.specs.declared.call.Receipt.TheVariants as receipts
use Rattle.svc_fds.specs.declared.retry.ReceiveKind.{ReceiveKind}
use Rattle.svc_fds.specs.declared.retry.ReceiveKind.TheVariants as kinds
use Rattle.svc_fds.specs.declared.retry.ReceiveNext.TheVariants as receives
use Rattle.svc_fds.specs.declared.errors.ReceiveError.{ReceiveError}
use Rattle.svc_fds.specs.declared.errors.ReceiveError.TheVariants as receive_errors
use Rattle.svc_fds.specs.Retries.{missing, receive_next, after_receives, IsAfterReceives}
use Rattle.svc_base.specs.Calls.{Adds}
use Rattle.svc_fds.specs.Transfers.{rested, kind_of, receive_calls, IsWait, receives_asked, ReceivesNot, given_up, unread}
use Rattle.svc_base.proofs.CallLemmas.{Adds-then}

-- what a receiver keeps from one try to the next
pub record Receiving (limit : ℕ) (before now : Option (List ChannelCall)) (faults_before faults_now : ℕ) (ms state : ℕ) : Type 0 where
  pub earlier : List Receipt
  pub wait : IsWait limit earlier
  pub told : Adds before now (receives_asked limit earlier)
  pub is_next : after_receives limit (map kind_of earlier) ≡ receives.Receive ms
  pub after : IsAfterReceives limit (map kind_of earlier) state
  pub faults : faults_now ≡ faults_before

pub receiving-start : (limit : ℕ) (before now : Option (List ChannelCall)) (faults_before faults_now : ℕ) (state : ℕ) (opened : Bool) → opened ≡ true
    → Adds before now (Listen opened ∷ []) → faults_now ≡ faults_before → IsAfterReceives limit [] state
    → Receiving limit before now faults_before faults_now 0 state
receiving-start limit before now faults_before faults_now state opened is_open told same after = record {
  earlier = [];
  wait = tt;
  told = subst (λ b. Adds before now (Listen b ∷ [])) is_open told;
  is_next = refl;
  after = after;
  faults = same;
}

-- what is told after a rest and a receipt
told-more : (limit : ℕ) (before now resting then_now : Option (List ChannelCall)) (faults_before faults_now ms state : ℕ) (receipt : Receipt)
    (receiving : Receiving limit before now faults_before faults_now ms state)
    → Adds now resting (rested ms) → Adds resting then_now (Receive receipt ∷ []) → Adds before then_now (receives_asked limit (receipt ∷ receiving.earlier))
told-more limit before now resting then_now faults_before faults_now ms state receipt receiving slept got =
    Adds-then before now then_now (receives_asked limit receiving.earlier)
    (receive_calls (after_receives limit (map kind_of receiving.earlier)) receipt) receiving.told
    (subst (λ next. Adds now then_now (receive_calls next receipt)) (sym receiving.is_next)
    (Adds-then now resting then_now (rested ms) (Receive receipt ∷ []) slept got))

thousand : (b : Bool) (ms : ℕ) → cond b (receives.Refused receive_errors.NoSender) (receives.Receive 1000) ≡ receives.Receive ms
    → cond b (receives.Refused receive_errors.NoSender) (receives.Receive 1000) ≡ receives.Receive 1000
thousand true ms again = absurd (cc)
thousand false ms again = refl

-- nobody sent yet, and one try more
pub receiving-more : (limit : ℕ) (before now resting then_now : Option (List ChannelCall))
    (faults_before faults_now faults_then ms then_ms state then_state : ℕ) → Receiving limit before now faults_before faults_now ms state
    → Adds now resting (rested ms) → Adds resting then_now (Receive receipts.NotYet ∷ []) → faults_then ≡ faults_now
    → ((limit : ℕ) (earlier : List ReceiveKind) → IsAfterReceives limit earlier state → receive_next limit earlier kinds.NotYet ≡ receives.Receive then_ms)
    → ((limit : ℕ) (earlier : List ReceiveKind) → IsAfterReceives limit earlier state → IsAfterReceives limit (kinds.NotYet ∷ earlier) then_state)
    → Receiving limit before then_now faults_before faults_then then_ms then_state
receiving-more limit before now resting then_now faults_before faults_now faults_then ms then_ms state then_state receiving slept got same again after =
    let earlier = map kind_of receiving.earlier in
    let next = again limit earlier receiving.after in
    record {
      earlier = receipts.NotYet ∷ receiving.earlier;
      wait = (receiving.wait, thousand (ltb limit (missing earlier + 1)) then_ms next);
      told = told-more limit before now resting then_now faults_before faults_now ms state receipts.NotYet receiving slept got;
      is_next = next;
      after = after limit earlier receiving.after;
      faults = same ∙ receiving.faults;
    }

pub receiving-refused : (limit : ℕ) (before now resting then_now : Option (List ChannelCall)) (faults_before faults_now ms state : ℕ) (error : ReceiveError)
    → Receiving limit before now faults_before faults_now ms state
    → Adds now resting (rested ms) → Adds resting then_now (Receive receipts.NotYet ∷ [])
    → ((limit : ℕ) (earlier : List ReceiveKind) → IsAfterReceives limit earlier state → receive_next limit earlier kinds.NotYet ≡ receives.Refused error)
    → ReceivesNot limit before then_now error
receiving-refused limit before now resting then_now faults_before faults_now ms state error receiving slept got ends =
    given_up receipts.NotYet receiving.earlier error tt receiving.wait
    (told-more limit before now resting then_now faults_before faults_now ms state receipts.NotYet receiving slept got)
    (ends limit (map kind_of receiving.earlier) receiving.after)

pub receiving-failed : (limit : ℕ) (before now resting then_now : Option (List ChannelCall)) (faults_before faults_now ms state : ℕ)
    → Receiving limit before now faults_before faults_now ms state
    → Adds now resting (rested ms) → Adds resting then_now (Receive receipts.Failed ∷ []) → ReceivesNot limit before then_now receive_errors.Transfer
receiving-failed limit before now resting then_now faults_before faults_now ms state receiving slept got =
    given_up receipts.Failed receiving.earlier receive_errors.Transfer tt receiving.wait
    (told-more limit before now resting then_now faults_before faults_now ms state receipts.Failed receiving slept got) refl

pub receiving-unread : (limit : ℕ) (before now resting then_now : Option (List ChannelCall)) (faults_before faults_now ms state : ℕ)
    → Receiving limit before now faults_before faults_now ms state
    → Adds now resting (rested ms) → Adds resting then_now (Receive receipts.NoMemory ∷ []) → ReceivesNot limit before then_now receive_errors.NoMemory
receiving-unread limit before now resting then_now faults_before faults_now ms state receiving slept got =
    unread receiving.earlier receiving.wait
    (told-more limit before now resting then_now faults_before faults_now ms state receipts.NoMemory receiving slept got)

-- a receiver that waits isn't done
pub done-never : (b : Bool) → receives.Done ≡ cond b (receives.Refused receive_errors.NoSender) (receives.Receive 1000) → ⊥
done-never true is = cc
done-never false is = cc

-- a wait takes one of the tries
wait-falls_by : (b : Bool) (state then_state ms : ℕ) → ltb state 1 ≡ b
    → receives.Receive ms ≡ cond b (receives.Refused receive_errors.NoSender) (receives.Receive 1000) → then_state ≡ state - 1 → then_state < state
wait-falls_by true state then_state ms test is now = absurd (cc)
wait-falls_by false state then_state ms test is now = (let some = ltb-false state 1 test in omega arith)

pub wait-falls : (state then_state ms : ℕ) → receives.Receive ms ≡ receive_next state [] kinds.NotYet → then_state ≡ state - 1 → then_state < state
wait-falls state then_state ms is now = wait-falls_by (ltb state 1) state then_state ms refl is now

pub fresh-state : (state : ℕ) → IsAfterReceives state [] state
fresh-state state = omega arith
