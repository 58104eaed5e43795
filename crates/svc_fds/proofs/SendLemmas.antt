-- A sender's tries, one after another.
use Rattle.std.proofs.Common.{ℕ, ◌+◌, ◌-◌, ◌<◌, Bool, true, false, cond, ltb, List, [], ◌∷◌, ◌++◌, Option, Result, Err, ◌≡◌, refl, sym, ap, subst, ◌∙◌, arith, append_assoc, length, get_or}
use Rattle.std.specs.Prelude.{remove}
use Rattle.std.proofs.lemmas.Bool.{ltb-true, ltb-false}
use Rattle.std.proofs.lemmas.List.{map_push}
use Rattle.svc_base.proofs.CallLemmas.{Adds-nil, Adds-then}
use Rattle.svc_base.specs.Streams.{Rose}
use Rattle.svc_fds.specs.declared.call.ChannelCall.{ChannelCall}
use Rattle.svc_fds.specs.declared.call.ChannelCall.TheVariants.{Close}
use Rattle.svc_fds.specs.declared.retry.SendAnswer.{SendAnswer}
use Rattle.svc_fds.specs.declared.retry.SendAnswer.TheVariants.{Connected, NotThere, StillConnecting, ConnectFailed, Sent, SendBusy, SendFailed}
use Rattle.svc_fds.specs.declared.retry.SendNext.{SendNext}
use Rattle.svc_fds.specs.declared.retry.SendNext.TheVariants as sends
use Rattle.svc_fds.specs.declared.errors.SendError.{SendError}
use Rattle.svc_fds.specs.declared.errors.SendError.TheVariants as send_errors
use Rattle.svc_fds.specs.RetriesLeft.{RetriesLeft}
use Rattle.svc_fds.specs.Retries.{absences, delays, send_next, after_sends, IsAfterSends}
use Rattle.svc_base.specs.Calls.{Adds}
use Rattle.svc_fds.specs.Channels.{SendFaults}
use Rattle.svc_fds.specs.Transfers.{send_calls, sends_asked, Answers, IsSendRun, SendEnds, SendsBy, closes}

-- how many tries may be left at most
abbrev pub phase : SendNext → ℕ
phase (sends.Connect ms) = 2
phase (sends.Send ms) = 1
phase sends.Done = 0
phase (sends.Refused error) = 0

abbrev pub left : SendNext → RetriesLeft → ℕ
left next state = state.absences + state.delays + phase next

-- a fault is what came last where the end is a failed transfer
abbrev pub FaultsAt : SendNext → ℕ → ℕ → Type 0
FaultsAt (sends.Connect ms) before now = now ≡ before
FaultsAt (sends.Send ms) before now = now ≡ before
FaultsAt sends.Done before now = now ≡ before
FaultsAt (sends.Refused error) before now = error ≡ send_errors.Transfer → Rose before now

-- what a sender keeps from one try to the next
pub record Sending (limit : ℕ) (bytes fds : List ℕ) (before now : Option (List ChannelCall)) (faults_before faults_now : ℕ) (next : SendNext)
    (state : RetriesLeft) : Type 0 where
  pub answers : List SendAnswer
  pub run : IsSendRun limit answers
  pub told : Adds before now (sends_asked limit bytes fds answers)
  pub is_next : next ≡ after_sends limit answers
  pub after : IsAfterSends limit answers state
  pub faults : FaultsAt next faults_before faults_now

same-faults : (next : SendNext) (answer : SendAnswer) (before now : ℕ) → Answers next answer → FaultsAt next before now → now ≡ before
same-faults (sends.Connect ms) answer before now fits at = at
same-faults (sends.Send ms) answer before now fits at = at
same-faults sends.Done answer before now fits at = absurd fits
same-faults (sends.Refused error) answer before now fits at = absurd fits

no_receiver : (b : Bool) (before now : ℕ) → now ≡ before → FaultsAt (cond b (sends.Refused send_errors.NoReceiver) (sends.Connect 1000)) before now
no_receiver true before now same = λ e. absurd (let other : send_errors.NoReceiver ≡ send_errors.Transfer = e in cc)
no_receiver false before now same = same

still_busy : (b : Bool) (next : SendNext) (before now : ℕ) → FaultsAt next before now → FaultsAt (cond b next (sends.Refused send_errors.StillBusy)) before now
still_busy true next before now same = same
still_busy false next before now same = λ e. absurd (let other : send_errors.StillBusy ≡ send_errors.Transfer = e in cc)

step-faults : (limit : ℕ) (earlier : List SendAnswer) (answer : SendAnswer) (before now then_now : ℕ) → now ≡ before → SendFaults answer now then_now
    → FaultsAt (send_next limit earlier answer) before then_now
step-faults limit earlier Connected before now then_now same cause = cause ∙ same
step-faults limit earlier NotThere before now then_now same cause = no_receiver (ltb limit (absences earlier + 1)) before then_now (cause ∙ same)
step-faults limit earlier StillConnecting before now then_now same cause =
    still_busy (ltb (delays earlier + 1) 20) (sends.Connect 500) before then_now (cause ∙ same)
step-faults limit earlier ConnectFailed before now then_now same cause = λ e. subst (λ b. Rose b then_now) same cause
step-faults limit earlier Sent before now then_now same cause = cause ∙ same
step-faults limit earlier SendBusy before now then_now same cause = still_busy (ltb (delays earlier + 1) 20) (sends.Send 500) before then_now (cause ∙ same)
step-faults limit earlier SendFailed before now then_now same cause = λ e. subst (λ b. Rose b then_now) same cause

pub sending-start : (limit : ℕ) (bytes fds : List ℕ) (calls : Option (List ChannelCall)) (faults : ℕ) (state : RetriesLeft) → IsAfterSends limit [] state
    → Sending limit bytes fds calls calls faults faults (sends.Connect 0) state
sending-start limit bytes fds calls faults state after = record {
  answers = [];
  run = tt;
  told = Adds-nil calls;
  is_next = refl;
  after = after;
  faults = refl;
}

-- one try more
pub sending-more : (limit : ℕ) (bytes fds : List ℕ) (before now then_now : Option (List ChannelCall)) (faults_before faults_now faults_then : ℕ)
    (next then_next : SendNext) (state then_state : RetriesLeft) (answer : SendAnswer)
    → Sending limit bytes fds before now faults_before faults_now next state
    → Adds now then_now (send_calls bytes fds next answer) → Answers next answer → SendFaults answer faults_now faults_then
    → ((limit : ℕ) (earlier : List SendAnswer) → IsAfterSends limit earlier state → then_next ≡ send_next limit earlier answer)
    → ((limit : ℕ) (earlier : List SendAnswer) → IsAfterSends limit earlier state → IsAfterSends limit (answer ∷ earlier) then_state)
    → Sending limit bytes fds before then_now faults_before faults_then then_next then_state
sending-more limit bytes fds before now then_now faults_before faults_now faults_then next then_next state then_state answer sending told fits cause stepped
    after =
    let e = stepped limit sending.answers sending.after in
    record {
      answers = answer ∷ sending.answers;
      run = (sending.run, subst (λ n. Answers n answer) sending.is_next fits);
      told = Adds-then before now then_now (sends_asked limit bytes fds sending.answers)
          (send_calls bytes fds (after_sends limit sending.answers) answer) sending.told
          (subst (λ n. Adds now then_now (send_calls bytes fds n answer)) sending.is_next told);
      is_next = e;
      after = after limit sending.answers sending.after;
      faults = subst (λ n. FaultsAt n faults_before faults_then) (sym e)
          (step-faults limit sending.answers answer faults_before faults_now faults_then
          (same-faults next answer faults_before faults_now fits sending.faults) cause);
    }

falls_absent : (b : Bool) (limit a : ℕ) (ms : ℕ) (state then_state : RetriesLeft) → ltb limit (a + 1) ≡ b → state.absences ≡ limit - a
    → then_state.absences ≡ limit - (a + 1) → then_state.delays ≡ state.delays
    → left (cond b (sends.Refused send_errors.NoReceiver) (sends.Connect 1000)) then_state < left (sends.Connect ms) state
falls_absent true limit a ms state then_state test was is same = omega arith
falls_absent false limit a ms state then_state test was is same = (let below = ltb-false limit (a + 1) test in omega arith)

falls_busy : (b : Bool) (d : ℕ) (next again : SendNext) (state then_state : RetriesLeft) → ltb (d + 1) 20 ≡ b → 0 < phase next → phase again ≡ phase next
    → state.delays ≡ 19 - d → then_state.delays ≡ 19 - (d + 1) → then_state.absences ≡ state.absences
    → left (cond b again (sends.Refused send_errors.StillBusy)) then_state < left next state
falls_busy true d next again state then_state test some alike was is same = (let below = ltb-true (d + 1) 20 test in omega arith)
falls_busy false d next again state then_state test some alike was is same = omega arith

-- the tries come to an end
falls : (limit : ℕ) (answers : List SendAnswer) (next : SendNext) (answer : SendAnswer) (state then_state : RetriesLeft) → Answers next answer
    → IsAfterSends limit answers state → IsAfterSends limit (answer ∷ answers) then_state
    → left (send_next limit answers answer) then_state < left next state
falls limit answers (sends.Connect ms) Connected state then_state fits was is =
    (let a = was.absences in let b = is.absences in let c = was.delays in let d = is.delays in omega arith)
falls limit answers (sends.Connect ms) NotThere state then_state fits was is =
    falls_absent (ltb limit (absences answers + 1)) limit (absences answers) ms state then_state refl was.absences is.absences
    (let c = was.delays in let d = is.delays in omega arith)
falls limit answers (sends.Connect ms) StillConnecting state then_state fits was is =
    falls_busy (ltb (delays answers + 1) 20) (delays answers) (sends.Connect ms) (sends.Connect 500) state then_state refl
    (omega arith) refl was.delays is.delays (let c = was.absences in let d = is.absences in omega arith)
falls limit answers (sends.Connect ms) ConnectFailed state then_state fits was is =
    (let a = was.absences in let b = is.absences in let c = was.delays in let d = is.delays in omega arith)
falls limit answers (sends.Connect ms) Sent state then_state fits was is = absurd fits
falls limit answers (sends.Connect ms) SendBusy state then_state fits was is = absurd fits
falls limit answers (sends.Connect ms) SendFailed state then_state fits was is = absurd fits
falls limit answers (sends.Send ms) Connected state then_state fits was is = absurd fits
falls limit answers (sends.Send ms) NotThere state then_state fits was is = absurd fits
falls limit answers (sends.Send ms) StillConnecting state then_state fits was is = absurd fits
falls limit answers (sends.Send ms) ConnectFailed state then_state fits was is = absurd fits
falls limit answers (sends.Send ms) Sent state then_state fits was is =
    (let a = was.absences in let b = is.absences in let c = was.delays in let d = is.delays in omega arith)
falls limit answers (sends.Send ms) SendBusy state then_state fits was is =
    falls_busy (ltb (delays answers + 1) 20) (delays answers) (sends.Send ms) (sends.Send 500) state then_state refl (omega arith) refl was.delays is.delays
    (let c = was.absences in let d = is.absences in omega arith)
falls limit answers (sends.Send ms) SendFailed state then_state fits was is =
    (let a = was.absences in let b = is.absences in let c = was.delays in let d = is.delays in omega arith)
falls limit answers sends.Done answer state then_state fits was is = absurd fits
falls limit answers (sends.Refused error) answer state then_state fits was is = absurd fits

pub sending-falls : (limit : ℕ) (bytes fds : List ℕ) (before now : Option (List ChannelCall)) (faults_before faults_now : ℕ) (next then_next : SendNext)
    (state then_state : RetriesLeft) (answer : SendAnswer)
    → Sending limit bytes fds before now faults_before faults_now next state → Answers next answer
    → ((limit : ℕ) (earlier : List SendAnswer) → IsAfterSends limit earlier state → then_next ≡ send_next limit earlier answer)
    → ((limit : ℕ) (earlier : List SendAnswer) → IsAfterSends limit earlier state → IsAfterSends limit (answer ∷ earlier) then_state)
    → left then_next then_state < left next state
sending-falls limit bytes fds before now faults_before faults_now next then_next state then_state answer sending fits stepped after =
    subst (λ n. left n then_state < left next state) (sym (stepped limit sending.answers sending.after))
    (falls limit sending.answers next answer state then_state fits sending.after (after limit sending.answers sending.after))

ends_after : (next after : SendNext) (r : Result ℕ SendError) → next ≡ after → SendEnds next r → SendEnds after r
ends_after next after r same ends = subst (λ n. SendEnds n r) same ends

-- the end of the tries
pub sending-ends : (limit : ℕ) (bytes fds : List ℕ) (before now : Option (List ChannelCall)) (faults_before faults_now : ℕ) (next : SendNext)
    (state : RetriesLeft) (r : Result ℕ SendError)
    → Sending limit bytes fds before now faults_before faults_now next state → SendEnds next r → SendsBy limit bytes fds before now r
sending-ends limit bytes fds before now faults_before faults_now next state r sending ends = record {
  answers = sending.answers;
  run = sending.run;
  told = sending.told;
  ended = ends_after next (after_sends limit sending.answers) r sending.is_next ends;
}

pub sending-fault : (next : SendNext) (before now : ℕ) (r : Result ℕ SendError) → FaultsAt next before now → SendEnds next r → r ≡ Err send_errors.Transfer
    → Rose before now
sending-fault next before now r at ends failed =
    let last : next ≡ sends.Refused send_errors.Transfer = subst (λ x. SendEnds next x) failed ends in
    (subst (λ n. FaultsAt n before now) last at) refl

closes-push : (done : List ℕ) (fd : ℕ) → closes (done ++ fd ∷ []) ≡ closes done ++ Close fd ∷ []
closes-push done fd = map_push (λ n. Close n) done fd

first-left : (xs ys : List ℕ) (x : ℕ) → 0 < length xs → x ≡ get_or xs 0 x → ys ≡ remove xs 0 → x ∷ ys ≡ xs
first-left [] ys x some read left = absurd (omega arith)
first-left (z ∷ xs) ys x some read left = ap (λ r. x ∷ r) left ∙ ap (λ n. n ∷ xs) read

-- one descriptor more is closed
pub close-more : (a b c : Option (List ChannelCall)) (done xs ys all : List ℕ) (x : ℕ) → Adds a b (closes done) → done ++ xs ≡ all → Adds b c (Close x ∷ [])
    → 0 < length xs → x ≡ get_or xs 0 x → ys ≡ remove xs 0
    → (more : List ℕ) × Adds a c (closes more) × (more ++ ys ≡ all)
close-more a b c done xs ys all x told rest closed some read left = (
  done ++ x ∷ [],
  subst (λ calls. Adds a c calls) (sym (closes-push done x)) (Adds-then a b c (closes done) (Close x ∷ []) told closed),
  append_assoc done (x ∷ []) ys ∙ ap (λ r. done ++ r) (first-left xs ys x some read left) ∙ rest,
)
