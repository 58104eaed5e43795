-- What is borne at the start and after each answer, and whether the offer ends by that.
use Rattle.std.proofs.Common.{ℕ, zero, suc, Bool, true, false, ◌+◌, ◌-◌, ◌≤◌, List, [], ◌∷◌, ◌≡◌, refl, ap, sym, ◌∙◌, ◌⊎◌, inl, inr, arith, if◌then◌else◌}
use Rattle.std.specs.Prelude.{nat_lt}
use Rattle.std.proofs.lemmas.Bool.Decides.{nat_tests}
use Rattle.svc_fds.specs.declared.retry.SendAnswer.{SendAnswer}
use Rattle.svc_fds.specs.declared.retry.SendAnswer.TheVariants.{Connected, NotThere, StillConnecting, ConnectFailed, Sent, SendBusy, SendFailed}
use Rattle.svc_fds.specs.declared.retry.SendNext.{SendNext}
use Rattle.svc_fds.specs.declared.retry.SendNext.TheVariants.{Connect, Send, Done, Refused}
use Rattle.svc_fds.specs.declared.errors.SendError.{SendError}
use Rattle.svc_fds.specs.declared.errors.SendError.TheVariants.{NoReceiver, StillBusy}
use Rattle.svc_fds.specs.RetriesLeft.{RetriesLeft}
use Rattle.svc_fds.specs.Retries.{IsAfterSends, send_next, absences, delays}
use Rattle.svc_offer.specs.OfferEffects.{ends_by, retries_after}

-- so many busy answers
abbrev pub waits : ℕ → List SendAnswer
waits zero = []
waits (suc n) = StillConnecting ∷ waits n

delays-waits : (n : ℕ) → delays (waits n) ≡ n
delays-waits zero = refl
delays-waits (suc n) = let e = delays-waits n in omega arith

absences-waits : (n : ℕ) → absences (waits n) ≡ 0
absences-waits zero = refl
absences-waits (suc n) = let e = absences-waits n in omega arith

-- what answers leave that use up as much of the retries
pub after-waits : (n : RetriesLeft) → n.delays ≤ 19 → IsAfterSends n.absences (waits (19 - n.delays)) n
after-waits n few = let a = absences-waits (19 - n.delays) in let b = delays-waits (19 - n.delays) in record { absences = omega arith; delays = omega arith }

-- nothing comes next
abbrev pub is_end : SendNext → Bool
is_end (Connect rest) = false
is_end (Send rest) = false
is_end Done = true
is_end (Refused reason) = true

end-if : (b : Bool) (reason : SendError) (rest : ℕ) → is_end (if b then Refused reason else Connect rest) ≡ b
end-if true reason rest = refl
end-if false reason rest = refl

end-unless : (b last : Bool) (reason : SendError) (next : SendNext) → is_end next ≡ false → (b ≡ true → last ≡ false) → (b ≡ false → last ≡ true)
    → is_end (if b then next else Refused reason) ≡ last
end-unless true last reason next goes here there = goes ∙ sym (here refl)
end-unless false last reason next goes here there = sym (there refl)

absent-last : (limit n : ℕ) → n ≡ 0 → nat_lt limit (n + 1) ≡ nat_lt limit 1
absent-last limit n e = ap (λ (k : ℕ). nat_lt limit (k + 1)) e

delay-goes : (n left : ℕ) → left ≤ 19 → n ≡ 19 - left → nat_lt (n + 1) 20 ≡ true → nat_lt left 1 ≡ false
delay-goes n left few e h = grind (arith, nat_tests)

delay-last : (n left : ℕ) → left ≤ 19 → n ≡ 19 - left → nat_lt (n + 1) 20 ≡ false → nat_lt left 1 ≡ true
delay-last n left few e h = grind (arith, nat_tests)

-- the offer ends where nothing comes next
pub ends-is : (n : RetriesLeft) (answer : SendAnswer) → n.delays ≤ 19 → is_end (send_next n.absences (waits (19 - n.delays)) answer) ≡ ends_by n answer
ends-is n Connected few = refl
ends-is n NotThere few =
    end-if (nat_lt n.absences (absences (waits (19 - n.delays)) + 1)) NoReceiver 1000
    ∙ absent-last n.absences (absences (waits (19 - n.delays))) (absences-waits (19 - n.delays))
ends-is n StillConnecting few =
    let e = delays-waits (19 - n.delays) in
    end-unless (nat_lt (delays (waits (19 - n.delays)) + 1) 20) (nat_lt n.delays 1) StillBusy (Connect 500) refl
    (delay-goes (delays (waits (19 - n.delays))) n.delays few e) (delay-last (delays (waits (19 - n.delays))) n.delays few e)
ends-is n ConnectFailed few = refl
ends-is n Sent few = refl
ends-is n SendBusy few =
    let e = delays-waits (19 - n.delays) in
    end-unless (nat_lt (delays (waits (19 - n.delays)) + 1) 20) (nat_lt n.delays 1) StillBusy (Send 500) refl
    (delay-goes (delays (waits (19 - n.delays))) n.delays few e) (delay-last (delays (waits (19 - n.delays))) n.delays few e)
ends-is n SendFailed few = refl

abbrev retries-of : ℕ → ℕ → RetriesLeft
retries-of a b = record { absences = a; delays = b }

pub same-retries : (x y : RetriesLeft) → x.absences ≡ y.absences → x.delays ≡ y.delays → x ≡ y
same-retries x y a b = ap (λ (k : ℕ). retries-of k x.delays) a ∙ ap (λ (k : ℕ). retries-of y.absences k) b

-- and so much is borne after it
pub retries-is : (n x : RetriesLeft) (answer : SendAnswer) → n.delays ≤ 19 → IsAfterSends n.absences (answer ∷ waits (19 - n.delays)) x
    → x ≡ retries_after n answer
retries-is n x Connected few after =
    same-retries x n (let a = after.absences in let e = absences-waits (19 - n.delays) in omega arith)
    (let b = after.delays in let e = delays-waits (19 - n.delays) in omega arith)
retries-is n x NotThere few after =
    same-retries x (retries_after n NotThere) (let a = after.absences in let e = absences-waits (19 - n.delays) in omega arith)
    (let b = after.delays in let e = delays-waits (19 - n.delays) in omega arith)
retries-is n x StillConnecting few after =
    same-retries x (retries_after n StillConnecting) (let a = after.absences in let e = absences-waits (19 - n.delays) in omega arith)
    (let b = after.delays in let e = delays-waits (19 - n.delays) in omega arith)
retries-is n x ConnectFailed few after =
    same-retries x n (let a = after.absences in let e = absences-waits (19 - n.delays) in omega arith)
    (let b = after.delays in let e = delays-waits (19 - n.delays) in omega arith)
retries-is n x Sent few after =
    same-retries x n (let a = after.absences in let e = absences-waits (19 - n.delays) in omega arith)
    (let b = after.delays in let e = delays-waits (19 - n.delays) in omega arith)
retries-is n x SendBusy few after =
    same-retries x (retries_after n SendBusy) (let a = after.absences in let e = absences-waits (19 - n.delays) in omega arith)
    (let b = after.delays in let e = delays-waits (19 - n.delays) in omega arith)
retries-is n x SendFailed few after =
    same-retries x n (let a = after.absences in let e = absences-waits (19 - n.delays) in omega arith)
    (let b = after.delays in let e = delays-waits (19 - n.delays) in omega arith)

-- whether the offer ends, by what the retry answered
pub ended : (n : RetriesLeft) (answer : SendAnswer) (next : SendNext) → n.delays ≤ 19 → next ≡ send_next n.absences (waits (19 - n.delays)) answer
    → is_end next ≡ ends_by n answer
ended n answer next few is = ap is_end is ∙ ends-is n answer few

pub goes-on : (next : SendNext) → (next ≡ Done → ⊥) → ((reason : SendError) → next ≡ Refused reason → ⊥) → is_end next ≡ false
goes-on (Connect rest) done refused = refl
goes-on (Send rest) done refused = refl
goes-on Done done refused = absurd (done refl)
goes-on (Refused reason) done refused = absurd (refused reason refl)

pub ends-here : (next : SendNext) → (next ≡ Done) ⊎ ((reason : SendError) × (next ≡ Refused reason)) → true ≡ is_end next
ends-here next (inl done) = sym (ap is_end done)
ends-here next (inr refused) = sym (ap is_end refused.1)
