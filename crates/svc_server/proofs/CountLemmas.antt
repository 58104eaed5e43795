-- The counts of a host, turn after turn.
use Rattle.std.proofs.Common.{ℕ, ◌≡◌, Bool, true, false, refl, sym, subst, ap, ◌∙◌, Option, Some, None, Ok, Err, arith}
use Rattle.std.specs.Prelude.{Result, IfSome, MatchBool}
use Rattle.svc_base.specs.Streams.{Rose}
use Rattle.svc_record.specs.declared.event.Event.{Event}
use Rattle.svc_record.specs.declared.action.StepEnd.{StepEnd}
use Rattle.svc_record.specs.declared.action.StepEnd.TheVariants as ends
use Rattle.svc_record.specs.declared.action.BootstrapError.TheVariants as boots
use Rattle.svc_server.specs.declared.run.Outcome.{Outcome}
use Rattle.svc_server.specs.declared.run.Outcome.TheVariants.{Served, TestPassed, Parent}
use Rattle.svc_server.specs.declared.run.RunError.{RunError}
use Rattle.svc_server.specs.declared.run.RunError.TheVariants.{Config, HostFault, Bootstrap, Stray, TurnsSpent, OutOfEvents, NoMemory}
use Rattle.svc_server.specs.declared.host.Next.TheVariants as nexts
use Rattle.svc_server.specs.Hosts.{Counts, ComesWith, CountsAfter, tells_failure}
use Rattle.svc_server.specs.Runs.{IsUnfailed, RunCounts, IsConfigured, answer_of}
use Rattle.svc_server.specs.Turns.{HasNotFallen, EndCounts, TurnCounts, FailsBy, AnswersEvent}

rose-joined : (a b c : ℕ) → HasNotFallen a b → Rose b c → Rose a c
rose-joined a b c stood rose = omega arith

pub stood-joined : (a b c : ℕ) → HasNotFallen a b → HasNotFallen b c → HasNotFallen a c
stood-joined a b c first second = omega arith

stood-if : (b : Bool) (before now : ℕ) → MatchBool b (Rose before now) (now ≡ before) → HasNotFallen before now
stood-if true before now h = omega arith
stood-if false before now h = omega arith

rose-if : (b : Bool) (before now : ℕ) → MatchBool b (Rose before now) (now ≡ before) → b ≡ true → Rose before now
rose-if true before now h e = h
rose-if false before now h e = absurd (cc)

-- a turn in which an event came
pub counts-came : (last : Option Event) (answer : Result StepEnd RunError) (before middle next now : Counts) → ComesWith nexts.Event last
    → CountsAfter nexts.Event last middle next → IfSome last (FailsBy answer)
    → AnswersEvent answer → middle ≡ before → now ≡ next → TurnCounts answer before now
counts-came None answer before middle next now comes after fails event same_before same_now = absurd comes
counts-came (Some e) answer before middle next now comes after fails event same_before same_now =
    subst (λ (x : Counts). TurnCounts answer x now) same_before (subst (λ (x : Counts). TurnCounts answer middle x) (sym same_now) (at answer fails event))
  where
    at : (r : Result StepEnd RunError) → FailsBy r e → AnswersEvent r → TurnCounts r middle next
    at (Ok end) f a = record {
      unfailed = (after.0, after.1);
      failures = stood-if (tells_failure e) middle.failures next.failures after.2;
      transfer = λ is. rose-if (tells_failure e) middle.failures next.failures after.2 (f is);
    }
    at (Err (Config key)) f a = absurd a
    at (Err HostFault) f a = absurd a
    at (Err (Bootstrap x)) f a = absurd a
    at (Err (Stray k)) f a = (after.0, after.1)
    at (Err TurnsSpent) f a = absurd a
    at (Err OutOfEvents) f a = absurd a
    at (Err NoMemory) f a = (after.0, after.1)

pub configured-event : (answer : Result StepEnd RunError) → AnswersEvent answer → IsConfigured answer
configured-event (Ok end) a = tt
configured-event (Err (Config key)) a = absurd a
configured-event (Err HostFault) a = tt
configured-event (Err (Bootstrap x)) a = tt
configured-event (Err (Stray k)) a = tt
configured-event (Err TurnsSpent) a = tt
configured-event (Err OutOfEvents) a = tt
configured-event (Err NoMemory) a = tt

-- a step after others
pub counts-joined : (end : StepEnd) (before middle now : Counts) → IsUnfailed before middle → HasNotFallen before.failures middle.failures
    → EndCounts end middle now → EndCounts end before now
counts-joined end before middle now first stood h = record {
  unfailed = (h.unfailed.0 ∙ first.0, h.unfailed.1 ∙ first.1);
  failures = stood-joined before.failures middle.failures now.failures stood h.failures;
  transfer = λ is. rose-joined before.failures middle.failures now.failures stood (h.transfer is);
}

-- the same of a run that is given up
pub counts-after : (error : RunError) (before middle now : Counts) → IsUnfailed before middle → HasNotFallen before.failures middle.failures
    → RunCounts (Err error) middle now → RunCounts (Err error) before now
counts-after (Config key) before middle now first stood h = (h.0 ∙ first.0, h.1 ∙ first.1)
counts-after HostFault before middle now first stood h = (subst (λ n. Rose n now.faults) first.0 h.0, h.1 ∙ first.1)
counts-after (Bootstrap boots.Transfer) before middle now first stood h =
    ((h.0.0 ∙ first.0, h.0.1 ∙ first.1), rose-joined before.failures middle.failures now.failures stood h.1)
counts-after (Bootstrap boots.NoSender) before middle now first stood h = (h.0 ∙ first.0, h.1 ∙ first.1)
counts-after (Bootstrap boots.BadMessage) before middle now first stood h = (h.0 ∙ first.0, h.1 ∙ first.1)
counts-after (Stray k) before middle now first stood h = (h.0 ∙ first.0, h.1 ∙ first.1)
counts-after TurnsSpent before middle now first stood h = (h.0 ∙ first.0, h.1 ∙ first.1)
counts-after OutOfEvents before middle now first stood h = (h.0 ∙ first.0, subst (λ n. Rose n now.idles) first.1 h.1)
counts-after NoMemory before middle now first stood h = (h.0 ∙ first.0, h.1 ∙ first.1)

-- nothing has changed
pub counts-same : (end : StepEnd) (before now : Counts) → now ≡ before → (end ≡ ends.Ended boots.Transfer → ⊥) → EndCounts end before now
counts-same end before now same other = record {
  unfailed = (ap (λ (x : Counts). x.faults) same, ap (λ (x : Counts). x.idles) same);
  failures = (let equal : now.failures ≡ before.failures = ap (λ (x : Counts). x.failures) same in omega arith);
  transfer = λ is. absurd (other is);
}

-- the counts of a run that has ended so
pub counts-end : (end : StepEnd) (answer : Result Outcome RunError) (before now : Counts) → answer_of end ≡ Some answer → EndCounts end before now
    → RunCounts answer before now
counts-end ends.On answer before now is h = absurd (cc)
counts-end ends.Served answer before now is h =
    let same : Ok Served ≡ answer = cc in subst (λ (a : Result Outcome RunError). RunCounts a before now) same h.unfailed
counts-end ends.Tested answer before now is h =
    let same : Ok TestPassed ≡ answer = cc in subst (λ (a : Result Outcome RunError). RunCounts a before now) same h.unfailed
counts-end (ends.Parent n) answer before now is h =
    let same : Ok (Parent n) ≡ answer = cc in subst (λ (a : Result Outcome RunError). RunCounts a before now) same h.unfailed
counts-end (ends.Ended boots.Transfer) answer before now is h =
    let same : Err (Bootstrap boots.Transfer) ≡ answer = cc in
    subst (λ (a : Result Outcome RunError). RunCounts a before now) same (h.unfailed, h.transfer refl)
counts-end (ends.Ended boots.NoSender) answer before now is h =
    let same : Err (Bootstrap boots.NoSender) ≡ answer = cc in subst (λ (a : Result Outcome RunError). RunCounts a before now) same h.unfailed
counts-end (ends.Ended boots.BadMessage) answer before now is h =
    let same : Err (Bootstrap boots.BadMessage) ≡ answer = cc in subst (λ (a : Result Outcome RunError). RunCounts a before now) same h.unfailed

pub configured-end : (end : StepEnd) (answer : Result Outcome RunError) → answer_of end ≡ Some answer → IsConfigured answer
configured-end ends.On answer is = absurd (cc)
configured-end ends.Served answer is = let same : Ok Served ≡ answer = cc in subst (λ (a : Result Outcome RunError). IsConfigured a) same tt
configured-end ends.Tested answer is = let same : Ok TestPassed ≡ answer = cc in subst (λ (a : Result Outcome RunError). IsConfigured a) same tt
configured-end (ends.Parent n) answer is = let same : Ok (Parent n) ≡ answer = cc in subst (λ (a : Result Outcome RunError). IsConfigured a) same tt
configured-end (ends.Ended x) answer is = let same : Err (Bootstrap x) ≡ answer = cc in subst (λ (a : Result Outcome RunError). IsConfigured a) same tt

pub configured-by : {given answer : Result Outcome RunError} {found : Option (Result Outcome RunError)} (end : StepEnd) → given ≡ answer → found ≡ Some answer
    → found ≡ answer_of end → IsConfigured given
configured-by {answer = answer} end given is found =
    subst (λ (a : Result Outcome RunError). IsConfigured a) (sym given) (configured-end end answer (sym found ∙ is))

-- a run that hasn't ended goes on
pub on-end : (end : StepEnd) → answer_of end ≡ None → end ≡ ends.On
on-end ends.On is = refl
on-end ends.Served is = absurd (cc)
on-end ends.Tested is = absurd (cc)
on-end (ends.Parent n) is = absurd (cc)
on-end (ends.Ended x) is = absurd (cc)
