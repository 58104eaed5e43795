-- How a turn goes on, and how a run ends, from what the core and the closes leave.
use Rattle.std.proofs.Common.{ℕ, ◌≡◌, ◌+◌, ◌<◌, ◌≤◌, true, false, List, [], ◌∷◌, ◌++◌, length, map, Option, Some, None, Ok, Err, refl, ap, sym, subst, ◌∙◌, arith, length-append, append_assoc, inl, inr}
use Rattle.std.specs.Prelude.{IfSome, Result}
use Rattle.std.specs.Option.{option_map}
use Rattle.std.proofs.lemmas.List.{map-append}
use Rattle.svc_record.specs.declared.plan.Plan.{Plan}
use Rattle.svc_record.specs.declared.event.Event.{Event}
use Rattle.svc_record.specs.declared.entry.Entry.TheVariants.{Got, Told}
use Rattle.svc_record.specs.declared.action.Action.{Action}
use Rattle.svc_record.specs.declared.action.StepEnd.{StepEnd}
use Rattle.svc_record.specs.declared.action.StepEnd.TheVariants as ends
use Rattle.svc_record.specs.declared.item.Item.{Item}
use Rattle.svc_record.specs.declared.item.Item.TheVariants as items
use Rattle.svc_record.specs.Record.{Record, tell}
use Rattle.svc_record.specs.Ends.{step_end, has_ended}
use Rattle.svc_record.specs.Fits.{Fits}
use Rattle.svc_record.specs.Right.{Right}
use Rattle.svc_record.specs.Tail.{with_event, closing_actions}
use Rattle.svc_record.specs.Connections.{Verdict}
use Rattle.svc_record.proofs.Closing.{right_closes}
use Rattle.svc_core.specs.CoreData.{CoreData, is_served}
use Rattle.svc_core.specs.Stands.{Represents}
use Rattle.svc_server.specs.declared.run.Outcome.{Outcome}
use Rattle.svc_server.specs.declared.run.Outcome.TheVariants.{Served, TestPassed, Parent}
use Rattle.svc_server.specs.declared.run.RunError.{RunError}
use Rattle.svc_server.specs.declared.run.RunError.TheVariants.{HostFault, Bootstrap, Stray, TurnsSpent, OutOfEvents, NoMemory}
use Rattle.svc_server.specs.declared.host.Next.TheVariants as nexts
use Rattle.svc_server.specs.Hosts.{Account, no_account, ComesWith, AheadAfter, item_of, account_after, with_entry}
use Rattle.svc_server.specs.Judges.{IsSaid, Judges}
use Rattle.svc_server.specs.Runs.{events_of, names_of, IsClosed, IsEndedSo, RunEnds, StopsEarly, RunTells, RunTakes, taken_items, LeavesNothing, answer_of}
use Rattle.svc_server.specs.Handing.{account_of, names_left, Hands}
use Rattle.svc_server.specs.Turns.{IsAt, IsAtEvent, IsSomewhereAtEvent, IsAhead, ClosesTo, Leaves, RunGives, TurnGives, EventGives, FailsBy}
use Rattle.svc_server.proofs.SaidLemmas.{said-untold, judges-first, judges-got, closing-judges}
use Rattle.svc_server.proofs.AnswerOfStep.{served_from_answer, on_from_answer, failure_from_answer}

-- what is told adds no event
pub events-tell : (q : Record) (told : List Action) → events_of (tell q told) ≡ events_of q
events-tell q [] = refl
events-tell q (a ∷ more) = events-tell (Told a ∷ q) more

events-count : (q : Record) (e : Event) (k : ℕ) → length (events_of q) ≡ k → length (events_of (Got e ∷ q)) ≡ k + 1
events-count q e k h = omega (arith, h, length-append (events_of q) (e ∷ []))

-- ---- what a run gives, from its record

tells-from : (verdict : Verdict) (account : Option Account) (p : Plan) (turns : ℕ) (answer : Result Outcome RunError) (r : Record)
    → IfSome account (λ a. a ≡ account_of p r) → RunEnds p turns answer r
    → length (events_of r) ≤ turns → StopsEarly turns answer r → IsSaid verdict p r → IfSome account (RunTells verdict p turns answer)
tells-from verdict None p turns answer r told ends few early said = tt
tells-from verdict (Some a) p turns answer r told ends few early said =
    subst (RunTells verdict p turns answer) (sym told) (record { ends = ends; few = few; early = early; handed = refl; said = said })

some-same : (a b : List Item) → ◌≡◌ {A = Option (List Item)} (Some a) (Some b) → a ≡ b
some-same a b e = cc

takes-from : (account : Option Account) (p : Plan) (answer : Result Outcome RunError) (r : Record) (before now : Option (List Item))
    → IfSome account (λ a. a ≡ account_of p r)
    → before ≡ option_map (λ rest. taken_items answer r ++ rest) now → IfSome now (LeavesNothing answer)
    → IfSome account (λ a. IfSome before (λ b. IfSome now (RunTakes answer a.entries b)))
takes-from None p answer r before now told ahead left = tt
takes-from (Some a) p answer r None now told ahead left = tt
takes-from (Some a) p answer r (Some b) None told ahead left = tt
takes-from (Some a) p answer r (Some b) (Some n) told ahead left =
    subst (λ (x : Account). RunTakes answer x.entries b n) (sym told) (record { taken = some-same b (taken_items answer r ++ n) ahead; left = left })

pub gives : (verdict : Verdict) (account : Option Account) (p : Plan) (turns : ℕ) (answer : Result Outcome RunError) (r : Record)
    (before now : Option (List Item)) → IfSome account (λ a. a ≡ account_of p r)
    → RunEnds p turns answer r → length (events_of r) ≤ turns → StopsEarly turns answer r → IsSaid verdict p r
    → before ≡ option_map (λ rest. taken_items answer r ++ rest) now
    → IfSome now (LeavesNothing answer)
    → RunGives verdict p turns answer account before now
gives verdict account p turns answer r before now told ends few early said ahead left = record {
  tells = tells-from verdict account p turns answer r told ends few early said;
  takes = takes-from account p answer r before now told ahead left;
}

-- nothing is said of what is left, where the answer says nothing of it
none-said : (now : Option (List Item)) (P : List Item → Type 0) → ((n : List Item) → P n) → IfSome now P
none-said None P f = tt
none-said (Some n) P f = f n

ahead-same : (before now : Option (List Item)) (q r : Record) → events_of r ≡ events_of q → IsAhead before now q → IsAhead before now r
ahead-same before now q r e h = subst (λ es. before ≡ option_map (λ rest. map items.Event es ++ rest) now) (sym e) h

pub ahead-now : (before middle now : Option (List Item)) (q : Record) → now ≡ middle → IsAhead before middle q → IsAhead before now q
ahead-now before middle now q e h = subst (λ o. IsAhead before o q) (sym e) h

pub plan-now : (verdict : Verdict) (p now : Plan) (turns : ℕ) (answer : Result Outcome RunError) (account : Option Account) (before ahead : Option (List Item))
    → now ≡ p → RunGives verdict p turns answer account before ahead
    → RunGives verdict now turns answer account before ahead
plan-now verdict p now turns answer account before ahead e h = subst (λ x. RunGives verdict x turns answer account before ahead) (sym e) h

-- ---- a run that was closed

closed : (p : Plan) (q : Record) (also : Option Event) → Right p q → has_ended p q ≡ false
    → IsClosed p (tell (with_event also q) (closing_actions p q also)) q also
closed p q also right on = record { right = right; goes_on = on; closed = refl; closed_once = right_closes p q also right }

-- the closes of the record q were told, in which k events stand, and which leaves the run so
pub record ClosedAt (verdict : Verdict) (p : Plan) (account : Option Account) (k : ℕ) (end : StepEnd) (q r : Record) : Type 0 where
  pub told : IfSome account (λ a. a ≡ account_of p r)
  pub right : Right p q
  pub answer : end ≡ step_end p q
  pub all : r ≡ tell q (closing_actions p q None)
  pub events : events_of r ≡ events_of q
  pub count : length (events_of q) ≡ k
  pub said : IsSaid verdict p r

is-closed : (verdict : Verdict) (p : Plan) (account : Option Account) (k : ℕ) (q r : Record) → ClosedAt verdict p account k ends.On q r → IsClosed p r q None
is-closed verdict p account k q r c =
    record { right = c.right; goes_on = on_from_answer p q c.answer; closed = c.all; closed_once = right_closes p q None c.right }

is-ended : (verdict : Verdict) (p : Plan) (account : Option Account) (k : ℕ) (end : StepEnd) (q r : Record) → ClosedAt verdict p account k end q r
    → IsEndedSo p end r q
is-ended verdict p account k end q r c = record { right = c.right; ended = c.answer; closed = c.all; closed_once = right_closes p q None c.right }

-- a core, services and a host that are what they were close what was there
closes-same : (core core2 : CoreData) (left left2 now_left : List (Option (List ℕ))) (account account2 now_account : Option Account) (also : Option Event)
    → core2 ≡ core → left2 ≡ left → account2 ≡ account
    → ClosesTo core2 left2 now_left account2 now_account also → ClosesTo core left now_left account now_account also
closes-same core core2 left left2 now_left account account2 now_account also same_core same_left same_account close =
    subst (λ (x : CoreData). ClosesTo x left now_left account now_account also) same_core
    (subst (λ o. ClosesTo core2 left now_left o now_account also) same_account
    (subst (λ xs. ClosesTo core2 xs now_left account2 now_account also) same_left close))

pub closed-at : (verdict answers : Verdict) (core core2 : CoreData) (left left2 now_left : List (Option (List ℕ)))
    (account account2 now_account : Option Account) (k : ℕ) (end : StepEnd) (q : Record) → core2 ≡ core → left2 ≡ left
    → account2 ≡ account → IsAt core left account k end q → Judges verdict answers core.plan q → ClosesTo core2 left2 now_left account2 now_account None
    → ClosedAt verdict core.plan now_account k end q (tell q (closing_actions core.plan q None))
closed-at verdict answers core core2 left left2 now_left account account2 now_account k end q same_core same_left same_account at judges close = record {
  told = (closes-same core core2 left left2 now_left account account2 now_account None same_core same_left same_account close q at.stands at.hands).told_is;
  right = at.right;
  answer = at.answer;
  all = refl;
  events = events-tell q (closing_actions core.plan q None);
  count = at.count;
  said = said-untold verdict core.plan q (closing_actions core.plan q None) (closing-judges core.plan q None) judges.said;
}

few-closed : (verdict : Verdict) (p : Plan) (account : Option Account) (k turns : ℕ) (end : StepEnd) (q r : Record) → ClosedAt verdict p account k end q r
    → k ≤ turns → length (events_of r) ≤ turns
few-closed verdict p account k turns end q r c le = omega (arith, ap length c.events, c.count)

pub gives-no_memory : (verdict : Verdict) (p : Plan) (account : Option Account) (k turns : ℕ) (q r : Record) (before now : Option (List Item))
    → ClosedAt verdict p account k ends.On q r → k < turns → IsAhead before now q
    → RunGives verdict p turns (Err NoMemory) account before now
gives-no_memory verdict p account k turns q r before now c lt ahead =
    gives verdict account p turns (Err NoMemory) r before now c.told (inr (q, (None, is-closed verdict p account k q r c)))
    (few-closed verdict p account k turns ends.On q r c (omega arith)) tt c.said (ahead-same before now q r c.events ahead)
    (none-said now (LeavesNothing (Err NoMemory)) (λ n. tt))

pub gives-spent : (verdict : Verdict) (p : Plan) (account : Option Account) (turns : ℕ) (q r : Record) (before now : Option (List Item))
    → ClosedAt verdict p account turns ends.On q r → IsAhead before now q
    → RunGives verdict p turns (Err TurnsSpent) account before now
gives-spent verdict p account turns q r before now c ahead =
    gives verdict account p turns (Err TurnsSpent) r before now c.told (q, record { closed = is-closed verdict p account turns q r c; count = c.count })
    (few-closed verdict p account turns turns ends.On q r c (omega arith)) tt c.said
    (ahead-same before now q r c.events ahead) (none-said now (LeavesNothing (Err TurnsSpent)) (λ n. tt))

-- nothing was left, so nothing is
left-none : (middle now : Option (List Item)) → now ≡ middle → IfSome middle (λ rest. rest ≡ []) → IfSome now (λ rest. rest ≡ [])
left-none middle now e h = subst (λ o. IfSome o (λ rest. rest ≡ [])) (sym e) h

pub gives-idle : (verdict : Verdict) (p : Plan) (account : Option Account) (k turns : ℕ) (q r : Record) (before middle now : Option (List Item))
    → ClosedAt verdict p account k ends.On q r → k < turns → IsAhead before middle q
    → now ≡ middle → IfSome middle (λ rest. rest ≡ []) → RunGives verdict p turns (Err OutOfEvents) account before now
gives-idle verdict p account k turns q r before middle now c lt ahead same none =
    gives verdict account p turns (Err OutOfEvents) r before now c.told (q, is-closed verdict p account k q r c)
    (few-closed verdict p account k turns ends.On q r c (omega arith)) (omega (arith, ap length c.events, c.count)) c.said
    (ahead-same before now q r c.events (ahead-now before middle now q same ahead)) (left-none middle now same none)

map-both : (f g : List Item → List Item) (o : Option (List Item)) → option_map f (option_map g o) ≡ option_map (λ rest. f (g rest)) o
map-both f g None = refl
map-both f g (Some x) = refl

map-same : (f g : List Item → List Item) (o : Option (List Item)) → ((x : List Item) → f x ≡ g x) → option_map f o ≡ option_map g o
map-same f g None h = refl
map-same f g (Some x) h = ap Some (h x)

-- one more item was taken of what lay ahead
ahead-more : (before middle now : Option (List Item)) (front : List Item) (item : Item) → before ≡ option_map (λ rest. front ++ rest) middle
    → middle ≡ option_map (λ rest. item ∷ rest) now
    → before ≡ option_map (λ rest. (front ++ item ∷ []) ++ rest) now
ahead-more before middle now front item e f =
    e ∙ (ap (option_map (λ rest. front ++ rest)) f ∙ (map-both (λ rest. front ++ rest) (λ rest. item ∷ rest) now
    ∙ map-same (λ rest. front ++ (item ∷ rest)) (λ rest. (front ++ item ∷ []) ++ rest) now (λ rest. sym (append_assoc front (item ∷ []) rest))))

pub gives-fault : (verdict : Verdict) (p : Plan) (account : Option Account) (k turns : ℕ) (q r : Record) (before middle now : Option (List Item))
    → ClosedAt verdict p account k ends.On q r → k < turns → IsAhead before middle q
    → middle ≡ option_map (λ rest. items.Fault ∷ rest) now → RunGives verdict p turns (Err HostFault) account before now
gives-fault verdict p account k turns q r before middle now c lt ahead step =
    gives verdict account p turns (Err HostFault) r before now c.told (q, is-closed verdict p account k q r c)
    (few-closed verdict p account k turns ends.On q r c (omega arith)) (omega (arith, ap length c.events, c.count)) c.said
    (ahead-more before middle now (map items.Event (events_of r)) items.Fault (ahead-same before middle q r c.events ahead) step)
    (none-said now (LeavesNothing (Err HostFault)) (λ n. tt))

-- the next event was taken of what lay ahead
pub ahead-event : (before middle now : Option (List Item)) (q : Record) (e : Event) → IsAhead before middle q
    → middle ≡ option_map (λ rest. items.Event e ∷ rest) now → IsAhead before now (Got e ∷ q)
ahead-event before middle now q e h step =
    subst (λ xs. before ≡ option_map (λ rest. xs ++ rest) now) (sym (map-append items.Event (events_of q) (e ∷ [])))
    (ahead-more before middle now (map items.Event (events_of q)) (items.Event e) h step)

-- ---- an event that came

-- what was left unfinished was closed
pub record UnfinishedAt (verdict : Verdict) (core : CoreData) (account : Option Account) (k : ℕ) (e : Event) (q r : Record) : Type 0 where
  pub told : IfSome account (λ a. a ≡ account_of core.plan r)
  pub is_closed : IsClosed core.plan r q (Some e)
  pub events : events_of r ≡ events_of (Got e ∷ q)
  pub count : length (events_of q) ≡ k
  pub more : length (events_of r) ≡ k + 1
  pub said : IsSaid verdict core.plan r

pub unfinished-at : (verdict answers : Verdict) (core core2 : CoreData) (left left2 now_left : List (Option (List ℕ)))
    (account account2 now_account : Option Account) (k : ℕ) (e : Event) (q : Record) → core2 ≡ core → left2 ≡ left
    → account2 ≡ account → IsAtEvent core left account k e q → Judges verdict answers core.plan q → ClosesTo core2 left2 now_left account2 now_account (Some e)
    → UnfinishedAt verdict core now_account k e q (tell (Got e ∷ q) (closing_actions core.plan q (Some e)))
unfinished-at verdict answers core core2 left left2 now_left account account2 now_account k e q same_core same_left same_account at judges close =
    let events = events-tell (Got e ∷ q) (closing_actions core.plan q (Some e)) in
    record {
      told = (closes-same core core2 left left2 now_left account account2 now_account
          (Some e) same_core same_left same_account close q at.stands at.hands).told_is;
      is_closed = closed core.plan q (Some e) at.right at.goes_on;
      events = events;
      count = at.count;
      more = ap length events ∙ events-count q e k at.count;
      said = said-untold verdict core.plan (Got e ∷ q) (closing_actions core.plan q (Some e)) (closing-judges core.plan q (Some e))
          (judges-got verdict answers core.plan q e judges).said;
    }

pub gives-stray : (verdict : Verdict) (core core2 : CoreData) (account : Option Account) (k turns : ℕ) (e : Event) (q r : Record)
    (before middle now : Option (List Item)) → core2 ≡ core → UnfinishedAt verdict core account k e q r
    → (Fits core.plan q e → ⊥) → k < turns → IsAhead before middle (Got e ∷ q) → now ≡ middle
    → RunGives verdict core2.plan turns (Err (Stray (k + 1))) account before now
gives-stray verdict core core2 account k turns e q r before middle now same u misfit lt ahead same_ahead =
    plan-now verdict core.plan core2.plan turns (Err (Stray (k + 1))) account before now (ap (λ (x : CoreData). x.plan) same)
    (gives verdict account core.plan turns (Err (Stray (k + 1))) r before now u.told
    (q, (e, record { closed = u.is_closed; misfit = misfit; number = ap (λ n. n + 1) (sym u.count) }))
    (omega (arith, u.more)) tt u.said (ahead-same before now (Got e ∷ q) r u.events (ahead-now before middle now (Got e ∷ q) same_ahead ahead))
    (none-said now (LeavesNothing (Err (Stray (k + 1)))) (λ n. tt)))

-- memory was refused for its step
pub gives-refused : (verdict : Verdict) (core core2 : CoreData) (account : Option Account) (k turns : ℕ) (e : Event) (q r : Record)
    (before middle now : Option (List Item)) → core2 ≡ core → UnfinishedAt verdict core account k e q r
    → k < turns → IsAhead before middle (Got e ∷ q) → now ≡ middle → RunGives verdict core2.plan turns (Err NoMemory) account before now
gives-refused verdict core core2 account k turns e q r before middle now same u lt ahead same_ahead =
    plan-now verdict core.plan core2.plan turns (Err NoMemory) account before now (ap (λ (x : CoreData). x.plan) same)
    (gives verdict account core.plan turns (Err NoMemory) r before now u.told (inr (q, (Some e, u.is_closed))) (omega (arith, u.more)) tt u.said
    (ahead-same before now (Got e ∷ q) r u.events (ahead-now before middle now (Got e ∷ q) same_ahead ahead))
    (none-said now (LeavesNothing (Err NoMemory)) (λ n. tt)))

-- after a step: the next point, or the last
pub leaves-at : (verdict answers now_answers : Verdict) (core : CoreData) (left : List (Option (List ℕ))) (account : Option Account) (k : ℕ) (end : StepEnd)
    (q : Record) (before now : Option (List Item)) → (h : Leaves answers now_answers core left account end q)
    → length (events_of q) ≡ k → IsAhead before now q → Judges verdict answers core.plan q
    → (t : Record) × (IsAt core left account k end t × (IsAhead before now t × Judges verdict now_answers core.plan t))
leaves-at verdict answers now_answers core left account k end q before now h count ahead judges =
    let r : Record = tell q h.told in
    let events : events_of r ≡ events_of q = events-tell q h.told in (
      r,
      (
        record {
          stands = h.step.stands;
          right = h.step.right;
          answer = h.step.answer;
          hands = h.hands;
          count = ap length events ∙ count;
        },
        (ahead-same before now q r events ahead, h.judges verdict judges),
      ),
    )

-- the step of an event
pub gives-step : (verdict answers now_answers : Verdict) (core : CoreData) (left now_left : List (Option (List ℕ))) (account now_account : Option Account)
    (old : CoreData) (k turns : ℕ) (e : Event) (q : Record) (end : StepEnd) (before middle now : Option (List Item))
    → core.plan ≡ old.plan → IsAtEvent old left account k e q → Leaves answers now_answers core now_left now_account end (Got e ∷ q)
    → IsAhead before middle (Got e ∷ q) → now ≡ middle → Judges verdict answers old.plan q
    → TurnGives verdict now_answers core now_left now_account k turns (Ok end) before now
gives-step verdict answers now_answers core left now_left account now_account old k turns e q end before middle now plan at h ahead same judges =
    leaves-at verdict answers now_answers core now_left now_account (k + 1) end (Got e ∷ q) before now h (events-count q e k at.count)
    (ahead-now before middle now (Got e ∷ q) same ahead)
    (judges-got verdict answers core.plan q e (subst (λ (p : Plan). Judges verdict answers p q) (sym plan) judges))

-- receiving failed only at an event that tells it
pub fails-by : (answers now_answers : Verdict) (core now_core : CoreData) (left now_left : List (Option (List ℕ))) (account now_account : Option Account)
    (k : ℕ) (end : StepEnd) (last : Option Event) (e : Event) → last ≡ Some e
    → now_core.plan ≡ core.plan → IsSomewhereAtEvent core left account k last
    → ((q : Record) → Represents core q → Right core.plan q → Hands left account core.plan (Got e ∷ q)
    → Leaves answers now_answers now_core now_left now_account end (Got e ∷ q)) → IfSome last (FailsBy (Ok end))
fails-by answers now_answers core now_core left now_left account now_account k end last e same plan somewhere leaves =
    let there : IsSomewhereAtEvent core left account k (Some e) = subst (λ (o : Option Event). IsSomewhereAtEvent core left account k o) same somewhere in
    let q = there.1.0 in
    let at : IsAtEvent core left account k e q = there.1.1 in
    let h = leaves q at.stands at.right at.hands in
    subst (λ (o : Option Event). IfSome o (FailsBy (Ok end))) (sym same)
    (λ is. failure_from_answer core.plan q e h.told at.goes_on (sym is ∙ h.step.answer ∙ ap (λ (p : Plan). step_end p (tell (Got e ∷ q) h.told)) plan))

-- ---- a run that has ended

pub gives-served : (verdict answers : Verdict) (core : CoreData) (left : List (Option (List ℕ))) (account : Option Account) (k turns : ℕ) (end : StepEnd)
    (answer : Result Outcome RunError) (q : Record) (before now : Option (List Item))
    → is_served end ≡ true → answer_of end ≡ Some answer → IsAt core left account k end q → k ≤ turns → IsAhead before now q
    → Judges verdict answers core.plan q → RunGives verdict core.plan turns answer account before now
gives-served verdict answers core left account k turns ends.On answer q before now served is at le ahead judges = absurd (cc)
gives-served verdict answers core left account k turns ends.Served answer q before now served is at le ahead judges =
    let same : Ok Served ≡ answer = cc in
    subst (λ (a : Result Outcome RunError). RunGives verdict core.plan turns a account before now) same
    (gives verdict account core.plan turns (Ok Served) q before now at.hands.told_is
    (record { served = served_from_answer core.plan q at.right at.answer; right = at.right })
    (omega (arith, at.count)) tt judges.said ahead (none-said now (LeavesNothing (Ok Served)) (λ n. tt)))
gives-served verdict answers core left account k turns ends.Tested answer q before now served is at le ahead judges = absurd (cc)
gives-served verdict answers core left account k turns (ends.Parent n) answer q before now served is at le ahead judges = absurd (cc)
gives-served verdict answers core left account k turns (ends.Ended x) answer q before now served is at le ahead judges = absurd (cc)

-- otherwise than by its shutdown
pub gives-ended : (verdict : Verdict) (p : Plan) (account : Option Account) (k turns : ℕ) (end : StepEnd) (answer : Result Outcome RunError) (q r : Record)
    (before now : Option (List Item)) → is_served end ≡ false
    → answer_of end ≡ Some answer → ClosedAt verdict p account k end q r → k ≤ turns → IsAhead before now q → RunGives verdict p turns answer account before now
gives-ended verdict p account k turns ends.On answer q r before now other is c le ahead = absurd (cc)
gives-ended verdict p account k turns ends.Served answer q r before now other is c le ahead = absurd (cc)
gives-ended verdict p account k turns ends.Tested answer q r before now other is c le ahead =
    let same : Ok TestPassed ≡ answer = cc in
    subst (λ (a : Result Outcome RunError). RunGives verdict p turns a account before now) same
    (gives verdict account p turns (Ok TestPassed) r before now c.told (q, is-ended verdict p account k ends.Tested q r c)
    (few-closed verdict p account k turns ends.Tested q r c le) tt c.said (ahead-same before now q r c.events ahead)
    (none-said now (LeavesNothing (Ok TestPassed)) (λ n. tt)))
gives-ended verdict p account k turns (ends.Parent n) answer q r before now other is c le ahead =
    let same : Ok (Parent n) ≡ answer = cc in
    subst (λ (a : Result Outcome RunError). RunGives verdict p turns a account before now) same
    (gives verdict account p turns (Ok (Parent n)) r before now c.told (q, is-ended verdict p account k (ends.Parent n) q r c)
    (few-closed verdict p account k turns (ends.Parent n) q r c le) tt c.said (ahead-same before now q r c.events ahead)
    (none-said now (LeavesNothing (Ok (Parent n))) (λ m. tt)))
gives-ended verdict p account k turns (ends.Ended x) answer q r before now other is c le ahead =
    let same : Err (Bootstrap x) ≡ answer = cc in
    subst (λ (a : Result Outcome RunError). RunGives verdict p turns a account before now) same
    (gives verdict account p turns (Err (Bootstrap x)) r before now c.told (q, is-ended verdict p account k (ends.Ended x) q r c)
    (few-closed verdict p account k turns (ends.Ended x) q r c le) tt c.said (ahead-same before now q r c.events ahead)
    (none-said now (LeavesNothing (Err (Bootstrap x))) (λ n. tt)))

-- nothing was taken yet
pub ahead-first : (before now : Option (List Item)) → now ≡ before → IsAhead before now []
ahead-first before None same = sym same
ahead-first before (Some x) same = sym same

-- and so after the first step, which nothing came before
pub first-at : {answers begun : Verdict} {core : CoreData} {left : List (Option (List ℕ))} {account : Option Account} {end : StepEnd}
    {before now : Option (List Item)} → Leaves answers begun core left account end [] → now ≡ before
    → (t : Record) × (IsAt core left account 0 end t × (IsAhead before now t × Judges answers begun core.plan t))
first-at {answers = answers} {begun = begun} {core = core} {left = left} {account = account} {end = end} {before = before} {now = now} h same =
    leaves-at answers answers begun core left account 0 end [] before now h refl (ahead-first before now same) (judges-first answers core.plan)

-- ---- an event comes

told-event : (account : Option Account) (p : Plan) (q : Record) (e : Event) → IfSome account (λ a. a ≡ account_of p q)
    → IfSome (option_map (with_entry (Got e)) account) (λ a. a ≡ account_of p (Got e ∷ q))
told-event None p q e h = tt
told-event (Some a) p q e h = ap (with_entry (Got e)) h

pub at-event : (core core2 : CoreData) (left left2 : List (Option (List ℕ))) (account account2 : Option Account) (k : ℕ) (e : Event) (q : Record) → core2 ≡ core
    → left2 ≡ left
    → account2 ≡ option_map (with_entry (Got e)) account → IsAt core left account k ends.On q → IsAtEvent core2 left2 account2 k e q
at-event core core2 left left2 account account2 k e q same_core same_left same_account at =
    subst (λ x. IsAtEvent x left2 account2 k e q) (sym same_core) (record {
      stands = at.stands;
      right = at.right;
      goes_on = on_from_answer core.plan q at.answer;
      hands = subst (λ xs. Hands xs account2 core.plan (Got e ∷ q)) (sym same_left) (subst (λ o. Hands left o core.plan (Got e ∷ q)) (sym same_account)
          (record { left_is = at.hands.left_is; told_is = told-event account core.plan q e at.hands.told_is }));
      count = at.count;
    })

-- what is so of the event that came
pub if-came : (P : Event → Type 0) (last : Option Event) (e : Event) → last ≡ Some e → P e → IfSome last P
if-came P last e same h = subst (λ o. IfSome o P) (sym same) h

-- filters and a core that are what they were
judges-same : (verdict answers answers2 : Verdict) (core core2 : CoreData) (q : Record) → answers2 ≡ answers → core2 ≡ core → Judges verdict answers core.plan q
    → Judges verdict answers2 core2.plan q
judges-same verdict answers answers2 core core2 q same_answers same_core judges =
    subst (λ (x : CoreData). Judges verdict answers2 x.plan q) (sym same_core) (subst (λ (v : Verdict). Judges verdict v core.plan q) (sym same_answers) judges)

-- a turn in which an event came
pub gives-came : (verdict answers answers2 now_answers : Verdict) (core core2 core3 : CoreData) (left left2 now_left : List (Option (List ℕ)))
    (account middle account2 now_account : Option Account) (k turns : ℕ) (answer : Result StepEnd RunError)
    (before ahead middle_ahead ahead2 now : Option (List Item)) (last : Option Event) (q : Record) → ComesWith nexts.Event last → core2 ≡ core → left2 ≡ left
    → middle ≡ account → account2 ≡ account_after nexts.Event last middle
    → middle_ahead ≡ ahead → AheadAfter (item_of nexts.Event last) middle_ahead ahead2 → answers2 ≡ answers
    → IfSome last (EventGives answers2 now_answers core2 core3 left2 now_left account2 now_account k answer ahead2 now)
    → k < turns → IsAt core left account k ends.On q → IsAhead before ahead q → Judges verdict answers core.plan q
    → TurnGives verdict now_answers core3 now_left now_account k turns answer before now
gives-came verdict answers answers2 now_answers core core2 core3 left left2 now_left account middle account2 now_account k turns answer before ahead
    middle_ahead ahead2 now None q comes same_core same_left same_account after same_ahead step same_answers gives lt at is judges = absurd comes
gives-came verdict answers answers2 now_answers core core2 core3 left left2 now_left account middle account2 now_account k turns answer before ahead
    middle_ahead ahead2 now (Some e) q comes same_core same_left same_account after same_ahead step same_answers gives lt at is judges =
    gives verdict turns before q lt
    (at-event core core2 left left2 account account2 k e q same_core same_left (after ∙ ap (option_map (with_entry (Got e))) same_account) at)
    (ahead-event before middle_ahead ahead2 q e (ahead-now before ahead middle_ahead q same_ahead is) step)
    (judges-same verdict answers answers2 core core2 q same_answers same_core judges)

pub at-came : (core core2 : CoreData) (left left2 : List (Option (List ℕ))) (account middle account2 : Option Account) (k : ℕ) (last : Option Event)
    (q : Record) → ComesWith nexts.Event last → core2 ≡ core → left2 ≡ left
    → middle ≡ account → account2 ≡ account_after nexts.Event last middle → IsAt core left account k ends.On q → IsSomewhereAtEvent core2 left2 account2 k last
at-came core core2 left left2 account middle account2 k None q comes same_core same_left same_account after at = comes
at-came core core2 left left2 account middle account2 k (Some e) q comes same_core same_left same_account after at =
    (comes, (q, at-event core core2 left left2 account account2 k e q same_core same_left (after ∙ ap (option_map (with_entry (Got e))) same_account) at))

-- ---- the first step

left-first : {B : Type 0} (named : B → List ℕ) (services : List B) → names_left named (map Some services) ≡ map Some (map named services)
left-first named [] = refl
left-first named (x ∷ xs) = ap (λ ys. Some (named x) ∷ ys) (left-first named xs)

-- all services are left, and nothing was told
pub hands-first : {B : Type 0} (named : B → List ℕ) (services : List B) (pending : List (Option B)) (account : Option Account) (p q : Plan) → q ≡ p
    → pending ≡ map Some services → map named services ≡ names_of p
    → IfSome account (λ a. a ≡ no_account) → Hands (names_left named pending) account q []
hands-first named services pending account p q same left names first =
    subst (λ x. Hands (names_left named pending) account x []) (sym same)
    (record { left_is = ap (names_left named) left ∙ (left-first named services ∙ ap (map Some) names); told_is = first })

pub gives-nothing : (verdict : Verdict) (account : Option Account) (p : Plan) (turns : ℕ) (before now : Option (List Item))
    → IfSome account (λ a. a ≡ account_of p []) → now ≡ before → RunGives verdict p turns (Err NoMemory) account before now
gives-nothing verdict account p turns before now told same =
    gives verdict account p turns (Err NoMemory) [] before now told (inl refl) (omega arith) tt tt (ahead-first before now same)
    (none-said now (LeavesNothing (Err NoMemory)) (λ n. tt))

-- the account is where it was
pub account-same : (account now : Option Account) (p : Plan) → now ≡ account → IfSome account (λ a. a ≡ account_of p []) → IfSome now (λ a. a ≡ account_of p [])
account-same account now p same h = subst (λ o. IfSome o (λ a. a ≡ account_of p [])) (sym same) h
