-- What a step of the core told, as it is told to a host.
use Rattle.std.proofs.Common.{ℕ, ◌≡◌, Bool, true, not, List, [], ◌∷◌, ◌++◌, Option, Some, ap, subst, sym, ◌∙◌}
use Rattle.std.proofs.lemmas.Bool.{not-true, ltb-true}
use Rattle.svc_record.specs.declared.plan.Plan.{Plan}
use Rattle.svc_record.specs.declared.event.Event.{Event}
use Rattle.svc_record.specs.declared.entry.Entry.{Entry}
use Rattle.svc_record.specs.declared.entry.Entry.TheVariants.{Got, Told}
use Rattle.svc_record.specs.declared.action.Action.{Action}
use Rattle.svc_record.specs.declared.action.Action.TheVariants.{Start}
use Rattle.svc_record.specs.declared.action.StepEnd.{StepEnd}
use Rattle.svc_record.specs.Plans.{service_count}
use Rattle.svc_record.specs.Record.{Record, tell, EachEntry}
use Rattle.svc_record.specs.Right.{Right}
use Rattle.svc_record.specs.Starts.{is_started, is_due, start_due, start_known}
use Rattle.svc_record.proofs.Sound.{both}
use Rattle.svc_record.specs.Connections.{Verdict}
use Rattle.svc_record.specs.Judging.{asked_filter, judged_at, TellsJudged}
use Rattle.svc_core.specs.CoreData.{CoreData}
use Rattle.svc_core.specs.Stands.{Represents, StepRight, BeginKeeps, StepKeeps}
use Rattle.svc_server.specs.Hosts.{Account}
use Rattle.svc_server.specs.Judges.{peer_at, Asks, Judges}
use Rattle.svc_server.specs.Handing.{Hands, DueStart, DueStarts, MayHandAll}
use Rattle.svc_server.specs.Turns.{CanTake, Leaves}
use Rattle.svc_server.proofs.SaidLemmas.{judges-untold, judges-step, judgements-told}

-- what holds of each entry held before more was told
each-front : (P : Entry → Record → Type 0) (q : Record) (told : List Action) → EachEntry P (tell q told) → EachEntry P q
each-front P q [] h = h
each-front P q (a ∷ more) h = (each-front P (Told a ∷ q) more h).1

due-one : (p : Plan) (q : Record) (a : Action) → start_due p (Told a) q ≡ true → start_known p (Told a) q ≡ true → DueStart p q a
due-one p q (Start s) due known = (ltb-true s (service_count p) known, not-true (is_started q s) (both (not (is_started q s)) (is_due p q s) due).0)
due-one p q _ due known = tt

due-told : (p : Plan) (q : Record) (told : List Action) → EachEntry (λ e before. start_due p e before ≡ true) (tell q told)
    → EachEntry (λ e before. start_known p e before ≡ true) (tell q told) → DueStarts p q told
due-told p q [] due known = tt
due-told p q (a ∷ more) due known = (
  due-one p q a (each-front (λ e before. start_due p e before ≡ true) (Told a ∷ q) more due).0
      (each-front (λ e before. start_known p e before ≡ true) (Told a ∷ q) more known).0,
  due-told p (Told a ∷ q) more due known,
)

-- the starts of a step that leaves a right record are due
due-step : (core : CoreData) (p : Plan) (q : Record) (told : List Action) (end : StepEnd) → core.plan ≡ p → StepRight core (tell q told) end
    → DueStarts p q told
due-step core p q told end same h = subst (λ (x : Plan). DueStarts x q told) same (due-told core.plan q told h.right.starts h.right.stronger.known_starts)

leaves : (answers now : Verdict) (core : CoreData) (left : List (Option (List ℕ))) (account : Option Account) (p : Plan) (q : Record) (told : List Action)
    (end : StepEnd) → core.plan ≡ p → StepRight core (tell q told) end
    → Hands left account p (tell q told) → ((verdict : Verdict) → Judges verdict answers p q → Judges verdict now p (tell q told))
    → Leaves answers now core left account end q
leaves answers now core left account p q told end same h hands judges = record {
  told = told;
  step = h;
  hands = subst (λ (x : Plan). Hands left account x (tell q told)) (sym same) hands;
  judges = λ verdict before. subst (λ (x : Plan). Judges verdict now x (tell q told)) (sym same)
      (judges verdict (subst (λ (x : Plan). Judges verdict answers x q) same before));
}

-- ---- the first step

begun : (core : CoreData) (before after told : List Action) (end : StepEnd) → BeginKeeps core before after end → before ≡ [] → told ≡ after
    → StepRight core (tell [] told) end
begun core before after told end keeps empty same =
    subst (λ xs. StepRight core (tell [] xs) end) (sym (same ∙ (keeps.appended ∙ ap (λ xs. xs ++ keeps.told) empty))) keeps.kept

pub may-begin : (core : CoreData) (p : Plan) (left : List (Option (List ℕ))) (account : Option Account) (before after told : List Action) (end : StepEnd)
    → BeginKeeps core before after end → before ≡ [] → told ≡ after → core.plan ≡ p → Hands left account p [] → MayHandAll left account told
may-begin core p left account before after told end keeps empty same plan hands =
    (p, ([], (hands, due-step core p [] told end plan (begun core before after told end keeps empty same))))

pub begin-leaves : (answers : Verdict) (core : CoreData) (p : Plan) (left now_left : List (Option (List ℕ))) (account now_account : Option Account)
    (before after told : List Action) (end : StepEnd)
    → BeginKeeps core before after end → TellsJudged [] before after → before ≡ [] → told ≡ after → core.plan ≡ p → Hands left account p []
    → ((r : Plan) (t : Record) → Hands left account r t → DueStarts r t told → Hands now_left now_account r (tell t told))
    → Leaves answers answers core now_left now_account end []
begin-leaves answers core p left now_left account now_account before after told end keeps judged empty same plan hands step =
    let right = begun core before after told end keeps empty same in
    leaves answers answers core now_left now_account p [] told end plan right (step p [] hands (due-step core p [] told end plan right))
    (λ verdict h. judges-untold verdict answers p [] told (judgements-told [] before after told judged empty same) h)

-- ---- the step of an event

stepped : (old core : CoreData) (e : Event) (before after told : List Action) (end : StepEnd) (q : Record) → StepKeeps old core e before after end → before ≡ []
    → told ≡ after
    → Right old.plan q → Represents old q → StepRight core (tell (Got e ∷ q) told) end
stepped old core e before after told end q keeps empty same right stands =
    subst (λ xs. StepRight core (tell (Got e ∷ q) xs) end) (sym (same ∙ (keeps.appended ∙ ap (λ xs. xs ++ keeps.told) empty))) (keeps.kept q right stands)

pub may-step : (old core : CoreData) (left : List (Option (List ℕ))) (account : Option Account) (e : Event) (before after told : List Action) (end : StepEnd)
    → StepKeeps old core e before after end → before ≡ [] → told ≡ after → core.plan ≡ old.plan → CanTake old left account (Some e)
    → MayHandAll left account told
may-step old core left account e before after told end keeps empty same plan can =
    let q = can.0 in (
      old.plan,
      (
        Got e
            ∷ q,
        (can.1.1, due-step core old.plan (Got e ∷ q) told end plan (stepped old core e before after told end q keeps empty same can.1.0.1 can.1.0.0)),
      ),
    )

pub step-leaves : (answers now : Verdict) (said : Bool) (old core : CoreData) (left now_left : List (Option (List ℕ))) (account now_account : Option Account)
    (e : Event) (before after told : List Action) (end : StepEnd)
    → StepKeeps old core e before after end → TellsJudged (judged_at old.plan e said) before after → Asks answers now (asked_filter old.plan e) (peer_at e) said
    → before ≡ [] → told ≡ after → core.plan ≡ old.plan
    → ((r : Plan) (t : Record) → Hands left account r t → DueStarts r t told → Hands now_left now_account r (tell t told))
    → (q : Record) → Represents old q → Right old.plan q → Hands left account old.plan (Got e ∷ q)
    → Leaves answers now core now_left now_account end (Got e ∷ q)
step-leaves answers now said old core left now_left account now_account e before after told end keeps judged asks empty same plan step q stands right hands =
    let kept = stepped old core e before after told end q keeps empty same right stands in
    leaves answers now core now_left now_account old.plan (Got e ∷ q) told end plan kept
    (step old.plan (Got e ∷ q) hands (due-step core old.plan (Got e ∷ q) told end plan kept))
    (λ verdict h. judges-step verdict answers now old.plan q e told said
    (judgements-told (judged_at old.plan e said) before after told judged empty same) asks h)
