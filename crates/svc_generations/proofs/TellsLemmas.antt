-- What the records of a chain tell of its steps, one step after the other.
use Rattle.std.proofs.Common.{◌≡◌, ◌⊎◌, inl, inr, ℕ, zero, suc, ◌+◌, ◌==◌, ◌<◌, ◌≤◌, Bool, true, false, List, [], ◌∷◌, ◌++◌, length, length-set, refl, sym, ap, subst, ◌∙◌, append_assoc, append-nil, arith, set, Some, if◌then◌else◌}
use Rattle.std.specs.Prelude.{slice_get, reverse}
use Rattle.std.proofs.lemmas.Bool.{eq-eqb, eqb-true}
use Rattle.std.proofs.lemmas.List.{reverse-append, reverse-reverse, length-append}
use Rattle.std.proofs.lemmas.Option.{slice_get_within}
use Rattle.svc_record.specs.declared.plan.Plan.{Plan}
use Rattle.svc_record.specs.declared.event.Event.{Event}
use Rattle.svc_record.specs.declared.action.Action.{Action}
use Rattle.svc_record.specs.declared.action.Action.TheVariants.{Judged}
use Rattle.svc_record.specs.declared.action.StepEnd.{StepEnd}
use Rattle.svc_record.specs.declared.entry.Entry.TheVariants.{Got, Told}
use Rattle.svc_record.specs.Record.{Record, tell}
use Rattle.svc_record.specs.Judging.{judgements}
use Rattle.svc_server.specs.Runs.{events_of}
use Rattle.svc_server.proofs.TurnLemmas.{events-tell}
use Rattle.svc_supervisor.specs.ChainData.{GenerationData}
use Rattle.svc_supervisor.specs.Chains.{Begun, Took}
use Rattle.svc_supervisor.specs.Kept.{ChainKept}
use Rattle.svc_generations.specs.declared.steps.Step.{Step}
use Rattle.svc_generations.specs.declared.steps.Step.TheVariants as steps
use Rattle.svc_generations.specs.Inputs.{BlockParts}
use Rattle.svc_generations.specs.Serving.{plans_of, said_to, BeginsFirst, TakesStep, LaunchesNext, StepsTo, LeftBy}
use Rattle.svc_generations.specs.ChainTells.{launch_count, event_to, events_to, JudgesEach, TellsGeneration, Leaves}

-- ---- lists

-- an element of a list with one more behind it
push_cases : {X : Type 0} (xs : List X) (x y : X) (j : ℕ) → slice_get (xs ++ x ∷ []) j ≡ Some y → ((j ≡ length xs) × (y ≡ x)) ⊎ (slice_get xs j ≡ Some y)
push_cases [] x y zero h = inl (refl, cc)
push_cases [] x y (suc j) h = absurd (cc)
push_cases (z ∷ xs) x y zero h = inr h
push_cases {X} (z ∷ xs) x y (suc j) h = by (push_cases xs x y j h)
  where
    by : ((j ≡ length xs) × (y ≡ x)) ⊎ (slice_get xs j ≡ Some y) → ((suc j ≡ length (z ∷ xs)) × (y ≡ x)) ⊎ (slice_get xs j ≡ Some y)
    by (inl new) = inl ((let at = new.0 in omega arith), new.1)
    by (inr old) = inr old

-- an element of a list with another one at a place
set_cases : {X : Type 0} (xs : List X) (k : ℕ) (x y : X) (j : ℕ) → slice_get (set xs k x) j ≡ Some y
    → ((j ≡ k) × (y ≡ x)) ⊎ ((j ≡ k → ⊥) × (slice_get xs j ≡ Some y))
set_cases [] k x y j h = absurd (cc)
set_cases (z ∷ xs) zero x y zero h = inl (refl, cc)
set_cases (z ∷ xs) zero x y (suc j) h = inr ((λ e. omega (arith, e)), h)
set_cases (z ∷ xs) (suc k) x y zero h = inr ((λ e. omega (arith, e)), h)
set_cases {X} (z ∷ xs) (suc k) x y (suc j) h = by (set_cases xs k x y j h)
  where
    by : ((j ≡ k) × (y ≡ x)) ⊎ ((j ≡ k → ⊥) × (slice_get xs j ≡ Some y)) → ((suc j ≡ suc k) × (y ≡ x)) ⊎ ((suc j ≡ suc k → ⊥) × (slice_get xs j ≡ Some y))
    by (inl new) = inl ((let at = new.0 in omega arith), new.1)
    by (inr old) = inr ((λ e. old.0 (omega (arith, e))), old.1)

-- ---- the steps

launches_last : (xs : List Step) (s : Step) → launch_count (xs ++ s ∷ []) ≡ launch_count xs + launch_count (s ∷ [])
launches_last [] s = omega arith
launches_last (steps.Launch ∷ xs) s = let more = launches_last xs s in omega arith
launches_last (steps.Event g e ∷ xs) s = launches_last xs s

events_last : (k : ℕ) (xs : List Step) (s : Step) → events_to k (xs ++ s ∷ []) ≡ events_to k xs ++ event_to k s
events_last k [] s = append-nil (event_to k s)
events_last k (x ∷ xs) s = ap (λ (es : List Event). event_to k x ++ es) (events_last k xs s) ∙ sym (append_assoc (event_to k x) (events_to k xs) (event_to k s))

event_here : (k : ℕ) (e : Event) → event_to k (steps.Event k e) ≡ e ∷ []
event_here k e = ap (λ (b : Bool). if b then e ∷ [] else []) (eq-eqb k k refl)

event_other : (k g : ℕ) (e : Event) → (k ≡ g → ⊥) → event_to k (steps.Event g e) ≡ []
event_other k g e other = by (g == k) refl
  where
    by : (b : Bool) → (g == k) ≡ b → (if b then e ∷ [] else []) ≡ []
    by true h = absurd (other (sym (eqb-true g k h)))
    by false h = refl

-- one more step gave the generation nothing
events_same : (k : ℕ) (xs : List Step) (s : Step) → event_to k s ≡ [] → events_to k (xs ++ s ∷ []) ≡ events_to k xs
events_same k xs s none = events_last k xs s ∙ ap (λ (es : List Event). events_to k xs ++ es) none ∙ append-nil (events_to k xs)

-- ---- what is judged

judges_tell : (said : Event → Bool) (p : Plan) (since : List (ℕ × Bool)) (q : Record) (told : List Action) → JudgesEach said p (judgements told ++ since) q
    → JudgesEach said p since (tell q told)
judges_tell said p since q [] h = h
judges_tell said p since q (Judged c b ∷ more) h = judges_tell said p since (Told (Judged c b) ∷ q) more h
judges_tell said p since q (a ∷ more) h = judges_tell said p since (Told a ∷ q) more h

judges_begun : (said : Event → Bool) (p : Plan) (g : GenerationData) → Begun p g → JudgesEach said p [] g.history
judges_begun said p g b = subst (JudgesEach said p []) (sym b.history) (judges_tell said p [] [] b.told tt)

judges_took : (said : Event → Bool) (was after : GenerationData) (e : Event) (end : StepEnd) → Took was after e (said e) end
    → JudgesEach said was.plan [] was.history → JudgesEach said was.plan [] after.history
judges_took said was after e end t h =
    subst (JudgesEach said was.plan []) (sym t.history)
    (judges_tell said was.plan [] (Got e ∷ was.history) t.told (append-nil (judgements t.told) ∙ t.judged, h))

-- ---- a chain

-- as the steps so far have left it; none of them was for a generation that isn't there yet
record Tells (blocks : List BlockParts) (taken : List Step) (gs : List GenerationData) : Type 0 where
  pub count : length gs ≡ launch_count taken + 1
  pub each : (k : ℕ) (g : GenerationData) → slice_get gs k ≡ Some g → TellsGeneration blocks taken k g
  pub fresh : (k : ℕ) → length gs ≤ k → events_to k taken ≡ []

-- a generation that has just begun
tells_begun : (blocks : List BlockParts) (taken : List Step) (k : ℕ) (p : Plan) (g : GenerationData) → slice_get (plans_of blocks) k ≡ Some p → Begun p g
    → events_to k taken ≡ [] → TellsGeneration blocks taken k g
tells_begun blocks taken k p g here b none = record {
  plan = here ∙ ap (λ (x : Plan). Some x) (sym b.plan);
  events = ap events_of b.history ∙ events-tell [] b.told ∙ sym none;
  judges = subst (λ (x : Plan). JudgesEach (said_to blocks k) x [] g.history) (sym b.plan) (judges_begun (said_to blocks k) p g b);
}

-- a generation that took nothing
tells_same : (blocks : List BlockParts) (taken : List Step) (s : Step) (k : ℕ) (g : GenerationData) → event_to k s ≡ [] → TellsGeneration blocks taken k g
    → TellsGeneration blocks (taken ++ s ∷ []) k g
tells_same blocks taken s k g none t = record { plan = t.plan; events = t.events ∙ sym (events_same k taken s none); judges = t.judges }

-- a generation that took an event
tells_took : (blocks : List BlockParts) (taken : List Step) (k : ℕ) (e : Event) (end : StepEnd) (was after : GenerationData)
    → Took was after e (said_to blocks k e) end → TellsGeneration blocks taken k was → TellsGeneration blocks (taken ++ steps.Event k e ∷ []) k after
tells_took blocks taken k e end was after took t = record {
  plan = t.plan ∙ ap (λ (x : Plan). Some x) (sym took.plan);
  events =
      ap events_of took.history
      ∙ events-tell (Got e ∷ was.history) took.told
      ∙ ap (λ (es : List Event). es ++ e ∷ []) t.events
      ∙ ap (λ (es : List Event). events_to k taken ++ es) (sym (event_here k e))
      ∙ sym (events_last k taken (steps.Event k e));
  judges = subst (λ (x : Plan). JudgesEach (said_to blocks k) x [] after.history) (sym took.plan)
      (judges_took (said_to blocks k) was after e end took t.judges);
}

tells_first : (blocks : List BlockParts) (gs : List GenerationData) → BeginsFirst blocks gs → Tells blocks [] gs
tells_first blocks gs b =
    let one : length gs ≡ 1 = ap (λ (xs : List GenerationData). length xs) b.begins.alone in
    record {
      count = one;
      each = λ k g h. by k g (push_cases [] b.begins.first g k (ap (λ (xs : List GenerationData). slice_get xs k) (sym b.begins.alone) ∙ h));
      fresh = λ k far. refl;
    }
  where
    by : (k : ℕ) (g : GenerationData) → ((k ≡ 0) × (g ≡ b.begins.first)) ⊎ (slice_get {X = GenerationData} [] k ≡ Some g) → TellsGeneration blocks [] k g
    by k g (inl new) =
        subst (λ (x : GenerationData). TellsGeneration blocks [] k x) (sym new.1)
        (subst (λ (n : ℕ). TellsGeneration blocks [] n b.begins.first) (sym new.0) (tells_begun blocks [] 0 b.plan b.begins.first b.first b.begins.begun refl))
    by k g (inr old) = absurd (cc)

tells_launch : (blocks : List BlockParts) (taken : List Step) (old gs : List GenerationData) → Tells blocks taken old → LaunchesNext blocks old gs
    → Tells blocks (taken ++ steps.Launch ∷ []) gs
tells_launch blocks taken old gs t l =
    let more : length gs ≡ length old + 1 = ap (λ (xs : List GenerationData). length xs) l.launches.others ∙ length-append old (l.launches.newest ∷ []) in
    let count = t.count in
    record {
      count = omega (arith, launches_last taken steps.Launch);
      each = λ k g h. by k g (push_cases old l.launches.newest g k (ap (λ (xs : List GenerationData). slice_get xs k) (sym l.launches.others) ∙ h));
      fresh = λ k far. events_same k taken steps.Launch refl ∙ t.fresh k (omega arith);
    }
  where
    by : (k : ℕ) (g : GenerationData) → ((k ≡ length old) × (g ≡ l.launches.newest)) ⊎ (slice_get old k ≡ Some g)
        → TellsGeneration blocks (taken ++ steps.Launch ∷ []) k g
    by k g (inl new) =
        subst (λ (x : GenerationData). TellsGeneration blocks (taken ++ steps.Launch ∷ []) k x) (sym new.1)
        (subst (λ (n : ℕ). TellsGeneration blocks (taken ++ steps.Launch ∷ []) n l.launches.newest) (sym new.0)
        (tells_same blocks taken steps.Launch (length old) l.launches.newest refl
        (tells_begun blocks taken (length old) l.plan l.launches.newest l.next l.launches.begun (t.fresh (length old) (omega arith)))))
    by k g (inr was) = tells_same blocks taken steps.Launch k g refl (t.each k g was)

tells_event : (blocks : List BlockParts) (taken : List Step) (n : ℕ) (e : Event) (old gs : List GenerationData) → Tells blocks taken old
    → StepsTo blocks old gs n e → Tells blocks (taken ++ steps.Event n e ∷ []) gs
tells_event blocks taken n e old gs t s =
    let same : length gs ≡ length old = ap (λ (xs : List GenerationData). length xs) s.steps.others ∙ length-set old n s.steps.after in
    let count = t.count in
    let inside : n < length old = slice_get_within old n s.steps.was s.steps.here in
    record {
      count = omega (arith, launches_last taken (steps.Event n e));
      each = λ k g h. by k g (set_cases old n s.steps.after g k (ap (λ (xs : List GenerationData). slice_get xs k) (sym s.steps.others) ∙ h));
      fresh = λ k far. events_same k taken (steps.Event n e) (event_other k n e (λ q. omega (arith, q))) ∙ t.fresh k (omega arith);
    }
  where
    by : (k : ℕ) (g : GenerationData) → ((k ≡ n) × (g ≡ s.steps.after)) ⊎ ((k ≡ n → ⊥) × (slice_get old k ≡ Some g))
        → TellsGeneration blocks (taken ++ steps.Event n e ∷ []) k g
    by k g (inl new) =
        subst (λ (x : GenerationData). TellsGeneration blocks (taken ++ steps.Event n e ∷ []) k x) (sym new.1)
        (subst (λ (m : ℕ). TellsGeneration blocks (taken ++ steps.Event n e ∷ []) m s.steps.after) (sym new.0)
        (tells_took blocks taken n e s.end s.steps.was s.steps.after s.steps.took (t.each n s.steps.was s.steps.here)))
    by k g (inr was) = tells_same blocks taken (steps.Event n e) k g (event_other k n e was.0) (t.each k g was.1)

tells_step : (blocks : List BlockParts) (taken : List Step) (s : Step) (old gs : List GenerationData) → Tells blocks taken old → TakesStep blocks old gs s
    → Tells blocks (taken ++ s ∷ []) gs
tells_step blocks taken steps.Launch old gs t l = tells_launch blocks taken old gs t l
tells_step blocks taken (steps.Event n e) old gs t s = tells_event blocks taken n e old gs t s

tells_left : (blocks : List BlockParts) (before : List Step) (gs : List GenerationData) → LeftBy blocks before gs → Tells blocks (reverse before) gs
tells_left blocks [] gs l = tells_first blocks gs l.0
tells_left blocks (s ∷ before) gs l =
    subst (λ (xs : List Step). Tells blocks xs gs) (sym (reverse-append (s ∷ []) before))
    (tells_step blocks (reverse before) s l.0 gs (tells_left blocks before l.0 l.1) l.2)

kept_left : (blocks : List BlockParts) (before : List Step) (gs : List GenerationData) → LeftBy blocks before gs → ChainKept gs
kept_left blocks [] gs l = l.1
kept_left blocks (s ∷ before) gs l = l.3

-- the steps leave a chain whose records tell them
pub leaves_of : (blocks : List BlockParts) (taken : List Step) (gs : List GenerationData) → LeftBy blocks (reverse taken) gs → Leaves blocks taken gs
leaves_of blocks taken gs l =
    let t : Tells blocks taken gs = subst (λ (xs : List Step). Tells blocks xs gs) (reverse-reverse taken) (tells_left blocks (reverse taken) gs l) in
    record { left = l; tells = record { count = t.count; each = t.each; kept = kept_left blocks (reverse taken) gs l } }
