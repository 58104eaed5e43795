-- The plans of blocks, one block after the other.
use Rattle.std.proofs.Common.{◌≡◌, ◌<◌, ◌≤◌, ℕ, ◌==◌, Bool, true, false, not, List, [], ◌∷◌, ◌++◌, length, Option, Some, None, inl, inr, refl, sym, ap, subst, ◌∙◌, append_assoc, append-nil, arith}
use Rattle.std.specs.Option.{option_or}
use Rattle.std.proofs.lemmas.Bool.{eqb-true}
use Rattle.std.proofs.lemmas.List.{map-append, length-append}
use Rattle.std.specs.Prelude.{Vec}
use Rattle.std.specs.declared.alloc.Global.{Global}
use Rattle.svc_conf.specs.declared.server.configuration.key.Key.{Key}
use Rattle.svc_conf.specs.Configuration.{judged}
use Rattle.svc_record.specs.declared.plan.Plan.{Plan}
use Rattle.svc_record.specs.Validity.{IsValid}
use Rattle.svc_supervisor.specs.Chains.{MayBegin}
use Rattle.svc_text.specs.declared.service.ServiceLine.{ServiceLine}
use Rattle.svc_text.specs.declared.parsing.ScriptError.{ScriptError}
use Rattle.svc_text.specs.declared.parsing.ScriptError.TheVariants.{Line, NoMemory}
use Rattle.std.specs.Prelude.{slice_index}
use Rattle.std.specs.Str.Lines.{lines}
use Rattle.svc_text.specs.Script.{IsLineOf}
use Rattle.svc_text.specs.Dependencies.{RefusesNone, RefusesAt}
use Rattle.svc_text.specs.Outcome.{parts_of}
use Rattle.svc_text.specs.ScriptPlans.{plan_of}
use Rattle.svc_main.specs.declared.planning.PlannedScript.{PlannedScript}
use Rattle.svc_main.specs.Planned.{IsRefused}
use Rattle.svc_generations.specs.declared.plans.Plans.{Plans}
use Rattle.svc_generations.specs.declared.input.Block.{Block}
use Rattle.svc_generations.specs.BlockReadings.{IsBlock, IsBehind}
use Rattle.svc_generations.specs.Inputs.{BlockParts, block_parts_of}
use Rattle.svc_generations.specs.Serving.{flags_of, plans_from, plans_of, services_of}
use Rattle.svc_generations.specs.ChainPrograms.{AllSound, RefusesKey, RefusesEdge}
use Rattle.svc_generations.specs.PlanReadings.{MayBeginEach, MayServe, HasPlan, HasPlans, IsFirstKey, lines_in, RefusesIn, RefusesLine}

-- a plan after another one is a later one
abbrev pub is_later : List Plan → Bool
is_later plans = not (length plans == 0)

later_more : (plans : List Plan) (p : Plan) → is_later (plans ++ p ∷ []) ≡ true
later_more plans p = by (length (plans ++ p ∷ []) == 0) refl
  where
    by : (b : Bool) → (length (plans ++ p ∷ []) == 0) ≡ b → not b ≡ true
    by true h = absurd (let none : length (plans ++ p ∷ []) ≡ 0 = eqb-true (length (plans ++ p ∷ [])) 0 h in omega (arith, none, length-append plans (p ∷ [])))
    by false h = refl

-- ---- a generation can be run by each

-- by the plan of a block whose configuration is accepted
pub plan_may : (later : Bool) (b : Block) (p : PlannedScript) → IsBlock b → p.plan ≡ plan_of (flags_of later) (parts_of b.script)
    → (p.refused ≡ None → IsValid p.plan) → p.refused ≡ None → MayBegin later p.plan
plan_may later b p is same valid none = record {
  valid = valid none;
  untested = ap (λ (q : Plan). q.test) same;
  undaemonized = ap (λ (q : Plan). q.daemon) same ∙ rw is.undaemonized refl;
  upgrades = ap (λ (q : Plan). q.upgrade) same;
}

some_later : (x : Plan) (more : List Plan) → is_later (x ∷ more) ≡ true
some_later x more = by (length (x ∷ more) == 0) refl
  where
    by : (b : Bool) → (length (x ∷ more) == 0) ≡ b → not b ≡ true
    by true h = absurd (let none : length (x ∷ more) ≡ 0 = eqb-true (length (x ∷ more)) 0 h in omega arith)
    by false h = refl

begin_later : (plans : List Plan) (p : Plan) → MayBeginEach true plans → MayBegin true p → MayBeginEach true (plans ++ p ∷ [])
begin_later [] p each may = (may, tt)
begin_later (x ∷ more) p each may = (each.0, begin_later more p each.1 may)

begin_more : (plans : List Plan) (p : Plan) → MayBeginEach false plans → MayBegin (is_later plans) p → MayBeginEach false (plans ++ p ∷ [])
begin_more [] p each may = (may, tt)
begin_more (x ∷ more) p each may = (each.0, begin_later more p each.1 (subst (λ (l : Bool). MayBegin l p) (some_later x more) may))

plans_count : (later : Bool) (blocks : List BlockParts) → length (plans_from later blocks) ≡ length blocks
plans_count later [] = refl
plans_count later (b ∷ more) = (let rest = plans_count true more in omega arith)

or_none : (o r : Option Key) → option_or o r ≡ None → (o ≡ None) × (r ≡ None)
or_none None r e = (refl, e)
or_none (Some key) r e = absurd (cc)

-- ---- the blocks so far

-- the key that is refused so far, with those of the other blocks
abbrev pub KeyThen : Option Key → List BlockParts → List BlockParts → Type 0
KeyThen None todo all = (o : Option Key) → IsFirstKey o todo → IsFirstKey o all
KeyThen (Some key) todo all = RefusesKey all key

-- what the blocks so far are run by, and which are left
pub record PlansThen (todo all : List BlockParts) (p : Plans) : Type 0 where
  pub plans : p.plans ++ plans_from (is_later p.plans) todo ≡ plans_of all
  pub services : lines_in p.services ++ services_of todo ≡ services_of all
  pub refused : KeyThen p.refused todo all
  pub sound : AllSound todo → AllSound all
  pub edge : (n : ℕ) → RefusesEdge todo n → RefusesEdge all n
  pub may : p.refused ≡ None → MayBeginEach false p.plans

pub plans_begin : (all : List BlockParts) (p : Plans) → p.plans ≡ [] → p.services ≡ [] → p.refused ≡ None → PlansThen all all p
plans_begin all p plans services refused = record {
  plans = rw plans refl;
  services = rw services refl;
  refused = subst (λ (o : Option Key). KeyThen o all all) (sym refused) (λ o h. h);
  sound = λ h. h;
  edge = λ n h. h;
  may = λ none. subst (MayBeginEach false) (sym plans) tt;
}

key_more : (o r : Option Key) (b : BlockParts) (todo all : List BlockParts) → KeyThen o (b ∷ todo) all → IsRefused r (judged b.parts.conf)
    → KeyThen (option_or o r) todo all
key_more (Some key) r b todo all h j = h
key_more None (Some key) b todo all h j = h (Some key) (inl j)
key_more None None b todo all h j = λ o. by o
  where
    by : (o : Option Key) → IsFirstKey o todo → IsFirstKey o all
    by None k = h None (j, k)
    by (Some key) k = h (Some key) (inr (j, k))

pub plans_more : (b : BlockParts) (rest todo all : List BlockParts) (p q : Plans) (planned : PlannedScript) → PlansThen todo all p → todo ≡ b ∷ rest
    → HasPlan (is_later p.plans) b planned → RefusesNone b.parts.services
    → (planned.refused ≡ None → MayBegin (is_later p.plans) planned.plan) → q.plans ≡ p.plans ++ planned.plan ∷ []
    → q.services ≡ p.services ++ planned.services ∷ [] → q.refused ≡ option_or p.refused planned.refused → PlansThen rest all q
plans_more b rest todo all p q planned h first has sound may plans services refused =
    let was : PlansThen (b ∷ rest) all p = subst (λ (bs : List BlockParts). PlansThen bs all p) first h in
    record {
      plans =
          ap (λ (ps : List Plan). ps ++ plans_from (is_later ps) rest) plans
          ∙ ap (λ (l : Bool). (p.plans ++ planned.plan ∷ []) ++ plans_from l rest) (later_more p.plans planned.plan)
          ∙ append_assoc p.plans (planned.plan ∷ []) (plans_from true rest)
          ∙ ap (λ (x : Plan). p.plans ++ x ∷ plans_from true rest) has.plan
          ∙ was.plans;
      services =
          ap (λ (vs : List (Vec ServiceLine Global)). lines_in vs ++ services_of rest) services
          ∙ ap (λ (ls : List (List ServiceLine)). ls ++ services_of rest)
          (map-append (λ (v : Vec ServiceLine Global). v.items) p.services (planned.services ∷ []))
          ∙ append_assoc (lines_in p.services) (planned.services.items ∷ []) (services_of rest)
          ∙ ap (λ (x : List ServiceLine). lines_in p.services ++ x ∷ services_of rest) has.services
          ∙ was.services;
      refused = subst (λ (o : Option Key). KeyThen o rest all) (sym refused) (key_more p.refused planned.refused b rest all was.refused has.judged);
      sound = λ more. was.sound (sound, more);
      edge = λ n more. was.edge n (inr (sound, more));
      may = λ none. let both = or_none p.refused planned.refused (sym refused ∙ none) in
          subst (MayBeginEach false) (sym plans) (begin_more p.plans planned.plan (h.may both.0) (may both.1));
    }

key_all : (o : Option Key) (all : List BlockParts) → KeyThen o [] all → IsFirstKey o all
key_all None all h = h None tt
key_all (Some key) all h = h

pub plans_all : (todo all : List BlockParts) (p : Plans) → PlansThen todo all p → todo ≡ [] → HasPlans all p
plans_all todo all p h none =
    let was : PlansThen [] all p = subst (λ (bs : List BlockParts). PlansThen bs all p) none h in
    record {
      plans = sym (append-nil p.plans) ∙ was.plans;
      services = sym (append-nil (lines_in p.services)) ∙ was.services;
      refused = key_all p.refused all was.refused;
    }

-- a chain can be run by them
pub may_all : (todo all : List BlockParts) (p : Plans) → PlansThen todo all p → todo ≡ [] → 0 < length all → length all ≤ 64 → p.refused ≡ None
    → MayServe p.plans
may_all todo all p h none some few accepted =
    let count : length p.plans ≡ length all = ap (λ (ps : List Plan). length ps) (plans_all todo all p h none).plans ∙ plans_count false all in
    record { some = omega arith; few = omega arith; each = h.may accepted }

pub sound_all : (todo all : List BlockParts) (p : Plans) → PlansThen todo all p → todo ≡ [] → AllSound all
sound_all todo all p h none = h.sound (subst AllSound (sym none) tt)

-- the refused line of a service, in its block and in the input
pub edge_place : (b : Block) (n : ℕ) (error : ScriptError) → IsBlock b
    → (k : ℕ) × (RefusesAt b.script.services.items k × (n ≡ slice_index b.script.lines.items k)) → IsBehind b.before n error
    → RefusesIn (block_parts_of b) error
edge_place b n (Line m) is r at =
    record {
      service = r.0;
      line = n;
      refused = r.1.0;
      place = subst (IsLineOf (lines b.text.items) r.0) (sym r.1.1) (is.numbers.each r.0 r.1.0.here);
      number = at;
    }
edge_place b n NoMemory is r at = tt

pub edge_here : (b : BlockParts) (rest todo all : List BlockParts) (p : Plans) (error : ScriptError) → PlansThen todo all p → todo ≡ b ∷ rest
    → RefusesIn b error → RefusesLine all error
edge_here b rest todo all p (Line n) h first refused = h.edge n (subst (λ (bs : List BlockParts). RefusesEdge bs n) (sym first) (inl refused))
edge_here b rest todo all p NoMemory h first refused = tt
