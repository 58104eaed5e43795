-- The steps of a chain, one after the other.
use Rattle.std.proofs.Common.{◌≡◌, ℕ, zero, suc, ◌+◌, ◌<◌, ◌≤◌, Bool, true, false, List, [], ◌∷◌, length, drop, take, refl, sym, ap, subst, ◌∙◌, arith, length-set, Some}
use Rattle.std.specs.Prelude.{slice_get, reverse}
use Rattle.std.proofs.lemmas.List.{take_all, length-append}
use Rattle.svc_record.specs.declared.plan.Plan.{Plan}
use Rattle.svc_record.specs.declared.action.StepEnd.{StepEnd}
use Rattle.svc_record.specs.declared.event.Event.{Event}
use Rattle.svc_text.specs.declared.service.ServiceLine.{ServiceLine}
use Rattle.svc_generations.specs.declared.serving.Serving.{Serving}
use Rattle.svc_generations.specs.declared.steps.Step.{Step}
use Rattle.svc_generations.specs.declared.steps.Step.TheVariants as steps
use Rattle.svc_generations.specs.declared.outcome.StepRefusal.{StepRefusal}
use Rattle.svc_supervisor.specs.ChainData.{GenerationData, ChainData}
use Rattle.svc_supervisor.specs.Chains.{MayBegin, Launches, Steps, BeginsChain}
use Rattle.svc_supervisor.specs.Kept.{ChainKept}
use Rattle.svc_generations.specs.Inputs.{BlockParts}
use Rattle.svc_generations.specs.PlanReadings.{MayBeginEach, MayServe, lines_in}
use Rattle.svc_generations.specs.Serving.{plans_of, services_of, said_by, said_to, LeftBy, RefusesStep}
use Rattle.svc_generations.specs.ChainTells.{Leaves, StopsAt}
use Rattle.svc_generations.proofs.TellsLemmas.{leaves_of}
use Rattle.svc_generations.specs.Servings.{IsServing, IsOpen}

-- ---- lists

-- what stands at a place, where a list is gone through from there
here_of : {X : Type 0} (n : ℕ) (xs more : List X) (x : X) → drop n xs ≡ x ∷ more → slice_get xs n ≡ Some x
here_of zero [] more x e = absurd (cc)
here_of zero (y ∷ xs) more x e = ap (λ (zs : List _). slice_get zs zero) e
here_of (suc n) [] more x e = absurd (cc)
here_of (suc n) (y ∷ xs) more x e = here_of n xs more x e

rest_of : {X : Type 0} (n : ℕ) (xs more : List X) (x : X) → drop n xs ≡ x ∷ more → drop (suc n) xs ≡ more
rest_of zero [] more x e = absurd (cc)
rest_of zero (y ∷ xs) more x e = ap (λ (zs : List _). drop 1 zs) e
rest_of (suc n) [] more x e = absurd (cc)
rest_of (suc n) (y ∷ xs) more x e = rest_of n xs more x e

none_of_rest : {X : Type 0} (n : ℕ) (xs : List X) → drop n xs ≡ [] → length xs ≤ n
none_of_rest zero [] e = omega arith
none_of_rest zero (y ∷ xs) e = absurd (cc)
none_of_rest (suc n) [] e = omega arith
none_of_rest (suc n) (y ∷ xs) e = (let more = none_of_rest n xs e in omega arith)

inside_rest : {X : Type 0} (n : ℕ) (xs more : List X) (x : X) → drop n xs ≡ x ∷ more → n < length xs
inside_rest zero [] more x e = absurd (cc)
inside_rest zero (y ∷ xs) more x e = omega arith
inside_rest (suc n) [] more x e = absurd (cc)
inside_rest (suc n) (y ∷ xs) more x e = (let inner = inside_rest n xs more x e in omega arith)

-- ---- one step

-- the first generation has begun by the plan of the first block
pub begun_serving : (blocks : List BlockParts) (plan : Plan) (plans : List Plan) (s : Serving) → plans_of blocks ≡ plan ∷ plans → s.plans ≡ plans
    → lines_in s.services ≡ services_of blocks → BeginsChain plan s.chain.generations → ChainKept s.chain.generations
    → s.chain.finished ≡ false → IsServing blocks [] s
begun_serving blocks plan plans s first rest services begins kept going =
    let one : length s.chain.generations ≡ 1 = ap (λ (xs : List GenerationData). length xs) begins.alone in
    record {
      left = (record { plan = plan; first = ap (λ (ps : List Plan). slice_get ps 0) first; begins = begins }, kept);
      unfinished = going;
      plans = rest ∙ sym (ap (λ (n : ℕ). drop n (plans_of blocks)) one ∙ ap (λ (ps : List Plan). drop 1 ps) first);
      services = services;
    }

-- the next one was launched
pub launched_serving : (blocks : List BlockParts) (before : List Step) (plan : Plan) (old new : Serving) → IsServing blocks before old
    → old.plans ≡ plan ∷ new.plans → Launches old.chain.generations new.chain.generations plan → ChainKept new.chain.generations
    → new.chain.finished ≡ false → new.services ≡ old.services → IsServing blocks (steps.Launch ∷ before) new
launched_serving blocks before plan old new h first launches kept going services =
    let n : ℕ = length old.chain.generations in
    let next : drop n (plans_of blocks) ≡ plan ∷ new.plans = sym h.plans ∙ first in
    let more : length new.chain.generations ≡ suc n =
    ap (λ (xs : List GenerationData). length xs) launches.others ∙ length-append old.chain.generations (launches.newest ∷ []) ∙ omega arith in
    record {
      left = (old.chain.generations, h.left, record { plan = plan; next = here_of n (plans_of blocks) new.plans plan next; launches = launches }, kept);
      unfinished = going;
      plans = sym (rest_of n (plans_of blocks) new.plans plan next) ∙ ap (λ (k : ℕ). drop k (plans_of blocks)) (sym more);
      services = ap lines_in services ∙ h.services;
    }

pub none_left : (blocks : List BlockParts) (before : List Step) (old : Serving) → IsServing blocks before old → old.plans ≡ []
    → length (plans_of blocks) ≤ length old.chain.generations
none_left blocks before old h none = none_of_rest (length old.chain.generations) (plans_of blocks) (sym h.plans ∙ none)

pub some_left : (blocks : List BlockParts) (before : List Step) (plan : Plan) (plans : List Plan) (old : Serving) → IsServing blocks before old
    → old.plans ≡ plan ∷ plans → length old.chain.generations < length (plans_of blocks)
some_left blocks before plan plans old h first = inside_rest (length old.chain.generations) (plans_of blocks) plans plan (sym h.plans ∙ first)

-- a generation took an event
stepped_length : (old new : List GenerationData) (k : ℕ) (e : Event) (said : Bool) (end : StepEnd) → Steps old new k e said end → length new ≡ length old
stepped_length old new k e said end s = ap (λ (xs : List GenerationData). length xs) s.others ∙ length-set old k s.after

pub given_serving : (blocks : List BlockParts) (before : List Step) (g : ℕ) (e : Event) (said : Bool) (end : StepEnd) (old new : Serving)
    → IsServing blocks before old → Steps old.chain.generations new.chain.generations g e said end → said ≡ said_by (slice_get (lines_in old.services) g) e
    → ChainKept new.chain.generations → new.chain.finished ≡ false → new.services ≡ old.services → new.plans ≡ old.plans
    → IsServing blocks (steps.Event g e ∷ before) new
given_serving blocks before g e said end old new h stepped is kept going services plans =
    let answer : said ≡ said_to blocks g e = is ∙ ap (λ (ls : List (List ServiceLine)). said_by (slice_get ls g) e) h.services in
    record {
      left = (
        old.chain.generations,
        h.left,
        record { end = end; steps = subst (λ (b : Bool). Steps old.chain.generations new.chain.generations g e b end) answer stepped },
        kept,
      );
      unfinished = going;
      plans = plans ∙ h.plans
          ∙ ap (λ (n : ℕ). drop n (plans_of blocks)) (sym (stepped_length old.chain.generations new.chain.generations g e said end stepped));
      services = ap lines_in services ∙ h.services;
    }

-- ---- the plans that are left

pub first_may : (later : Bool) (plan : Plan) (plans all : List Plan) → MayBeginEach later all → all ≡ plan ∷ plans
    → MayBegin later plan × MayBeginEach true plans
first_may later plan plans all each first = subst (MayBeginEach later) first each

pub begun_open : (plan : Plan) (plans all : List Plan) (s : Serving) → MayServe all → all ≡ plan ∷ plans → s.plans ≡ plans
    → BeginsChain plan s.chain.generations → s.chain.finished ≡ false → IsOpen s
begun_open plan plans all s may first rest begins going = record {
  unfinished = going;
  each = subst (MayBeginEach true) (sym rest) (first_may false plan plans all may.each first).1;
  few = let few = may.few in
      omega (
        arith,
        few,
        ap (λ (ps : List Plan). length ps) first,
        ap (λ (ps : List Plan). length ps) rest,
        ap
            (λ (xs : List GenerationData). length xs) begins.alone,
      );
}

pub launched_open : (plan : Plan) (old new : Serving) → IsOpen old → old.plans ≡ plan ∷ new.plans → Launches old.chain.generations new.chain.generations plan
    → new.chain.finished ≡ false → IsOpen new
launched_open plan old new was first launches going = record {
  unfinished = going;
  each = (first_may true plan new.plans old.plans was.each first).1;
  few =
      let more : length new.chain.generations ≡ length old.chain.generations + 1 =
      ap (λ (xs : List GenerationData). length xs) launches.others ∙ length-append old.chain.generations (launches.newest ∷ []) in
      omega (arith, was.few, ap (λ (ps : List Plan). length ps) first);
}

pub refused_open : (plan : Plan) (old new : Serving) → IsOpen old → old.plans ≡ plan ∷ new.plans → new.chain ≡ old.chain → IsOpen new
refused_open plan old new was first same = record {
  unfinished = ap (λ (c : ChainData). c.finished) same ∙ was.unfinished;
  each = (first_may true plan new.plans old.plans was.each first).1;
  few = omega (arith, was.few, ap (λ (ps : List Plan). length ps) first, ap (λ (c : ChainData). length c.generations) same);
}

-- nothing has changed
pub same_open : (old new : Serving) → IsOpen old → old.plans ≡ new.plans → new.chain ≡ old.chain → IsOpen new
same_open old new was plans same = record {
  unfinished = ap (λ (c : ChainData). c.finished) same ∙ was.unfinished;
  each = subst (MayBeginEach true) plans was.each;
  few = omega (arith, was.few, ap (λ (ps : List Plan). length ps) plans, ap (λ (c : ChainData). length c.generations) same);
}

pub given_open : (g : ℕ) (e : Event) (said : Bool) (end : StepEnd) (old new : Serving) → IsOpen old
    → Steps old.chain.generations new.chain.generations g e said end → new.chain.finished ≡ false → new.plans ≡ old.plans → IsOpen new
given_open g e said end old new was stepped going plans = record {
  unfinished = going;
  each = subst (MayBeginEach true) (sym plans) was.each;
  few = omega (arith, was.few, stepped_length old.chain.generations new.chain.generations g e said end stepped, ap (λ (ps : List Plan). length ps) plans);
}

-- ---- all steps

pub stops_at : (blocks : List BlockParts) (all : List Step) (k : ℕ) (step : Step) (refusal : StepRefusal) (old : Serving) (now : List GenerationData)
    → IsServing blocks (reverse (take k all)) old → slice_get all k ≡ Some step
    → RefusesStep blocks old.chain.generations step refusal → now ≡ old.chain.generations → StopsAt blocks all now (k + 1) refusal
stops_at blocks all k step refusal old now h here refuses same =
    subst (λ (gs : List GenerationData). StopsAt blocks all gs (k + 1) refusal) (sym same)
    (record { before = k; number = refl; step = step; here = here; leaves = leaves_of blocks (take k all) old.chain.generations h.left; refuses = refuses })

pub all_taken : (blocks : List BlockParts) (all : List Step) (k : ℕ) (s : Serving) → IsServing blocks (reverse (take k all)) s → length all ≤ k
    → Leaves blocks all s.chain.generations
all_taken blocks all k s h over =
    leaves_of blocks all s.chain.generations (subst (λ (xs : List Step). LeftBy blocks (reverse xs) s.chain.generations) (take_all k all over) h.left)
