-- When a chain refuses, in which order, and what comes back.
use Rattle.std.specs.Prelude.{ℕ, true, false, ◌≡◌, ◌<◌, ◌≤◌, List, Some, None, length}
use Rattle.svc_record.specs.declared.plan.Plan.{Plan}
use Rattle.svc_record.specs.declared.event.Event.{Event}
use Rattle.svc_supervisor.specs.declared.refused.ChainRefused.{ChainRefused}
use Rattle.svc_supervisor.specs.declared.refused.ChainRefused.TheVariants.{BadPlan, TooMany, NotReady, UnknownGeneration, Early, Stray, NoMemory}
use Rattle.svc_supervisor.specs.ChainData.{GenerationData}
use Rattle.svc_supervisor.specs.Chains.{MayBegin, is_ready, is_early, may_come_at}

-- why no chain begins with the plan
abbrev pub IsFirstRefusal : Plan → ChainRefused → Type 0
IsFirstRefusal p (BadPlan back) = (back ≡ p) × (MayBegin false p → ⊥)
IsFirstRefusal p (NoMemory back) = back ≡ None
IsFirstRefusal p _ = ⊥

-- why the plan isn't launched after these generations: the first cause counts
abbrev pub IsLaunchRefusal : List GenerationData → Plan → ChainRefused → Type 0
IsLaunchRefusal gs p (BadPlan back) = (back ≡ p) × (MayBegin true p → ⊥)
IsLaunchRefusal gs p (TooMany back) = (back ≡ p) × MayBegin true p × (length gs ≡ 64)
IsLaunchRefusal gs p (NotReady back) = (back ≡ p) × MayBegin true p × (length gs < 64) × (is_ready gs ≡ false)
IsLaunchRefusal gs p (NoMemory back) = back ≡ None
IsLaunchRefusal gs p _ = ⊥

-- why the generation with this number doesn't take the event
abbrev pub IsStepRefusal : List GenerationData → ℕ → Event → ChainRefused → Type 0
IsStepRefusal gs k e (UnknownGeneration back) = (back ≡ e) × (length gs ≤ k)
IsStepRefusal gs k e (Early back) = (back ≡ e) × (k < length gs) × (is_early gs k e ≡ true)
IsStepRefusal gs k e (Stray back) = (back ≡ e) × (k < length gs) × (is_early gs k e ≡ false) × (may_come_at gs k e ≡ false)
IsStepRefusal gs k e (NoMemory back) = back ≡ Some e
IsStepRefusal gs k e _ = ⊥
