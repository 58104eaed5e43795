-- What reading the plans of blocks answers.
use Rattle.std.specs.Prelude.{◌≡◌, ◌<◌, ◌≤◌, Bool, true, false, List, [], ◌∷◌, length, map, Option, Some, None, Vec}
use Rattle.std.specs.declared.alloc.Global.{Global}
use Rattle.svc_conf.specs.declared.server.configuration.key.Key.{Key}
use Rattle.svc_conf.specs.Configuration.{judged}
use Rattle.svc_text.specs.declared.service.ServiceLine.{ServiceLine}
use Rattle.svc_text.specs.declared.parsing.ScriptError.{ScriptError}
use Rattle.svc_text.specs.declared.parsing.ScriptError.TheVariants.{Line, NoMemory}
use Rattle.svc_text.specs.ScriptPlans.{plan_of}
use Rattle.svc_record.specs.declared.plan.Plan.{Plan}
use Rattle.svc_supervisor.specs.Chains.{MayBegin}
use Rattle.svc_main.specs.declared.planning.PlannedScript.{PlannedScript}
use Rattle.svc_main.specs.Planned.{IsRefused}
use Rattle.svc_generations.specs.declared.plans.Plans.{Plans}
use Rattle.svc_generations.specs.Inputs.{BlockParts}
use Rattle.svc_generations.specs.Serving.{flags_of, plans_of, services_of}
use Rattle.svc_generations.specs.ChainPrograms.{AllAccepted, RefusesKey, RefusesHere, RefusesEdge}

-- a generation can be run by each of the plans: by the first of a chain, or by a later one, and by those behind it as later ones
abbrev pub MayBeginEach : Bool → List Plan → Type 0
MayBeginEach later [] = Unit {0}
MayBeginEach later (p ∷ more) = MayBegin later p × MayBeginEach true more

-- a chain can be run by the plans, one generation by each
pub record MayServe (plans : List Plan) : Type 0 where
  pub some : 0 < length plans
  pub few : length plans ≤ 64
  pub each : MayBeginEach false plans

-- the server of the block is run by this
pub record HasPlan (later : Bool) (b : BlockParts) (p : PlannedScript) : Type 0 where
  pub plan : p.plan ≡ plan_of (flags_of later) b.parts
  pub services : p.services.items ≡ b.parts.services
  pub judged : IsRefused p.refused (judged b.parts.conf)

-- the key of the first configuration that is refused, if one is
abbrev pub IsFirstKey : Option Key → List BlockParts → Type 0
IsFirstKey None blocks = AllAccepted blocks
IsFirstKey (Some key) blocks = RefusesKey blocks key

-- the services' lines of each generation
abbrev pub lines_in : List (Vec ServiceLine Global) → List (List ServiceLine)
lines_in services = map (λ (v : Vec ServiceLine Global). v.items) services

-- the servers of the blocks are run by these
pub record HasPlans (blocks : List BlockParts) (p : Plans) : Type 0 where
  pub plans : p.plans ≡ plans_of blocks
  pub services : lines_in p.services ≡ services_of blocks
  pub refused : IsFirstKey p.refused blocks

-- the refused line is that of a service of the block, unless memory ran out
abbrev pub RefusesIn : BlockParts → ScriptError → Type 0
RefusesIn b (Line n) = RefusesHere b n
RefusesIn b NoMemory = Unit {0}

-- the same of the blocks
abbrev pub RefusesLine : List BlockParts → ScriptError → Type 0
RefusesLine blocks (Line n) = RefusesEdge blocks n
RefusesLine blocks NoMemory = Unit {0}
