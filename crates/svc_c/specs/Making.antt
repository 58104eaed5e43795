-- What a session is made of.
use Rattle.std.specs.Prelude.{ℕ, ◌≡◌, ◌⊎◌, Bool, false, List, [], None, Result, Ok, Err}
use Rattle.std.specs.Str.Lines.{lines}
use Rattle.std.specs.Global.{Box}
use Rattle.svc_conf.specs.declared.server.configuration.Opt.{Opt}
use Rattle.svc_conf.specs.Configuration.{judged}
use Rattle.svc_conf.specs.ConfigurationText.{merged}
use Rattle.svc_record.specs.declared.plan.Plan.{Plan}
use Rattle.svc_record.specs.declared.action.StepEnd.TheVariants.{On}
use Rattle.svc_text.specs.declared.service.ServiceLine.{ServiceLine}
use Rattle.svc_text.specs.Dependencies.{RefusesAt, RefusesNone}
use Rattle.svc_text.specs.Script.{Parts, IsLineOf, script}
use Rattle.svc_text.specs.ScriptPlans.{plan_of}
use Rattle.svc_core.specs.Stands.{HasNotBegun}
use Rattle.svc_c.specs.declared.making.MakeError.{MakeError}
use Rattle.svc_c.specs.declared.making.MakeError.TheVariants.{NoMemory, Line, Config}
use Rattle.svc_c.specs.declared.stage.Stage.TheVariants.{Fresh}
use Rattle.svc_c.specs.SessionData.{SessionData}

-- the flags of a command line
abbrev pub flags_of : Bool → Bool → Bool → Opt
flags_of upgrade daemon test = record { upgrade = upgrade; daemon = daemon; nocapture = false; test = test; conf = None }

-- a session whose first step wasn't taken, of a plan and its services
pub record IsFirst (p : Plan) (services : List ServiceLine) (s : SessionData) : Type 0 where
  pub plan : s.core.plan ≡ p
  pub first : HasNotBegun s.core
  pub services_are : s.services ≡ services
  pub stage : s.stage ≡ Fresh
  pub end : s.end ≡ On
  pub entries : s.entries ≡ []

-- the session of what a script says, or the key at which its configuration is refused, unless memory ran out
abbrev pub IsConfigured : Opt → Parts → Result (Box SessionData) MakeError → Type 0
IsConfigured opt parts (Ok s) = (judged (merged opt parts.conf) ≡ Ok tt) × IsFirst (plan_of opt parts) parts.services s.value
IsConfigured opt parts (Err (Config key)) = judged (merged opt parts.conf) ≡ Err key
IsConfigured opt parts (Err (Line n)) = ⊥
IsConfigured opt parts (Err NoMemory) = Unit {0}

-- line n is that of the first service whose dependencies are refused
abbrev pub RefusesLine : List ℕ → Parts → ℕ → Type 0
RefusesLine bytes parts n = (k : ℕ) × (RefusesAt parts.services k × IsLineOf (lines bytes) k n)

-- the session of a script, or what of it is refused, unless memory ran out
abbrev pub IsMade : Opt → List ℕ → Result (Box SessionData) MakeError → Type 0
IsMade opt bytes (Ok s) = (parts : Parts) × ((script bytes ≡ Ok parts) × RefusesNone parts.services × IsConfigured opt parts (Ok s))
IsMade opt bytes (Err (Config key)) = (parts : Parts) × ((script bytes ≡ Ok parts) × RefusesNone parts.services × IsConfigured opt parts (Err (Config key)))
IsMade opt bytes (Err (Line n)) = (script bytes ≡ Err n) ⊎ ((parts : Parts) × ((script bytes ≡ Ok parts) × RefusesLine bytes parts n))
IsMade opt bytes (Err NoMemory) = Unit {0}
