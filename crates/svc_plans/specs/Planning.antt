-- Why a script has no plan.
use Rattle.std.specs.Prelude.{ℕ, ◌≡◌, Err, slice_index}
use Rattle.svc_conf.specs.declared.server.configuration.Opt.{Opt}
use Rattle.svc_conf.specs.Configuration.{judged}
use Rattle.svc_conf.specs.ConfigurationText.{merged}
use Rattle.svc_text.specs.declared.parsing.Script.{Script}
use Rattle.svc_text.specs.Dependencies.{RefusesAt}
use Rattle.svc_plans.specs.declared.script_plan.PlanError.{PlanError}
use Rattle.svc_plans.specs.declared.script_plan.PlanError.TheVariants.{Line, Config, NoMemory}

-- the script is refused so: at the line of the first service whose dependencies are refused, or at the key of its configuration
abbrev pub Refuses : Opt → Script → PlanError → Type 0
Refuses opt script (Line n) = (k : ℕ) × (RefusesAt script.services.items k × (n ≡ slice_index script.lines.items k))
Refuses opt script (Config key) = judged (merged opt script.conf) ≡ Err key
Refuses opt script NoMemory = Unit {0}
