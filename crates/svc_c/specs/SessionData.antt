-- What contracts see of a session.
use Rattle.std.specs.Prelude.{◌≡◌, List, []}
use Rattle.svc_record.specs.declared.action.Action.{Action}
use Rattle.svc_record.specs.declared.action.StepEnd.{StepEnd}
use Rattle.svc_record.specs.declared.entry.Entry.{Entry}
use Rattle.svc_text.specs.declared.service.ServiceLine.{ServiceLine}
use Rattle.svc_core.specs.CoreData.{CoreData}
use Rattle.svc_core.specs.Stands.{HasNotBegun}
use Rattle.svc_c.specs.declared.stage.Stage.{Stage}
use Rattle.svc_c.specs.declared.stage.Stage.TheVariants.{Fresh}

-- the core, the services of the script, how far the session is, how the run has ended as far as it has, and what the last call got and told
pub record SessionData : Type 0 where
  pub core : CoreData
  pub services : List ServiceLine
  pub stage : Stage
  pub end : StepEnd
  pub entries : List Entry

-- where the first step wasn't taken, nothing was got or told; between calls the list for actions is empty
pub record IsKept (core : CoreData) (stage : Stage) (told : List Action) : Type 0 where
  pub first : stage ≡ Fresh → HasNotBegun core
  pub empty : told ≡ []
