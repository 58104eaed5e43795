-- A book as plain data: the plan, the actions that the server began with, the limit and the journal.
use Rattle.std.specs.Prelude.{ℕ, List}
use Rattle.svc_record.specs.declared.plan.Plan.{Plan}
use Rattle.svc_record.specs.declared.action.Action.{Action}
use Rattle.svc_record.specs.Journal.{PostData}

-- what contracts see of a book
pub record BookData : Type 0 where
  pub plan : Plan
  pub opening : List Action
  pub limit : ℕ
  pub posts : List PostData

-- the same, from its parts
abbrev pub book : Plan → List Action → ℕ → List PostData → BookData
book plan opening limit posts = record { plan = plan; opening = opening; limit = limit; posts = posts }
