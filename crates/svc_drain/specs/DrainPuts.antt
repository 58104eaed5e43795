-- What a call tells.
use Rattle.std.specs.Prelude.{◌≡◌, ◌+◌, ◌≤◌, ◌++◌, ℕ, List, length}
use Rattle.svc_base.specs.Items.{list_of, spare}
use Rattle.svc_record.specs.declared.action.Action.{Action}

-- it tells these, and takes no more room than that
pub record Puts (more : List Action) (before after : List Action × ℕ) : Type 0 where
  pub told : list_of after ≡ list_of before ++ more
  pub room : spare before ≤ spare after + length more
