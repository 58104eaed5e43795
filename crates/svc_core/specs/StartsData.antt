-- What contracts see of the part on starts: one flag of each sort for each service.
use Rattle.std.specs.Prelude.{Bool, List}

-- whether it is started, whether it said that it is ready, and whether its work is done
pub record StartsData : Type 0 where
  pub started : List Bool
  pub ready : List Bool
  pub ended : List Bool
