-- What contracts see of a chain.
use Rattle.std.specs.Prelude.{Bool, List}
use Rattle.svc_record.specs.declared.plan.Plan.{Plan}
use Rattle.svc_record.specs.Record.{Record}

-- a generation: what it is run by, and its record
pub record GenerationData : Type 0 where
  pub plan : Plan
  pub history : Record

-- the generations, the oldest first, and whether all that was open has been closed
pub record ChainData : Type 0 where
  pub generations : List GenerationData
  pub finished : Bool
