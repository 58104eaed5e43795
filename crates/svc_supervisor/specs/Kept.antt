-- What holds of a chain until it is finished.
use Rattle.std.specs.Prelude.{List}
use Rattle.svc_supervisor.specs.ChainData.{GenerationData}
use Rattle.svc_supervisor.specs.Chains.{AreRight, AreScheduled}
use Rattle.svc_supervisor.specs.Carries.{KeepsCarried}

-- each generation's record is right; neighbours' records are what a schedule of the two leaves; and the law of a chain holds
pub record ChainKept (gs : List GenerationData) : Type 0 where
  pub right : AreRight gs
  pub scheduled : AreScheduled gs
  pub carried : KeepsCarried gs
