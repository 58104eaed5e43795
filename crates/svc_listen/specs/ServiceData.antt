-- What contracts see of a service that listens.
use Rattle.std.specs.Prelude.{ℕ, List, Option}
use Rattle.svc_listen.specs.EndpointData.{ListenersData}
use Rattle.svc_listen.specs.declared.services.listening.RuntimeOptsOverride.{RuntimeOptsOverride}

-- its name and its endpoints; its application until the first start, then until the shutdown, and then as its clean-up left it; how many threads it
-- prefers; what replaces runtime options
pub record ServiceData (A : Type 0) : Type 0 where
  pub name : List ℕ
  pub listeners : ListenersData
  pub app : Option A
  pub serving : Option A
  pub cleaned : Option A
  pub threads : Option ℕ
  pub replaced : Option RuntimeOptsOverride
