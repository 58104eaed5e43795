-- What contracts see of an endpoint that listens, and of what makes it.
use Rattle.std.specs.Prelude.{ℕ, Bool, Option}
use Rattle.svc_listen.specs.declared.listeners.l4.ServerAddress.{ServerAddress}

-- what is given of an endpoint: its address, and the number of its filter
pub record BuilderData : Type 0 where
  pub address : Option ServerAddress
  pub filter : Option ℕ

-- an endpoint that listens: its address, the number of its descriptor, whether it owns that, and the number of its filter
pub record ListeningData : Type 0 where
  pub address : ServerAddress
  pub fd : ℕ
  pub owned : Bool
  pub filter : Option ℕ
