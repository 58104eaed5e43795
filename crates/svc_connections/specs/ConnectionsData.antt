-- What contracts see of the part on connections.
use Rattle.std.specs.Prelude.{ℕ, List}
use Rattle.svc_connections.specs.declared.stage.Connection.{Connection}

-- the live connections, and the numbers of all that arrived, both in ascending order
pub record ConnectionsData : Type 0 where
  pub live : List Connection
  pub came : List ℕ

-- the same, and for how many more connections there is memory
pub record ConnectionsRoom : Type 0 where
  pub parts : ConnectionsData
  pub room : ℕ
