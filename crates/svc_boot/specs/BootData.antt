-- What contracts see of the part on bootstrapping.
use Rattle.std.specs.Prelude.{ℕ, Bool}
use Rattle.svc_boot.specs.declared.fork.Fork.{Fork}
use Rattle.svc_boot.specs.declared.receiving.Receiving.{Receiving}

-- what became of the fork, whether bootstrapping has begun, whether it is complete, how far the receiving has come, and how many more missing senders are borne
pub record BootData : Type 0 where
  pub fork : Fork
  pub begun : Bool
  pub complete : Bool
  pub receiving : Receiving
  pub retries : ℕ
