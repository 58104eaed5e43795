-- What contracts see of a graph whose nodes are marked one after another: for each node, by number, the nodes that it depends on, in ascending order,
-- and its mark.
use Rattle.std.specs.Prelude.{ℕ, Bool, List}

pub record WaitingData : Type 0 where
  pub depends : List (List ℕ)
  pub marks : List Bool
