-- What contracts see of the endpoints.
use Rattle.std.specs.Prelude.{ℕ, Bool, List}
use Rattle.svc_endpoints.specs.declared.states.EndpointState.{EndpointState}
use Rattle.svc_endpoints.specs.declared.loops.LoopEnd.{LoopEnd}
use Rattle.svc_endpoints.specs.declared.table.Open.{Open}

-- for each service the state of each of its endpoints, and whether it has failed; the loops that ended; the live descriptors with their addresses,
-- and the numbers of all that came, both in ascending order; the sums of the addresses that several endpoints may have; how many loops an endpoint has
pub record EndpointsData : Type 0 where
  pub rows : List (List EndpointState)
  pub failed : List Bool
  pub loops : List LoopEnd
  pub table : List Open
  pub came : List ℕ
  pub shared : List ℕ
  pub tasks : ℕ

-- the same, and for how many more descriptors and ended loops there is memory
pub record EndpointsRoom : Type 0 where
  pub parts : EndpointsData
  pub room : ℕ
  pub loop_room : ℕ
