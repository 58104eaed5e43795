-- What contracts see of what the pass keeps of the services that it needn't visit.
use Rattle.std.specs.Prelude.{ℕ, Bool, List, ◌≡◌, ◌≤◌, ◌+◌, length}
use Rattle.svc_graph.specs.Bits.{HasRows}
use Rattle.svc_graph.specs.WaitingData.{WaitingData}

-- a row of bits of the places that are open; a row for each service, with the places that wait behind it, one of all that wait so, and one of those that
-- rest; which service depends on which, and which are marked as ready; whether all were looked at, and with bootstrapping complete or not; and up to which
-- moment all that rest do
pub record WaitsData : Type 0 where
  pub bits : List ℕ
  pub counts : WaitingData
  pub fresh : Bool
  pub complete : Bool
  pub until : ℕ

-- there are so many services and rows
pub record AreWaitsSized (bits : List ℕ) (counts : WaitingData) (services : ℕ) : Type 0 where
  pub count : services ≡ length counts.marks
  pub few : length counts.marks ≤ 1024
  pub rows : HasRows bits (length counts.marks + 3)
