-- The services that a script may have, and its items.
use Rattle.std.specs.Prelude.{ℕ, ◌≡◌, ◌≤◌, true, false, List, [], length, slice_get, unwrap_or, option_and_then, All}
use Rattle.svc_record.specs.declared.entry.Entry.TheVariants.{Got}
use Rattle.svc_record.specs.declared.item.Item.{Item}
use Rattle.svc_record.specs.declared.item.Item.TheVariants as items
use Rattle.svc_record.specs.Descriptors.{numbers_of}
use Rattle.svc_text.specs.declared.service.EndpointLine.{EndpointLine}
use Rattle.svc_text.specs.declared.service.ServiceLine.{ServiceLine}
use Rattle.svc_text.specs.ServiceLines.{boots, is_address}

-- the numbers that service k names as its dependencies
abbrev pub after_at : List ServiceLine → ℕ → List ℕ
after_at services k = unwrap_or (option_and_then (λ s. s.after) (slice_get services k)) []

-- it has no addresses, declares that, and blocks none
abbrev pub HasNoAddresses : ServiceLine → Type 0
HasNoAddresses s = (s.endpoints ≡ []) × (s.claims ≡ []) × (s.undeclared ≡ false) × (s.blocked ≡ [])

-- it has at most 64 endpoints, its addresses have 1 to 4,096 bytes, and one that bootstraps has none
pub record IsAccepted (s : ServiceLine) : Type 0 where
  pub boots_alone : boots s.kind ≡ true → HasNoAddresses s
  pub few_endpoints : length s.endpoints ≤ 64
  pub addresses : All (λ (e : EndpointLine). is_address e.address ≡ true) s.endpoints
  pub claims : All (λ address. is_address address ≡ true) s.claims

-- there are at most 1,024, each of which is accepted
pub record AreAccepted (services : List ServiceLine) : Type 0 where
  pub few : length services ≤ 1024
  pub each : All IsAccepted services

-- an event among a script's items brings at most 32 descriptors
abbrev pub BringsFew : Item → Type 0
BringsFew (items.Event e) = length (numbers_of (Got e)) ≤ 32
BringsFew items.Fault = Unit {0}
