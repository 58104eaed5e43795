-- What a call leaves of the flags of failed services, of what is held, of the states of the other services, and of addresses without a live descriptor.
use Rattle.std.specs.Prelude.{ℕ, Bool, true, false, ◌≡◌, ◌≢◌, ◌⊎◌, List, Option, slice_set}
use Rattle.svc_record.specs.Plans.{same_address}
use Rattle.svc_endpoints.specs.EndpointsData.{EndpointsData}
use Rattle.svc_endpoints.specs.EndpointsState.{last_at, is_holding}
use Rattle.svc_endpoints.specs.Effects.{has_open}

-- the flags stay, but for the service's, which may be set now
abbrev pub FailsOnly : ℕ → List Bool → List Bool → Type 0
FailsOnly s flags next = (next ≡ flags) ⊎ (next ≡ slice_set flags s true)

-- each endpoint that is held stays held
abbrev pub StaysHeld : EndpointsData → EndpointsData → Type 0
StaysHeld d next = (t k : ℕ) → is_holding (last_at d t k) ≡ true → is_holding (last_at next t k) ≡ true

-- no endpoint is held that wasn't
abbrev pub StaysUnheld : EndpointsData → EndpointsData → Type 0
StaysUnheld d next = (t k : ℕ) → is_holding (last_at d t k) ≡ false → is_holding (last_at next t k) ≡ false

-- no address has a live descriptor that had none
abbrev pub GainsNone : EndpointsData → EndpointsData → Type 0
GainsNone d next = (a : Option (List ℕ)) → has_open d.table a ≡ false → has_open next.table a ≡ false

-- no address but this one has a live descriptor that had none
abbrev pub GainsOnly : Option (List ℕ) → EndpointsData → EndpointsData → Type 0
GainsOnly a d next = (b : Option (List ℕ)) → same_address a b ≡ false → has_open d.table b ≡ false → has_open next.table b ≡ false

-- the endpoints of each service but this one stay as they are
abbrev pub OthersStay : ℕ → EndpointsData → EndpointsData → Type 0
OthersStay s d next = (t k : ℕ) → t ≢ s → last_at next t k ≡ last_at d t k
