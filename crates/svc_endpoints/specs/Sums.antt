-- Sums of addresses, by which an address that one endpoint alone has is told.
use Rattle.std.specs.Prelude.{ℕ, Bool, true, not, ◌&&◌, ◌≡◌, ◌≢◌, ◌⊎◌, ◌<◌, ◌+◌, ◌*◌, ◌%◌, ◌^◌, List, [], ◌∷◌, Some, length, bytes_eq}
use Rattle.std.specs.List.{list_any}
use Rattle.svc_graph.specs.declared.plan.EndpointPlan.{EndpointPlan}
use Rattle.svc_record.specs.declared.plan.Plan.{Plan}
use Rattle.svc_record.specs.Plans.{service_count, endpoints, address, declares}
use Rattle.svc_base.specs.NumberSets.{is_in}

-- a number below 2 ^ 64 that is made of one and of the bytes
abbrev pub hash_from : ℕ → List ℕ → ℕ
hash_from h [] = h
hash_from h (b ∷ more) = hash_from (((h * 131) % 2 ^ 64 + b) % 2 ^ 64) more

-- a number that is made of the address
abbrev pub sum_of : List ℕ → ℕ
sum_of a = hash_from 0 a

-- endpoint i of s is one of the plan, and has this address
pub record HasAddress (p : Plan) (s i : ℕ) (a : List ℕ) : Type 0 where
  pub inside : s < service_count p
  pub within : i < length (endpoints p s)
  pub named : address p s i ≡ Some a

-- one of the endpoints has the address
abbrev pub is_listed : List EndpointPlan → List ℕ → Bool
is_listed list a = list_any (λ (x : EndpointPlan). bytes_eq x.address a) list

-- the service declares the address, and none of its endpoints has it
abbrev pub claims : Plan → ℕ → List ℕ → Bool
claims p s a = declares p s a && not (is_listed (endpoints p s) a)

-- of each address that two different endpoints have the sum is among these, and of each that a service claims
pub record AreShared (p : Plan) (shared : List ℕ) : Type 0 where
  pub apart : (t k s i : ℕ) (a : List ℕ) → (t ≡ s → k ≢ i) → HasAddress p t k a → HasAddress p s i a → is_in (sum_of a) shared ≡ true
  pub claimed : (t : ℕ) (a : List ℕ) → t < service_count p → claims p t a ≡ true → is_in (sum_of a) shared ≡ true

-- endpoint k of t stands before endpoint i of s
abbrev pub IsBefore : ℕ → ℕ → ℕ → ℕ → Type 0
IsBefore t k s i = (t < s) ⊎ ((t ≡ s) × (k < i))

-- of the endpoints before endpoint i of s each one's sum was seen, and that of an address that two of them have is shared,
-- as is that of each address that a service before s claims
pub record AreNoted (p : Plan) (s i : ℕ) (seen shared : List ℕ) : Type 0 where
  pub each : (t k : ℕ) (a : List ℕ) → IsBefore t k s i → HasAddress p t k a → is_in (sum_of a) seen ≡ true
  pub twice : (t k u j : ℕ) (a : List ℕ) → IsBefore t k u j → IsBefore u j s i → HasAddress p t k a → HasAddress p u j a → is_in (sum_of a) shared ≡ true
  pub claimed : (t : ℕ) (a : List ℕ) → t < s → claims p t a ≡ true → is_in (sum_of a) shared ≡ true

-- none of the numbers is gone
abbrev pub Grows : List ℕ → List ℕ → Type 0
Grows old new = (n : ℕ) → is_in n old ≡ true → is_in n new ≡ true
