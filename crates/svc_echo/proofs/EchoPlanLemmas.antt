-- The echo server's plan is valid.
use Rattle.std.proofs.Common.{◌≡◌, ℕ, zero, suc, ◌<◌, Bool, true, false, ◌&&◌, not, List, [], ◌∷◌, length, Option, Some, None, if◌then◌else◌, nat_le, refl, arith}
use Rattle.std.specs.Str.{bytes_eq}
use Rattle.std.proofs.lemmas.List.Elements.{All-nil, All-cons}
use Rattle.std.proofs.lemmas.Bool.{leb-true}
use Rattle.svc_echo.proofs.EndingLemmas.{both}
use Rattle.svc_graph.specs.Paths.{Edges, IsChain}
use Rattle.svc_record.specs.Plans.{depends, endpoints, service_count}
use Rattle.svc_record.specs.Validity.{IsValid, IsAddress, depends_on}
use Rattle.svc_echo.specs.Words.{is_address, turns_by, turns_of}
use Rattle.svc_echo.specs.EchoPlans.{endpoint_at, echo_plan, plan_of}

-- without edges there is no chain
no_chain : (g : Edges) → ((a b : ℕ) → g a b ≡ false) → (a b : ℕ) (via : List ℕ) → IsChain g a via b → ⊥
no_chain g none a b [] e = let f : g a b ≡ false = none a b in cc
no_chain g none a b (c ∷ more) chain = let f : g a c ≡ false = none a c in let t : g a c ≡ true = chain.0 in cc

alone : (address control : List ℕ) (s d : ℕ) → depends_on (echo_plan address control) s d ≡ false
alone address control zero d = refl
alone address control (suc s) d = refl

no_depends : (address control : List ℕ) (s : ℕ) → depends (echo_plan address control) s ≡ []
no_depends address control zero = refl
no_depends address control (suc s) = refl

endpoints_after : (address control : List ℕ) (s : ℕ) → s < 1 → (endpoints (echo_plan address control) s) ≡ endpoint_at address ∷ endpoint_at control ∷ []
endpoints_after address control zero h = refl
endpoints_after address control (suc s) h = absurd (omega (arith, h))

address_fits : (address : List ℕ) → is_address address ≡ true → IsAddress (endpoint_at address)
address_fits address e =
    let parts = both (nat_le 1 (length address)) (nat_le (length address) 4096) e in
    (leb-true 1 (length address) parts.0, leb-true (length address) 4096 parts.1)

pub valid_plan : (address control : List ℕ) → is_address address ≡ true → is_address control ≡ true → IsValid (echo_plan address control)
valid_plan address control a c = record {
  few = omega arith;
  few_endpoints = λ s h. rw (endpoints_after address control s h) (omega arith);
  addresses = λ s h. rw (endpoints_after address control s h)
      (All-cons IsAddress (endpoint_at address) (endpoint_at control ∷ []) (address_fits address a)
      (All-cons IsAddress (endpoint_at control) [] (address_fits control c) (All-nil IsAddress)));
  inside = λ s h. rw (no_depends address control s) (All-nil (λ d. d < service_count (echo_plan address control)));
  acyclic = λ s path. no_chain (depends_on (echo_plan address control)) (alone address control) s s path.0 path.1;
  tasks = omega arith;
}

-- both addresses fit where something is taken
taken : (x y z : Bool) (o : Option ℕ) (n : ℕ) → (if (x && y) && not z then o else None) ≡ Some n → (x ≡ true) × (y ≡ true)
taken true true z o n e = (refl, refl)
taken true false z o n e = cc
taken false y z o n e = cc

-- the plan of words that are taken
pub words_valid : (words : List (List ℕ)) (turns : ℕ) → turns_of words ≡ Some turns → IsValid (plan_of words)
words_valid [] turns e = cc
words_valid (a ∷ []) turns e = cc
words_valid (a ∷ c ∷ []) turns e = cc
words_valid (a ∷ c ∷ t ∷ []) turns e =
    let parts = taken (is_address a) (is_address c) (bytes_eq a c) (turns_by t) turns e in valid_plan a c parts.0 parts.1
words_valid (a ∷ c ∷ t ∷ u ∷ more) turns e = cc
