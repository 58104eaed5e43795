-- The addresses that a server's services declare.
use Rattle.std.specs.Prelude.{ℕ, Bool, not, List, [], ◌∷◌, ◌++◌, filter, Option, Some, None, bytes_eq, if◌then◌else◌}
use Rattle.std.specs.List.{list_any}
use Rattle.std.specs.Option.{option_map}
use Rattle.svc_record.specs.declared.plan.ServicePlan.{ServicePlan}

-- both lists, one after the other, where both are there
abbrev pub joined : Option (List (List ℕ)) → Option (List (List ℕ)) → Option (List (List ℕ))
joined None more = None
joined (Some texts) None = None
joined (Some texts) (Some more) = Some (texts ++ more)

-- all that the services declare, in order; none where one of them says nothing
abbrev pub declared_by_all : List ServicePlan → Option (List (List ℕ))
declared_by_all [] = Some []
declared_by_all (x ∷ xs) = joined x.declared (declared_by_all xs)

-- each of the texts once, in the order in which they first come
abbrev pub each_once : List (List ℕ) → List (List ℕ)
each_once [] = []
each_once (x ∷ xs) = x ∷ filter (λ y. not (bytes_eq y x)) (each_once xs)

-- the addresses that a server expects: all that its services declare, each once; none where one of them says nothing
abbrev pub expected_of : List ServicePlan → Option (List (List ℕ))
expected_of answers = option_map each_once (declared_by_all answers)

-- the text is among them
abbrev pub is_among : List (List ℕ) → List ℕ → Bool
is_among texts x = list_any (λ y. bytes_eq y x) texts

-- the texts, and this one at their end where it isn't among them
abbrev pub with_missing : List (List ℕ) → List ℕ → List (List ℕ)
with_missing texts x = if is_among texts x then texts else texts ++ x ∷ []
