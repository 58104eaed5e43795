-- The names of the services that are left, as pending are taken out.
use Rattle.std.proofs.Common.{ℕ, ◌≡◌, ◌<◌, List, length, get_or, set, Option, None, ap, sym, ◌∙◌}
use Rattle.std.specs.Prelude.{slice_get, unwrap_or}
use Rattle.std.specs.Option.{option_map}
use Rattle.std.proofs.lemmas.List.{map-set}
use Rattle.std.proofs.lemmas.Option.{slice_get-map, slice_get-get_or}
use Rattle.svc_server.specs.Handing.{names_left}

pub left-taken : {B : Type 0} (named : B → List ℕ) (pending : List (Option B)) (k : ℕ) (o : Option B) → o ≡ None
    → names_left named (set pending k o) ≡ set (names_left named pending) k None
left-taken named pending k o e = map-set (option_map named) pending k o ∙ ap (λ x. set (names_left named pending) k (option_map named x)) e

pub taken-at : {B : Type 0} (named : B → List ℕ) (pending : List (Option B)) (k : ℕ) (o : Option B) → k < length pending → o ≡ get_or pending k o
    → option_map named o ≡ unwrap_or (slice_get (names_left named pending) k) None
taken-at named pending k o lt e =
    ap (option_map named) e
    ∙ sym (ap (λ x. unwrap_or x None) (slice_get-map (option_map named) pending k ∙ ap (option_map (option_map named)) (slice_get-get_or pending k o lt)))
