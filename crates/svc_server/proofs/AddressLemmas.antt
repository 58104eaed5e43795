-- The addresses that services declare, each once.
use Rattle.std.proofs.Common.{ℕ, zero, suc, Bool, true, false, not, ◌||◌, List, [], ◌∷◌, ◌++◌, ◌≡◌, refl, sym, ◌∙◌, ap, inl, inr, ◌⊎◌, arith, ◌+◌, ◌<◌, ◌≤◌, length, take, filter, fold, get_or}
use Rattle.std.specs.Prelude.{Option, Some, None, bytes_eq}
use Rattle.std.specs.Option.{option_map}
use Rattle.std.proofs.lemmas.Bool.Decides.{same_from_decides}
use Rattle.std.proofs.lemmas.Slice.Eq.{bytes_eq-Decides}
use Rattle.std.proofs.lemmas.List.{append-nil, append_assoc, map_more, take_all}
use Rattle.std.proofs.lemmas.List.Elements.{filter-append}
use Rattle.svc_graph.specs.declared.services.ServiceWithDependents.{Ghosts}
use Rattle.svc_record.specs.declared.plan.ServicePlan.{ServicePlan}
use Rattle.svc_server.specs.Servers.{answer_of, answers_of}
use Rattle.svc_server.specs.Addresses.{joined, declared_by_all, each_once, expected_of, is_among, with_missing}

two : (b : Bool) → (b ≡ true) ⊎ (b ≡ false)
two true = inl refl
two false = inr refl

bytes_eq_sym : (x y : List ℕ) → bytes_eq x y ≡ bytes_eq y x
bytes_eq_sym x y =
    same_from_decides (bytes_eq x y) (bytes_eq y x) (bytes_eq-Decides x y)
    (λ e. sym ((bytes_eq-Decides y x).0 e), λ e. (bytes_eq-Decides y x).1 (sym e))

-- the other texts
abbrev others : List ℕ → List (List ℕ) → List (List ℕ)
others x zs = filter (λ y. not (bytes_eq y x)) zs

-- another text is among the others exactly where it is among all
among-others : (x z : List ℕ) (zs : List (List ℕ)) → bytes_eq x z ≡ false → is_among (others x zs) z ≡ is_among zs z
among-others x z [] apart = refl
among-others x z (w ∷ ws) apart =
    elim (two (bytes_eq w x)) [
      | inl same ↦ (
          let left : bytes_eq w z ≡ false = ap (λ (v : List ℕ). bytes_eq v z) ((bytes_eq-Decides w x).0 same) ∙ apart in
          rw (same, left) (among-others x z ws apart))
      | inr differs ↦ rw differs (ap (λ b. bytes_eq w z || b) (among-others x z ws apart))
    ]

-- one text more, beside those that are other than x
others-more : (x y : List ℕ) (zs : List (List ℕ)) → x ∷ others x (with_missing zs y) ≡ with_missing (x ∷ others x zs) y
others-more x y zs =
    elim (two (bytes_eq x y)) [
      | inl same ↦ (
          let back : bytes_eq y x ≡ true = bytes_eq_sym y x ∙ same in
          elim (two (is_among zs y)) [
            | inl there ↦ rw (there, same) refl
            | inr missing ↦ (
                let none : others x (y ∷ []) ≡ [] = rw back refl in
                rw (missing, same)
                (ap (λ rest. x ∷ rest)
                (filter-append (λ v. not (bytes_eq v x)) zs (y ∷ []) ∙ ap (λ rest. others x zs ++ rest) none ∙ append-nil (others x zs))))
          ])
      | inr differs ↦ (
          let back : bytes_eq y x ≡ false = bytes_eq_sym y x ∙ differs in
          elim (two (is_among zs y)) [
            | inl there ↦ (
                let still : is_among (x ∷ others x zs) y ≡ true = rw (differs, among-others x y zs differs) there in
                rw (there, still) refl)
            | inr missing ↦ (
                let still : is_among (x ∷ others x zs) y ≡ false = rw (differs, among-others x y zs differs) missing in
                let one : others x (y ∷ []) ≡ y ∷ [] = rw back refl in
                rw (missing, still) (ap (λ rest. x ∷ rest) (filter-append (λ v. not (bytes_eq v x)) zs (y ∷ []) ∙ ap (λ rest. others x zs ++ rest) one)))
          ])
    ]

each_once-push : (xs : List (List ℕ)) (y : List ℕ) → each_once (xs ++ y ∷ []) ≡ with_missing (each_once xs) y
each_once-push [] y = refl
each_once-push (x ∷ xs) y = ap (λ zs. x ∷ others x zs) (each_once-push xs y) ∙ others-more x y (each_once xs)

-- adding what is missing, text by text
pub each_once-fold : (xs ys : List (List ℕ)) → fold with_missing (each_once xs) ys ≡ each_once (xs ++ ys)
each_once-fold xs [] = ap each_once (sym (append-nil xs))
each_once-fold xs (y ∷ ys) =
    ap (λ zs. fold with_missing zs ys) (sym (each_once-push xs y)) ∙ each_once-fold (xs ++ y ∷ []) ys ∙ ap each_once (append_assoc xs (y ∷ []) ys)

-- ---- service by service

joined-none : (a : Option (List (List ℕ))) → joined a None ≡ None
joined-none None = refl
joined-none (Some x) = refl

joined-nil : (a : Option (List (List ℕ))) → joined a (Some []) ≡ joined (Some []) a
joined-nil None = refl
joined-nil (Some x) = ap (λ (xs : List (List ℕ)). some xs) (append-nil x)
  where
    some : List (List ℕ) → Option (List (List ℕ))
    some xs = Some xs

joined_assoc : (a b c : Option (List (List ℕ))) → joined a (joined b c) ≡ joined (joined a b) c
joined_assoc None b c = refl
joined_assoc (Some x) None c = refl
joined_assoc (Some x) (Some y) None = refl
joined_assoc (Some x) (Some y) (Some z) = ap (λ (xs : List (List ℕ)). some xs) (sym (append_assoc x y z))
  where
    some : List (List ℕ) → Option (List (List ℕ))
    some xs = Some xs

declared-push : (xs : List ServicePlan) (x : ServicePlan) → declared_by_all (xs ++ x ∷ []) ≡ joined (declared_by_all xs) x.declared
declared-push [] x = joined-nil x.declared
declared-push (y ∷ ys) x = ap (λ d. joined y.declared d) (declared-push ys x) ∙ joined_assoc y.declared (declared_by_all ys) x.declared

-- a loop's step: the next service declares these texts
pub seen-more : {B : Type 0} (means : Ghosts B) (bs : List B) (k : ℕ) (b : B) (texts seen expected now : List (List ℕ)) → k < length bs → b ≡ get_or bs k b
    → means.declares b ≡ Some texts
    → declared_by_all (answers_of means (take k bs)) ≡ Some seen → expected ≡ each_once seen → now ≡ fold with_missing expected texts
    → (more : List (List ℕ)) × (declared_by_all (answers_of means (take (k + 1) bs)) ≡ Some more) × (now ≡ each_once more)
seen-more {B = B} means bs k b texts seen expected now lt read declares before is added = (
  seen ++ texts,
  ap declared_by_all (map_more (answer_of means) bs k b lt)
      ∙ declared-push (answers_of means (take k bs)) (answer_of means (get_or bs k b))
      ∙ ap (λ d. joined d (means.declares (get_or bs k b))) before
      ∙ ap (λ d. joined (Some seen) d) (ap (λ (x : B). means.declares x) (sym read) ∙ declares),
  added ∙ ap (λ zs. fold with_missing zs texts) is ∙ each_once-fold seen texts,
)

-- where one service declares nothing, none is expected
pub expected-none : {B : Type 0} (means : Ghosts B) (bs : List B) (k : ℕ) (b : B) → k < length bs → b ≡ get_or bs k b → means.declares b ≡ None
    → expected_of (answers_of means bs) ≡ None
expected-none {B = B} means bs k b lt read says = ap (λ d. option_map each_once d) (nothing bs k lt read)
  where
    nothing : (xs : List B) (i : ℕ) → i < length xs → b ≡ get_or xs i b → declared_by_all (answers_of means xs) ≡ None
    nothing [] i le at = absurd (omega arith)
    nothing (x ∷ xs) zero le at = ap (λ d. joined d (declared_by_all (answers_of means xs))) (ap (λ (y : B). means.declares y) (sym at) ∙ says)
    nothing (x ∷ xs) (suc i) le at = ap (λ d. joined (means.declares x) d) (nothing xs i (omega arith) at) ∙ joined-none (means.declares x)

-- after the last service
pub expected-all : {B : Type 0} (means : Ghosts B) (bs : List B) (k : ℕ) (seen expected : List (List ℕ)) → length bs ≤ k
    → declared_by_all (answers_of means (take k bs)) ≡ Some seen → expected ≡ each_once seen
    → ◌≡◌ {A = Option (List (List ℕ))} (Some expected) (expected_of (answers_of means bs))
expected-all {B = B} means bs k seen expected le declared is =
    sym (ap (λ (xs : List B). expected_of (answers_of means xs)) (sym (take_all k bs le)) ∙ ap (λ d. option_map each_once d) declared
    ∙ ap (λ zs. option_map (λ _. zs) (Some seen)) (sym is))
