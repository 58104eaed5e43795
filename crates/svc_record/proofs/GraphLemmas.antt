-- Adding the dependencies of services to a graph.
use Rattle.std.proofs.Common.{ℕ, Bool, true, false, ◌||◌, ◌&&◌, ◌==◌, ◌⊎◌, inl, inr, List, [], ◌∷◌, ◌≡◌, refl, sym, ◌∙◌, subst, ap, arith, ◌<◌, ◌+◌, nat_lt, length, take, drop, All, slice_index_or}
use Rattle.std.proofs.Math.Bool.{or-false}
use Rattle.std.proofs.lemmas.Bool.{and_parts, and_from, or_cases, or_left, or_right, eqb-true, eq-eqb, ne_eqb, lt-ltb, le-ltb, cases_eq}
use Rattle.std.proofs.lemmas.List.Folds.{list_any_at, list_any_more, list_any-append}
use Rattle.std.proofs.lemmas.List.{take-append-drop}
use Rattle.svc_graph.specs.Paths.{Edges, Path, IsAcyclic}
use Rattle.svc_graph.specs.GraphData.{GraphData}
use Rattle.svc_graph.specs.Graphs.{node_count, is_edge, LeadsBack, IsUnknown}
use Rattle.svc_graph.proofs.Chains.{chain-within, acyclic-within}
use Rattle.svc_record.specs.declared.plan.Plan.{Plan}
use Rattle.svc_record.specs.Plans.{service_count, depends}
use Rattle.svc_record.specs.Building.{with_row, DependsWell, IsGraphUpTo}
use Rattle.svc_record.specs.Validity.{depends_on, is_listed}

-- an edge to what leads back closes a cycle
pub closes-cycle : (g h : Edges) (s d : ℕ) → ((a b : ℕ) → g a b ≡ true → h a b ≡ true) → h s d ≡ true → (s ≡ d) ⊎ Path g d s → IsAcyclic h → ⊥
closes-cycle g h s d within e (inl same) none = none s ([], subst (λ x. h s x ≡ true) (sym same) e)
closes-cycle g h s d within e (inr path) none = none s (d ∷ path.0, (e, chain-within g h within d path.0 s path.1))

-- what is listed among the first is listed
pub listed_front : (xs : List ℕ) (k a : ℕ) → is_listed (take k xs) a ≡ true → is_listed xs a ≡ true
listed_front xs k a e =
    subst (λ ys. is_listed ys a ≡ true) (take-append-drop k xs)
    (list_any-append (λ x. x == a) (take k xs) (drop k xs) ∙ or_left (is_listed (take k xs) a) (is_listed (drop k xs) a) e)

eqb_sym : (a b : ℕ) → (a == b) ≡ (b == a)
eqb_sym a b =
    elim (cases_eq a b) [
      | inl e ↦ eq-eqb a b e ∙ sym (eq-eqb b a (sym e))
      | inr ne ↦ ne_eqb a b ne ∙ sym (ne_eqb b a (λ e. ne (sym e)))
    ]

same_or : (old here : Bool) (seen next : Bool) → (old || (here && (seen || next))) ≡ ((old || (here && seen)) || (here && next))
same_or old here seen next = grind arith

-- one more dependency of the row
pub row-step : (g was now : Edges) (s : ℕ) (row : List ℕ) (k d : ℕ) → k < length row
    → ((a b : ℕ) → was a b ≡ with_row g s (take k row) a b)
    → ((a b : ℕ) → now a b ≡ (was a b || (a == s && b == slice_index_or row k d)))
    → (a b : ℕ) → now a b ≡ with_row g s (take (k + 1) row) a b
row-step g was now s row k d lt before added a b =
    added a b
    ∙ ap (λ old. old || (a == s && b == slice_index_or row k d)) (before a b)
    ∙ ap (λ last. with_row g s (take k row) a b || (a == s && last)) (eqb_sym b (slice_index_or row k d))
    ∙ sym (ap (λ listed. g a b || (a == s && listed)) (list_any_more (λ x. x == b) row k d lt)
    ∙ same_or (g a b) (a == s) (is_listed (take k row) b) (slice_index_or row k d == b))

-- a dependency is refused only where it isn't a service, or leads back
pub refusal-cause : (old now : GraphData) (s : ℕ) (row : List ℕ) (k d : ℕ) → s < node_count old → k < length row
    → node_count now ≡ node_count old
    → ((a b : ℕ) → is_edge now a b ≡ with_row (is_edge old) s (take k row) a b)
    → LeadsBack now s (slice_index_or row k d) ⊎ IsUnknown now s (slice_index_or row k d)
    → All (λ x. x < node_count old) row → IsAcyclic (with_row (is_edge old) s row) → ⊥
refusal-cause old now s row k d s_in lt same before (inl back) inside none =
    closes-cycle (is_edge now) (with_row (is_edge old) s row) s (slice_index_or row k d)
    (λ a b e. wider (is_edge old a b) (a == s) (is_listed (take k row) b) (is_listed row b) (listed_front row k b) (sym (before a b) ∙ e))
    (or_right (is_edge old s (slice_index_or row k d)) (s == s && is_listed row (slice_index_or row k d))
    (and_from (s == s) (is_listed row (slice_index_or row k d)) (eq-eqb s s refl)
    (list_any_at (λ x. x == slice_index_or row k d) row k d lt (eq-eqb (slice_index_or row k d) (slice_index_or row k d) refl))))
    back none
  where
    wider : (edge here some all : Bool) → (some ≡ true → all ≡ true) → (edge || (here && some)) ≡ true → (edge || (here && all)) ≡ true
    wider true here some all f e = refl
    wider false true true all f e = f refl
    wider false true false all f e = absurd (cc)
    wider false false some all f e = absurd (cc)
refusal-cause old now s row k d s_in lt same before (inr (inl out)) inside none = omega arith
refusal-cause old now s row k d s_in lt same before (inr (inr out)) inside none = omega (arith, inside k d lt)

-- a service's dependencies can't be refused where all services' can't
pub graph-cause : (p : Plan) (g : GraphData) (s : ℕ) → s < service_count p → IsGraphUpTo p s g
    → (All (λ d. d < node_count g) (depends p s) → IsAcyclic (with_row (is_edge g) s (depends p s)) → ⊥) → DependsWell p → ⊥
graph-cause p g s lt so_far refused well =
    refused (subst (λ n. All (λ d. d < n) (depends p s)) (sym so_far.nodes) (well.inside s lt))
    (acyclic-within (with_row (is_edge g) s (depends p s)) (depends_on p)
    (λ a b e. elim (or_cases (is_edge g a b) (a == s && is_listed (depends p s) b) e) [
      | inl old ↦ (and_parts (nat_lt a s) (depends_on p a b) (sym (so_far.edges a b) ∙ old)).1
      | inr new ↦ (let parts = and_parts (a == s) (is_listed (depends p s) b) new in
          subst (λ x. depends_on p x b ≡ true) (sym (eqb-true a s parts.0)) parts.1)
    ]) well.acyclic)

-- what the first services have, and what the next one has
one_more : (p : Plan) (s a b : ℕ)
    → ((nat_lt a s && depends_on p a b) || (a == s && is_listed (depends p s) b)) ≡ (nat_lt a (s + 1) && depends_on p a b)
one_more p s a b =
    elim (cases_eq a s) [
      | inl e ↦ subst (λ x. ((nat_lt x s && depends_on p x b) || (x == s && is_listed (depends p s) b)) ≡ (nat_lt x (s + 1) && depends_on p x b)) (sym e)
          (rw (le-ltb s s (omega arith), lt-ltb s (s + 1) (omega arith), eq-eqb s s refl) refl)
      | inr ne ↦ apart a ne (ne_eqb a s ne)
    ]
  where
    same : (a : ℕ) → (a ≡ s → ⊥) → nat_lt a s ≡ nat_lt a (s + 1)
    same a ne = grind arith

    apart : (a : ℕ) → (a ≡ s → ⊥) → (a == s) ≡ false
        → ((nat_lt a s && depends_on p a b) || (a == s && is_listed (depends p s) b)) ≡ (nat_lt a (s + 1) && depends_on p a b)
    apart a ne e =
        rw e (or-false (nat_lt a s && depends_on p a b) ∙ ap (λ below. below && depends_on p a b) (same a ne))

-- the dependencies of one more service
pub graph-step : (p : Plan) (was now : GraphData) (s : ℕ) → IsGraphUpTo p s was → node_count now ≡ node_count was
    → ((a b : ℕ) → is_edge now a b ≡ with_row (is_edge was) s (depends p s) a b) → IsGraphUpTo p (s + 1) now
graph-step p was now s so_far names added = record {
  nodes = names ∙ so_far.nodes;
  edges = λ a b. added a b ∙ ap (λ old. old || (a == s && is_listed (depends p s) b)) (so_far.edges a b) ∙ one_more p s a b;
}
