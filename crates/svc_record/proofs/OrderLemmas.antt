-- The startup order of a plan, from that of its graph.
use Rattle.std.proofs.Common.{ℕ, true, false, ◌==◌, List, ◌≡◌, refl, sym, ◌∙◌, inl, inr, subst, arith, ◌<◌, ◌≤◌, nat_lt, length, take, All, slice_index}
use Rattle.std.proofs.lemmas.Bool.{and_parts, and_from, eqb-true, false_from_ne_true, lt-ltb}
use Rattle.std.proofs.lemmas.List.{take-take, get_or_default}
use Rattle.std.proofs.lemmas.Option.{slice_get_cases}
use Rattle.std.proofs.lemmas.List.Folds.{Any-from_list_any}
use Rattle.svc_graph.specs.GraphData.{GraphData}
use Rattle.svc_graph.specs.Graphs.{is_edge, row_of, IsGraph}
use Rattle.svc_graph.specs.Graphs as graphs
use Rattle.svc_record.specs.declared.plan.Plan.{Plan}
use Rattle.svc_record.specs.Plans.{service_count, depends}
use Rattle.svc_record.specs.Building.{DependsWell, IsGraphUpTo}
use Rattle.svc_record.specs.Validity.{depends_on, is_listed, IsNext, IsStartupOrder, IsInOrder}
use Rattle.svc_graph.proofs.Chains.{acyclic-within}
use Rattle.svc_graph.proofs.Lists.{All-listed, All-from_listed}
use Rattle.svc_record.proofs.GraphLemmas.{listed_front}

module _ (p : Plan) (g : GraphData) (whole : IsGraphUpTo p (service_count p) g) (graph : IsGraph g) where
  size : length g.depends ≡ service_count p
  size = graph.rows ∙ whole.nodes

  -- what a plan's service depends on stands in its row
  row_plan : (P : ℕ → Type 0) (a : ℕ) → a < service_count p → All P (row_of g.depends a) → All P (depends p a)
  row_plan P a lt all = All-from_listed P (depends p a)
      (λ b e. All-listed P (row_of g.depends a) b all
      (whole.edges a b ∙ and_from (nat_lt a (service_count p)) (depends_on p a b) (lt-ltb a (service_count p) lt) e))

  plan_row : (P : ℕ → Type 0) (a : ℕ) → All P (depends p a) → All P (row_of g.depends a)
  plan_row P a all = All-from_listed P (row_of g.depends a)
      (λ b e. All-listed P (depends p a) b all (and_parts (nat_lt a (service_count p)) (depends_on p a b) (sym (whole.edges a b) ∙ e)).1)

  depends_inside : (a b : ℕ) → depends_on p a b ≡ true → a < service_count p
  depends_inside a b e =
      elim (slice_get_cases p.services a).1 [
        | inl at ↦ at.1
        | inr past ↦ absurd (let none : depends_on p a b ≡ false = rw past.1 refl in cc)
      ]

  -- the plan's dependencies are services, without a cycle
  pub depends-well : DependsWell p
  depends-well = record {
    inside = λ s lt. row_plan (λ d. d < service_count p) s lt (subst (λ n. All (λ d. d < n) (row_of g.depends s)) whole.nodes (graph.inside s));
    acyclic = acyclic-within (depends_on p) (is_edge g)
        (λ a b e. whole.edges a b ∙ and_from (nat_lt a (service_count p)) (depends_on p a b) (lt-ltb a (service_count p) (depends_inside a b e)) e)
        graph.acyclic;
  }

  next-plan : (listed : List ℕ) (s : ℕ) → graphs.IsNext g.depends listed s → IsNext p listed s
  next-plan listed s next = record {
    inside = subst (λ n. s < n) size next.inside;
    fresh = next.fresh;
    due = row_plan (λ d. is_listed listed d ≡ true) s (subst (λ n. s < n) size next.inside) next.due;
    least = λ t lt fresh due. next.least t lt fresh (plan_row (λ d. is_listed listed d ≡ true) t due);
  }

  pub order-plan : (order : List ℕ) → graphs.IsStartupOrder g.depends order → IsStartupOrder p order
  order-plan order least = record {
    next = λ k lt. next-plan (take k order) (slice_index order k) (least.next k lt);
    all_listed = λ s lt. least.all_listed s (subst (λ n. s < n) (sym size) lt);
  }

-- what is listed before j is listed before a later k
earlier_listed : (order : List ℕ) (j k a : ℕ) → j ≤ k → is_listed (take j order) a ≡ true → is_listed (take k order) a ≡ true
earlier_listed order j k a le e = listed_front (take k order) j a (subst (λ xs. is_listed xs a ≡ true) (sym (take-take j k order le)) e)

pub in-order : (p : Plan) (order : List ℕ) → length order ≤ 1024 → IsStartupOrder p order → IsInOrder p order
in-order p order short least = record {
  inside = λ k lt. (least.next k lt).inside;
  each = λ s lt. (
      let found = Any-from_list_any (λ x. x == s) order (least.all_listed s lt) in
      (found.0, found.2, get_or_default order found.0 0 found.1 found.2 ∙ found.3 ∙ eqb-true found.1 s found.4));
  after = λ j k le lt. false_from_ne_true (depends_on p (slice_index order j) (slice_index order k))
      (λ e. (
      let due = All-listed (λ d. is_listed (take j order) d ≡ true) (depends p (slice_index order j)) (slice_index order k)
      (least.next j (omega arith)).due e in
      let seen = earlier_listed order j k (slice_index order k) le due in
      let fresh = (least.next k lt).fresh in cc));
  short = short;
}
