-- The edges of a graph while the dependencies of services are added.
use Rattle.std.proofs.Common.{◌≡◌, ℕ, zero, suc, ◌+◌, ◌<◌, ◌≤◌, Bool, true, false, ◌&&◌, ◌||◌, ◌==◌, ltb, cond, List, [], ◌∷◌, ◌++◌, length, get_or, take, drop, set, All, refl, sym, ap, subst, ◌∙◌, inl, inr, arith, below_more, unwrap_or}
use Rattle.std.specs.Prelude.{Any}
use Rattle.std.specs.List.{list_any}
use Rattle.std.proofs.lemmas.Bool.{and_parts, and_from, or_left, or_right, or_cases, lt-ltb, le-ltb, ltb-true, ltb-false, eqb-true, eqb-false, eq-eqb, ne_eqb, cases_lt, cases_eq, both_ways}
use Rattle.std.proofs.lemmas.List.{take_more, length-append, take-append-drop, get_or_default}
use Rattle.std.proofs.lemmas.Option.{slice_get-get_or}
use Rattle.std.proofs.lemmas.List.Folds.{list_any-append, list_any-from_Any}
use Rattle.std.proofs.lemmas.List.Elements.{All-push}
use Rattle.svc_graph.specs.Paths.{Edges, IsChain, IsAcyclic}
use Rattle.svc_graph.specs.GraphData.{GraphData}
use Rattle.svc_graph.specs.Graphs.{node_count, is_edge, with_node, with_edge, IsUnknown, LeadsBack}
use Rattle.svc_text.specs.declared.service.ServiceLine.{ServiceLine}
use Rattle.svc_text.specs.Accepted.{after_at}
use Rattle.svc_text.specs.Dependencies.{edges_up_to, AreSoundUpTo, IsUnsound, RefusesAt, RefusesNone}
use Rattle.svc_text.specs.Edges.{with_row, HasEdges, HasTaken}

pub chain_in : (g f : Edges) → ((a b : ℕ) → g a b ≡ true → f a b ≡ true) → (a : ℕ) (via : List ℕ) (b : ℕ) → IsChain g a via b → IsChain f a via b
chain_in g f h a [] b c = h a b c
chain_in g f h a (x ∷ via) b c = (h a x c.0, chain_in g f h x via b c.1)

-- fewer edges have no more cycles
pub fewer_acyclic : (g f : Edges) → ((a b : ℕ) → g a b ≡ true → f a b ≡ true) → IsAcyclic f → IsAcyclic g
fewer_acyclic g f h acyclic a p = acyclic a (p.0, chain_in g f h a p.0 a p.1)

-- two that give the same edges
same_acyclic : (g f : Edges) → ((a b : ℕ) → g a b ≡ f a b) → IsAcyclic f → IsAcyclic g
same_acyclic g f h acyclic = fewer_acyclic g f (λ a b e. sym (h a b) ∙ e) acyclic

-- ---- nodes alone

no_edges : (g : Edges) → ((a b : ℕ) → g a b ≡ false) → IsAcyclic g
no_edges g h a ([], e) = both_ways _ (h a a) e
no_edges g h a (x ∷ via, c) = both_ways _ (h a x) c.0

row_push : (rows : List (List ℕ)) (a : ℕ) → get_or (rows ++ [] ∷ []) a [] ≡ get_or rows a []
row_push [] zero = refl
row_push [] (suc a) = refl
row_push (r ∷ rows) zero = refl
row_push (r ∷ rows) (suc a) = row_push rows a

-- so many nodes, and no edges
pub record HasNodes (g : GraphData) (n : ℕ) : Type 0 where
  pub count : node_count g ≡ n
  pub none : (a b : ℕ) → is_edge g a b ≡ false

pub nodes_none : (g : GraphData) → g ≡ record { names = []; depends = [] } → HasNodes g 0
nodes_none g e = subst (λ (x : GraphData). HasNodes x 0) (sym e) (record { count = refl; none = λ a b. refl })

pub nodes_more : (g h : GraphData) (name : List ℕ) (n m : ℕ) → HasNodes g n → m ≡ n + 1 → h ≡ with_node g name → HasNodes h m
nodes_more g h name n m old em e =
    subst (λ (x : GraphData). HasNodes x m) (sym e) (record {
      count = omega (arith, length-append g.names (name ∷ []), old.count);
      none = λ a b. ap (list_any (λ x. x == b)) (row_push g.depends a) ∙ old.none a b;
    })

not_below : (a : ℕ) (b : Bool) → (ltb a 0 && b) ≡ false
not_below a b = rw (le-ltb a 0 (omega arith)) refl

pub nodes_start : (g : GraphData) (xs : List ServiceLine) (n : ℕ) → n ≡ length xs → HasNodes g n → HasEdges g (length xs) (edges_up_to xs 0)
nodes_start g xs n e h = record {
  count = h.count ∙ e;
  same = λ a b. h.none a b ∙ sym (not_below a _);
  acyclic = no_edges (is_edge g) h.none;
}

-- ---- one row

same_order : (x y : ℕ) → (x == y) ≡ (y == x)
same_order x y =
    elim (cases_eq x y) [
      | inl e ↦ rw (eq-eqb x y e, eq-eqb y x (sym e)) refl
      | inr ne ↦ rw (ne_eqb x y ne, ne_eqb y x (λ e. ne (sym e))) refl
    ]

regroup : (f p l q : Bool) → ((f || (p && l)) || (p && q)) ≡ (f || (p && (l || (q || false))))
regroup true p l q = refl
regroup false false l q = refl
regroup false true true q = refl
regroup false true false true = refl
regroup false true false false = refl

-- one more node in the row
row_more : (f : Edges) (a : ℕ) (xs : List ℕ) (x c d : ℕ) → (with_row f a xs c d || (c == a && d == x)) ≡ with_row f a (xs ++ x ∷ []) c d
row_more f a xs x c d =
    let l : list_any (λ y. y == d) (xs ++ x ∷ []) ≡ (list_any (λ y. y == d) xs || ((x == d) || false)) = list_any-append (λ y. y == d) xs (x ∷ []) in
    let o : (d == x) ≡ (x == d) = same_order d x in
    rw (o, l) (regroup (f c d) (c == a) (list_any (λ y. y == d) xs) (x == d))

taken_more : (old g h : GraphData) (a x : ℕ) (xs : List ℕ) → HasTaken old g a xs → node_count h ≡ node_count g
    → ((c d : ℕ) → is_edge h c d ≡ (is_edge g c d || (c == a && d == x))) → IsAcyclic (is_edge h) → x < node_count g → HasTaken old h a (xs ++ x ∷ [])
taken_more old g h a x xs t count edges acyclic below = record {
  edges = record {
    count = count ∙ t.edges.count;
    same = λ c d. edges c d ∙ ap (λ (b : Bool). b || (c == a && d == x)) (t.edges.same c d) ∙ row_more (is_edge old) a xs x c d;
    acyclic = acyclic;
  };
  known = All-push (λ b. b < node_count old) xs x t.known (let e = t.edges.count in omega arith);
}

same_count : (g : GraphData) (a b : ℕ) (h : GraphData) → h ≡ with_edge g a b → node_count h ≡ node_count g
same_count g a b h e = ap node_count e ∙ either (is_edge g a b)
  where
    either : (t : Bool) → node_count (cond t g (record { names = g.names; depends = set g.depends a (get_or g.depends a [] ++ b ∷ []) })) ≡ node_count g
    either true = refl
    either false = refl

-- ---- a refusal

row_at : (f : Edges) (a : ℕ) (xs : List ℕ) (d : ℕ) → list_any (λ y. y == d) xs ≡ true → with_row f a xs a d ≡ true
row_at f a xs d h = or_right (f a d) _ (and_from _ _ (eq-eqb a a refl) h)

listed_at : (xs : List ℕ) (i x : ℕ) → i < length xs → x ≡ get_or xs i x → list_any (λ y. y == x) xs ≡ true
listed_at xs i x lt e = list_any-from_Any (λ y. y == x) xs (i, x, lt, sym e, eq-eqb x x refl)

listed_front : (xs : List ℕ) (i d : ℕ) → list_any (λ y. y == d) (take i xs) ≡ true → list_any (λ y. y == d) xs ≡ true
listed_front xs i d h =
    let e : list_any (λ y. y == d) (take i xs ++ drop i xs) ≡ true =
    list_any-append (λ y. y == d) (take i xs) (drop i xs) ∙ or_left _ (list_any (λ y. y == d) (drop i xs)) h in
    ap (list_any (λ y. y == d)) (sym (take-append-drop i xs)) ∙ e

row_front : (f : Edges) (a : ℕ) (xs : List ℕ) (i c d : ℕ) → with_row f a (take i xs) c d ≡ true → with_row f a xs c d ≡ true
row_front f a xs i c d h =
    elim (or_cases (f c d) _ h) [
      | inl old ↦ or_left (f c d) _ old
      | inr new ↦ let p = and_parts (c == a) _ new in or_right (f c d) _ (and_from (c == a) _ p.0 (listed_front xs i d p.1))
    ]

-- the one at place i isn't there
refused_unknown : (old g : GraphData) (a x : ℕ) (xs : List ℕ) (i : ℕ) → HasTaken old g a (take i xs) → a < node_count old → i < length xs → x ≡ get_or xs i x
    → IsUnknown g a x → IsUnsound (node_count old) (with_row (is_edge old) a xs) xs
refused_unknown old g a x xs i t below lt e u =
    let count = t.edges.count in
    elim u [
      | inl none ↦ absurd (omega arith)
      | inr none ↦ inl (i, x, lt, sym e, omega arith)
    ]

-- it leads back
refused_circular : (old g : GraphData) (a x : ℕ) (xs : List ℕ) (i : ℕ) → HasTaken old g a (take i xs) → i < length xs → x ≡ get_or xs i x
    → LeadsBack g a x → IsUnsound (node_count old) (with_row (is_edge old) a xs) xs
refused_circular old g a x xs i t lt e back =
    let edge : with_row (is_edge old) a xs a x ≡ true = row_at (is_edge old) a xs x (listed_at xs i x lt e) in
    elim back [
      | inl same ↦ inr (a, ([], ap (λ (y : ℕ). with_row (is_edge old) a xs a y) same ∙ edge))
      | inr path ↦
          inr (
            a,
            (
              x ∷ path.0,
              (
                edge,
                chain_in (is_edge g) (with_row (is_edge old) a xs)
                    (λ c d f. row_front (is_edge old) a xs i c d (sym (t.edges.same c d) ∙ f)) x path.0 a path.1,
              ),
            ),
          )
    ]

-- ---- one service after the other

split_at : (p q r x y : Bool) → (p ≡ true → (q ≡ false) × (r ≡ true)) → (q ≡ true → (r ≡ true) × (x ≡ y)) → ((p ≡ false) → (q ≡ false) → r ≡ false)
    → ((p && y) || (q && x)) ≡ (r && y)
split_at true q r x y f g h = let e = f refl in rw (e.0, e.1) (either y)
  where
    either : (y : Bool) → (y || (false && x)) ≡ y
    either true = refl
    either false = refl
split_at false true r x y f g h = let e = g refl in rw (e.0, e.1) refl
split_at false false r x y f g h = rw (h refl refl) refl

starts_after : (a k : ℕ) → k ≤ a → (a ≡ k → ⊥) → k + 1 ≤ a
starts_after a k le ne = elim (cases_lt k a) [ inl lt ↦ omega arith | inr ge ↦ absurd (ne (omega arith)) ]

edges_more : (xs : List ServiceLine) (k : ℕ) (after : List ℕ) (a b : ℕ) → after ≡ after_at xs k
    → with_row (edges_up_to xs k) k after a b ≡ edges_up_to xs (k + 1) a b
edges_more xs k after a b e =
    split_at (ltb a k) (a == k) (ltb a (k + 1)) (list_any (λ x. x == b) after) (list_any (λ x. x == b) (after_at xs a))
    (λ p. let lt = ltb-true a k p in (ne_eqb a k (λ s. omega arith), lt-ltb a (k + 1) (omega arith)))
    (λ q. let s = eqb-true a k q in (lt-ltb a (k + 1) (omega arith), ap (list_any (λ x. x == b)) (e ∙ ap (after_at xs) (sym s))))
    (λ p q. le-ltb a (k + 1) (past p q))
  where
    past : ltb a k ≡ false → (a == k) ≡ false → k + 1 ≤ a
    past p q = starts_after a k (ltb-false a k p) (eqb-false a k q)

pub sound_none : (xs : List ServiceLine) (a : ℕ) → a < 0 → All (λ b. b < length xs) (after_at xs a)
sound_none xs a lt = absurd (omega arith)

-- the graph has the edges of the first k services, which are sound
pub record HasServices (g : GraphData) (xs : List ServiceLine) (k : ℕ) : Type 0 where
  pub edges : HasEdges g (length xs) (edges_up_to xs k)
  pub known : (a : ℕ) → a < k → All (λ b. b < length xs) (after_at xs a)

pub services_none : (g : GraphData) (xs : List ServiceLine) → HasEdges g (length xs) (edges_up_to xs 0) → HasServices g xs 0
services_none g xs h = record { edges = h; known = sound_none xs }

pub services_more : (g h : GraphData) (xs : List ServiceLine) (k : ℕ) (after : List ℕ) → HasServices g xs k → after ≡ after_at xs k → HasTaken g h k after
    → HasServices h xs (k + 1)
services_more g h xs k after s e t = record {
  edges = record {
    count = t.edges.count ∙ s.edges.count;
    same = λ a b. t.edges.same a b ∙ ap (λ (x : Bool). x || (a == k && list_any (λ y. y == b) after)) (s.edges.same a b) ∙ edges_more xs k after a b e;
    acyclic = t.edges.acyclic;
  };
  known = below_more (λ a. All (λ b. b < length xs) (after_at xs a)) k s.known
      (subst (All (λ b. b < length xs)) e (subst (λ (n : ℕ). All (λ b. b < n) after) s.edges.count t.known));
}

services_sound : (g : GraphData) (xs : List ServiceLine) (k : ℕ) → HasServices g xs k → AreSoundUpTo xs k
services_sound g xs k s = record { known = s.known; acyclic = same_acyclic (edges_up_to xs k) (is_edge g) (λ a b. sym (s.edges.same a b)) s.edges.acyclic }

pub services_all : (g : GraphData) (xs : List ServiceLine) (k : ℕ) → k ≡ length xs → HasServices g xs k → RefusesNone xs
services_all g xs k e s = subst (AreSoundUpTo xs) e (services_sound g xs k s)

chain_same : (n m : ℕ) (f g : Edges) (after row : List ℕ) → n ≡ m → after ≡ row → ((a b : ℕ) → f a b ≡ true → g a b ≡ true) → IsUnsound n f after
    → IsUnsound m g row
chain_same n m f g after row en er h u =
    elim u [
      | inl none ↦ inl (subst (λ (ys : List ℕ). Any (λ b. m ≤ b) ys) er (subst (λ (x : ℕ). Any (λ b. x ≤ b) after) en none))
      | inr cycle ↦ inr (cycle.0, (cycle.1.0, chain_in f g h cycle.0 cycle.1.0 cycle.0 cycle.1.1))
    ]

pub services_refused : (g : GraphData) (xs : List ServiceLine) (k : ℕ) (after : List ℕ) → HasServices g xs k → k < length xs → after ≡ after_at xs k
    → IsUnsound (node_count g) (with_row (is_edge g) k after) after → RefusesAt xs k
services_refused g xs k after s lt e u = record {
  here = lt;
  before = services_sound g xs k s;
  refused = chain_same (node_count g) (length xs) (with_row (is_edge g) k after) (edges_up_to xs (k + 1)) after (after_at xs k) s.edges.count e
      (λ a b h. sym (ap (λ (x : Bool). x || (a == k && list_any (λ y. y == b) after)) (s.edges.same a b) ∙ edges_more xs k after a b e) ∙ h) u;
}

-- ---- the node at a place of the row

pub taken_next : (old g h : GraphData) (a : ℕ) (xs : List ℕ) (i d : ℕ) → HasTaken old g a (take i xs) → i < length xs → h ≡ with_edge g a (get_or xs i d)
    → ((x y : ℕ) → is_edge h x y ≡ (is_edge g x y || (x == a && y == get_or xs i d))) → IsAcyclic (is_edge h) → (IsUnknown g a (get_or xs i d) → ⊥)
    → HasTaken old h a (take (i + 1) xs)
taken_next old g h a xs i d t lt made edges acyclic known =
    let x : ℕ = get_or xs i d in
    let below : x < node_count g = elim (cases_lt x (node_count g)) [ inl lt' ↦ lt' | inr le ↦ absurd (known (inr le)) ] in
    subst (HasTaken old h a) (sym (take_more xs i d lt)) (taken_more old g h a x (take i xs) t (same_count g a x h made) edges acyclic below)

at_place : (xs : List ℕ) (i d : ℕ) → i < length xs → get_or xs i d ≡ get_or xs i (get_or xs i d)
at_place xs i d lt = get_or_default xs i d (get_or xs i d) lt

pub unknown_next : (old g : GraphData) (a : ℕ) (xs : List ℕ) (i d : ℕ) → HasTaken old g a (take i xs) → a < node_count old → i < length xs
    → IsUnknown g a (get_or xs i d) → IsUnsound (node_count old) (with_row (is_edge old) a xs) xs
unknown_next old g a xs i d t below lt u = refused_unknown old g a (get_or xs i d) xs i t below lt (at_place xs i d lt) u

pub circular_next : (old g : GraphData) (a : ℕ) (xs : List ℕ) (i d : ℕ) → HasTaken old g a (take i xs) → i < length xs
    → LeadsBack g a (get_or xs i d) → IsUnsound (node_count old) (with_row (is_edge old) a xs) xs
circular_next old g a xs i d t lt back = refused_circular old g a (get_or xs i d) xs i t lt (at_place xs i d lt) back

pub after_read : (xs : List ServiceLine) (k : ℕ) (s : ServiceLine) → k < length xs → s ≡ get_or xs k s → unwrap_or s.after [] ≡ after_at xs k
after_read xs k s lt e = rw (slice_get-get_or xs k s lt, ← e) refl

-- ---- one service alone

edges_grow : (xs : List ServiceLine) (k n : ℕ) → k ≤ n → (a b : ℕ) → edges_up_to xs k a b ≡ true → edges_up_to xs n a b ≡ true
edges_grow xs k n le a b e =
    let p = and_parts (ltb a k) _ e in
    let lt : a < k = ltb-true a k p.0 in
    and_from (ltb a n) _ (lt-ltb a n (omega arith)) p.1

refused_unsound : (xs : List ServiceLine) (k n : ℕ) → RefusesAt xs k → k < n → AreSoundUpTo xs n → ⊥
refused_unsound xs k n r lt s =
    elim r.refused [
      | inl none ↦
          let known : get_or (after_at xs k) none.0 none.1 < length xs = s.known k lt none.0 none.1 none.2 in
          let here : get_or (after_at xs k) none.0 none.1 ≡ none.1 = none.3 in
          let past : length xs ≤ none.1 = none.4 in
          omega arith
      | inr cycle ↦
          s.acyclic cycle.0
          (cycle.1.0, chain_in (edges_up_to xs (k + 1)) (edges_up_to xs n) (edges_grow xs (k + 1) n (omega arith)) cycle.0 cycle.1.0 cycle.0 cycle.1.1)
    ]

pub refused_some : (xs : List ServiceLine) (k : ℕ) → RefusesAt xs k → RefusesNone xs → ⊥
refused_some xs k r s = refused_unsound xs k (length xs) r r.here s

pub refused_first : (xs : List ServiceLine) (j k : ℕ) → RefusesAt xs j → RefusesAt xs k → j ≡ k
refused_first xs j k r q =
    elim (cases_lt j k) [
      | inl lt ↦ absurd (refused_unsound xs j k r lt q.before)
      | inr le ↦
          elim (cases_lt k j) [
            | inl lt ↦ absurd (refused_unsound xs k j q lt r.before)
            | inr ge ↦ omega arith
          ]
    ]
