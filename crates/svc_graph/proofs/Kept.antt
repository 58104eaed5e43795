-- What the fields of a graph keep, from one change to the next.
use Rattle.std.proofs.Common.{ℕ, zero, suc, Bool, true, false, ◌&&◌, ◌||◌, ◌==◌, ◌⊎◌, inl, inr, List, [], ◌∷◌, ◌++◌, ◌≡◌, ◌≢◌, refl, sym, ◌∙◌, subst, ap, arith, All, ◌<◌, ◌≤◌, ◌+◌, nat_lt, length, length-append, length-set, slice_set, Option, Some, None}
use Rattle.std.proofs.lemmas.Bool.{cases_eq, cases_lt, eq-eqb, ne_eqb, lt-ltb, le-ltb, and_left, false_from_ne_true}
use Rattle.std.proofs.lemmas.List.{get_or-set_other, get_or-set_same, length_push}
use Rattle.std.proofs.lemmas.List.Folds.{list_any-append}
use Rattle.svc_graph.specs.Paths.{Path}
use Rattle.svc_graph.specs.GraphData.{GraphData}
use Rattle.svc_graph.specs.Graphs.{row_of, is_in_row, is_listed, IsGraph}
use Rattle.svc_graph.specs.Marks.{RowsBelow, Divides}
use Rattle.svc_graph.specs.Bits.{is_set, HasRows}
use Rattle.svc_graph.specs.Counts.{count_below, AreSized}
use Rattle.svc_graph.specs.Ranks.{IsKept, KeepsAbove, KeepsWith, needs}
use Rattle.svc_graph.proofs.Lists.{All-listed, All-from_listed, listed_push, listed_last}
use Rattle.svc_graph.proofs.Counts.{count-more, none_at}
use Rattle.svc_graph.proofs.Reaches.{none_set, needed-grown, above-same, divides-same}
use Rattle.svc_graph.proofs.Chains.{ranked-acyclic, rank-added, raised, path-falls}

pub kept-none : (above : List ℕ) → IsKept 0 [] [] above None
kept-none above = record {
  few = omega arith;
  sized = refl;
  inside = λ a k d lt. absurd (omega arith);
  rank = λ a. 0;
  ranked = λ a b e. absurd (cc);
  unique = λ a. refl;
  direct = record { rows = omega arith; edges = λ a b. none_set b a };
  leading = tt;
}

pub kept-graph : (g : GraphData) (needed above : List ℕ) (looked : Option ℕ) → IsKept (length g.names) g.depends needed above looked → IsGraph g
kept-graph g needed above looked kept = record {
  few = kept.few;
  rows = kept.sized;
  inside = kept.inside;
  acyclic = ranked-acyclic (is_in_row g.depends) kept.rank kept.ranked;
}

-- the same for a graph that is seen as one
pub view-graph : {names rows : List (List ℕ)} {needed above : List ℕ} {looked : Option ℕ} {g : GraphData} → record { names = names; depends = rows } ≡ g
    → IsKept (length names) rows needed above looked → IsGraph g
view-graph {names} {rows} {needed} {above} {looked} same kept =
    subst (λ (h : GraphData). IsGraph h) same (kept-graph (record { names = names; depends = rows }) needed above looked kept)

keeps-same : (needed needed_now above : List ℕ) (looked : Option ℕ) → ((a b : ℕ) → is_set needed_now a b ≡ is_set needed a b) → KeepsAbove needed above looked
    → KeepsAbove needed_now above looked
keeps-same needed needed_now above None same leads = tt
keeps-same needed needed_now above (Some looked) same leads = above-same needed needed_now above looked same leads

-- more room for bits
pub kept-grown : (count : ℕ) (rows : List (List ℕ)) (needed above : List ℕ) (looked : Option ℕ) (needed_now : List ℕ)
    → length needed ≤ length needed_now → ((a b : ℕ) → is_set needed_now a b ≡ is_set needed a b)
    → IsKept count rows needed above looked → IsKept count rows needed_now above looked
kept-grown count rows needed above looked needed_now longer same kept = record {
  few = kept.few;
  sized = kept.sized;
  inside = kept.inside;
  rank = kept.rank;
  ranked = kept.ranked;
  unique = kept.unique;
  direct = needed-grown count (is_in_row rows) needed needed_now longer same kept.direct;
  leading = keeps-same needed needed_now above looked same kept.leading;
}

-- after a search for the nodes that lead to another node
pub kept-looked : (count : ℕ) (rows : List (List ℕ)) (needed before : List ℕ) (looked : Option ℕ) (above : List ℕ) (node_now : Option ℕ)
    → KeepsAbove needed above node_now → IsKept count rows needed before looked → IsKept count rows needed above node_now
kept-looked count rows needed before looked above node_now leads kept = record {
  few = kept.few;
  sized = kept.sized;
  inside = kept.inside;
  rank = kept.rank;
  ranked = kept.ranked;
  unique = kept.unique;
  direct = kept.direct;
  leading = leads;
}

-- a row without nodes changes no row
row_more : (rows : List (List ℕ)) (a : ℕ) → row_of (rows ++ [] ∷ []) a ≡ row_of rows a
row_more [] zero = refl
row_more [] (suc a) = refl
row_more (row ∷ rows) zero = refl
row_more (row ∷ rows) (suc a) = row_more rows a

-- each row has a length of its own nodes still
unique_node : (rows : List (List ℕ)) → RowsBelow (length rows) rows → AreSized rows → AreSized (rows ++ [] ∷ [])
unique_node rows inside unique a =
    let none : is_in_row rows a (length rows) ≡ false = false_from_ne_true (is_in_row rows a (length rows))
    (λ e. let lt = All-listed (λ b. b < length rows) (row_of rows a) (length rows) (inside a) e in omega arith) in
    let here : count_below (λ b. is_in_row rows a b) (suc (length rows)) ≡ count_below (λ b. is_in_row rows a b) (length rows) =
    (let skip = none_at (is_in_row rows a (length rows)) none in omega arith) in
    let size : length (rows ++ [] ∷ []) ≡ suc (length rows) = (let more = length-append rows ([] ∷ []) in omega arith) in
    ap (λ row. length row) (row_more rows a) ∙ unique a ∙ sym here ∙ ap (λ n. count_below (λ b. is_in_row rows a b) n) (sym size)
    ∙ ap (λ row. count_below (λ b. is_listed row b) (length (rows ++ [] ∷ []))) (sym (row_more rows a))

-- what the fields keep with one more node
pub kept-node : (count : ℕ) (rows : List (List ℕ)) (needed above : List ℕ) (looked : Option ℕ) → count < 1024 → HasRows needed (count + 1)
    → IsKept count rows needed above looked → IsKept (count + 1) (rows ++ [] ∷ []) needed above looked
kept-node count rows needed above looked room needed_rows kept =
    let same : (a b : ℕ) → is_in_row (rows ++ [] ∷ []) a b ≡ is_in_row rows a b = λ a b. ap (λ row. is_listed row b) (row_more rows a) in
    record {
      few = omega arith;
      sized = (let size = length-append rows ([] ∷ []) in let was = kept.sized in omega arith);
      inside = λ a. subst (λ row. All (λ b. b < count + 1) row) (sym (row_more rows a)) (λ k d lt. let below = kept.inside a k d lt in omega arith);
      rank = kept.rank;
      ranked = λ a b e. kept.ranked a b (sym (same a b) ∙ e);
      unique = λ a. unique_node rows (subst (λ n. RowsBelow n rows) (sym kept.sized) kept.inside) kept.unique a;
      direct = record { rows = needed_rows; edges = λ a b. kept.direct.edges a b ∙ sym (same a b) };
      leading = kept.leading;
    }

-- the rows with one more edge
abbrev pub pushed : List (List ℕ) → ℕ → ℕ → List (List ℕ)
pushed rows s d = slice_set rows s (row_of rows s ++ d ∷ [])

row_pushed : (rows : List (List ℕ)) (s d : ℕ) → s < length rows → row_of (pushed rows s d) s ≡ row_of rows s ++ d ∷ []
row_pushed rows s d lt = get_or-set_same rows s (row_of rows s ++ d ∷ []) [] lt

row_other : (rows : List (List ℕ)) (s d a : ℕ) → a ≢ s → row_of (pushed rows s d) a ≡ row_of rows a
row_other rows s d a ne = get_or-set_other rows s a (row_of rows s ++ d ∷ []) [] ne

-- an edge of the longer rows is the new one or an old one
edge_cases : (rows : List (List ℕ)) (s d : ℕ) → s < length rows → (a b : ℕ) → is_in_row (pushed rows s d) a b ≡ true
    → (is_in_row rows a b ≡ true) ⊎ ((a ≡ s) × (b ≡ d))
edge_cases rows s d lt a b e =
    elim (cases_eq a s) [
      | inl same ↦
          elim (listed_push (row_of rows s) d b
          (subst (λ row. is_listed row b ≡ true) (row_pushed rows s d lt) (subst (λ x. is_in_row (pushed rows s d) x b ≡ true) same e))) [
            | inl old ↦ inl (subst (λ x. is_in_row rows x b ≡ true) (sym same) old)
            | inr new ↦ inr (same, new)
          ]
      | inr ne ↦ inl (subst (λ row. is_listed row b ≡ true) (row_other rows s d a ne) e)
    ]

inside_pushed : (n : ℕ) (rows : List (List ℕ)) (s d : ℕ) → s < length rows → d < n → RowsBelow n rows → RowsBelow n (pushed rows s d)
inside_pushed n rows s d lt d_in inside a =
    All-from_listed (λ b. b < n) (row_of (pushed rows s d) a)
    (λ b e. elim (edge_cases rows s d lt a b e) [
      | inl old ↦ All-listed (λ y. y < n) (row_of rows a) b (inside a) old
      | inr new ↦ subst (λ y. y < n) (sym new.1) d_in
    ])

-- the edges of the longer rows
edge_pushed : (rows : List (List ℕ)) (s d : ℕ) → s < length rows → (a b : ℕ) → is_in_row (pushed rows s d) a b ≡ (is_in_row rows a b || (b == d && a == s))
edge_pushed rows s d lt a b =
    elim (cases_eq a s) [
      | inl same ↦ subst (λ x. is_in_row (pushed rows s d) x b ≡ (is_in_row rows x b || (b == d && x == s))) (sym same)
          (ap (λ row. is_listed row b) (row_pushed rows s d lt) ∙ list_any-append (λ x. x == b) (row_of rows s) (d ∷ [])
          ∙ ap (λ w. is_in_row rows s b || w) last)
      | inr ne ↦ ap (λ row. is_listed row b) (row_other rows s d a ne) ∙ none (is_in_row rows a b) (b == d) (a == s) (ne_eqb a s ne)
    ]
  where
    none : (u v w : Bool) → w ≡ false → u ≡ (u || (v && w))
    none u v w e = grind arith

    last : ((d == b) || false) ≡ (b == d && s == s)
    last = elim (cases_eq b d) [
      | inl is ↦ rw (eq-eqb b d is, eq-eqb d b (sym is), eq-eqb s s refl) refl
      | inr ne ↦ rw (ne_eqb b d ne, ne_eqb d b (λ e. ne (sym e))) refl
    ]

pub edge_now : (rows : List (List ℕ)) (s d : ℕ) → s < length rows → (a b : ℕ) → is_in_row (pushed rows s d) a b ≡ (is_in_row rows a b || (a == s && b == d))
edge_now rows s d lt a b = edge_pushed rows s d lt a b ∙ ap (λ w. is_in_row rows a b || w) (turned (b == d) (a == s))
  where
    turned : (u v : Bool) → (u && v) ≡ (v && u)
    turned true true = refl
    turned true false = refl
    turned false true = refl
    turned false false = refl

unique_pushed : (rows : List (List ℕ)) (s d : ℕ) → s < length rows → d < length rows → is_in_row rows s d ≡ false → AreSized rows → AreSized (pushed rows s d)
unique_pushed rows s d lt d_in fresh unique a =
    let size = length-set rows s (row_of rows s ++ d ∷ []) in
    elim (cases_eq a s) [
      | inl same ↦ subst (λ x. length (row_of (pushed rows s d) x) ≡ count_below (λ b. is_in_row (pushed rows s d) x b) (length (pushed rows s d))) (sym same)
          (ap (λ row. length row) (row_pushed rows s d lt) ∙ length_push (row_of rows s) d ∙ ap (λ m. m + 1) (unique s)
          ∙ sym (count-more (λ b. is_in_row rows s b) (λ b. is_in_row (pushed rows s d) s b) d (length rows) d_in fresh
          (ap (λ row. is_listed row d) (row_pushed rows s d lt) ∙ listed_last (row_of rows s) d)
          (λ b ne. edge_now rows s d lt s b ∙ none (is_in_row rows s b) (s == s) (b == d) (ne_eqb b d ne)))
          ∙ ap (λ n. count_below (λ b. is_in_row (pushed rows s d) s b) n) (sym size))
      | inr ne ↦ ap (λ row. length row) (row_other rows s d a ne) ∙ unique a ∙ ap (λ n. count_below (λ b. is_in_row rows a b) n) (sym size)
          ∙ ap (λ row. count_below (λ b. is_listed row b) (length (pushed rows s d))) (sym (row_other rows s d a ne))
    ]
  where
    none : (u v w : Bool) → w ≡ false → (u || (v && w)) ≡ u
    none u v w e = grind arith

-- an edge to a node that doesn't lead back
pub kept-edge : (count : ℕ) (rows : List (List ℕ)) (needed before : List ℕ) (looked : Option ℕ) (needed_now above : List ℕ) (node_now : Option ℕ) (s d : ℕ)
    → IsKept count rows needed before looked → s < count → d < count
    → is_in_row rows s d ≡ false → Divides (needs needed) d s → KeepsWith needed s d above node_now
    → length needed_now ≡ length needed → ((a b : ℕ) → is_set needed_now a b ≡ (is_set needed a b || (a == d && b == s)))
    → IsKept count (pushed rows s d) needed_now above node_now
kept-edge count rows needed before looked needed_now above node_now s d kept s_in d_in fresh apart later needed_len needed_bits =
    let sized = kept.sized in
    let lt : s < length rows = omega arith in
    let divides = divides-same (needs needed) (is_in_row rows) d s kept.direct.edges apart in
    record {
      few = kept.few;
      sized = length-set rows s (row_of rows s ++ d ∷ []) ∙ kept.sized;
      inside = inside_pushed count rows s d lt d_in kept.inside;
      rank = raised kept.rank divides.side d;
      ranked = rank-added (is_in_row rows) (is_in_row (pushed rows s d)) kept.rank s d kept.ranked divides (edge_cases rows s d lt);
      unique = unique_pushed rows s d lt (omega arith) fresh kept.unique;
      direct = record {
        rows = (let room = kept.direct.rows in omega arith);
        edges = λ a b. needed_bits b a ∙ ap (λ w. w || (b == d && a == s)) (kept.direct.edges a b) ∙ sym (edge_pushed rows s d lt a b);
      };
      leading = later needed_now needed_bits;
    }

-- no way leads back from the end of an edge that is there
pub edge-no_return : (count : ℕ) (rows : List (List ℕ)) (needed above : List ℕ) (looked : Option ℕ) (s d : ℕ) → IsKept count rows needed above looked
    → is_in_row rows s d ≡ true → (s ≡ d) ⊎ Path (is_in_row rows) d s → ⊥
edge-no_return count rows needed above looked s d kept e (inl same) =
    let h = kept.ranked s d e in
    let there : kept.rank d ≡ kept.rank s = ap kept.rank (sym same) in omega arith
edge-no_return count rows needed above looked s d kept e (inr path) =
    let h = kept.ranked s d e in
    let back = path-falls (is_in_row rows) kept.rank kept.ranked d s path in omega arith

-- the nodes whose row has the bit of s are those that s depends on
pub kept-row : (count : ℕ) (rows : List (List ℕ)) (needed above : List ℕ) (looked : Option ℕ) → IsKept count rows needed above looked → (s a : ℕ)
    → (nat_lt a count && is_set needed a s) ≡ is_in_row rows s a
kept-row count rows needed above looked kept s a =
    elim (cases_lt a count) [
      | inl lt ↦ ap (λ w. w && is_set needed a s) (lt-ltb a count lt) ∙ kept.direct.edges s a
      | inr le ↦ and_left (nat_lt a count) (is_set needed a s) (le-ltb a count le)
          ∙ sym (false_from_ne_true (is_in_row rows s a) (λ e. let lt = All-listed (λ b. b < count) (row_of rows s) a (kept.inside s) e in omega arith))
    ]
