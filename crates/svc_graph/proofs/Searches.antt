-- A search for the nodes that lead to a node: those that were found, and those of them whose dependents are still looked through.
use Rattle.std.proofs.Common.{ℕ, true, false, not, ◌||◌, ◌==◌, ◌⊎◌, inl, inr, List, [], ◌∷◌, ◌++◌, ◌≡◌, refl, sym, ◌∙◌, ap, subst, arith, ◌<◌, ◌+◌, ◌*◌, length}
use Rattle.std.proofs.lemmas.Bool.{or_cases, or_left, or_right, eqb-true, eq-eqb, ne_eqb}
use Rattle.std.proofs.lemmas.List.{length_push}
use Rattle.std.proofs.lemmas.List.Folds.{list_any-append}
use Rattle.svc_graph.specs.Paths.{Path}
use Rattle.svc_graph.specs.Graphs.{is_listed}
use Rattle.svc_graph.specs.Bits.{is_set, HasRows}
use Rattle.svc_graph.specs.Counts.{count_below}
use Rattle.svc_graph.specs.Ranks.{needs}
use Rattle.svc_graph.proofs.Chains.{path-edge, path-append}
use Rattle.svc_graph.proofs.Counts.{count-more}
use Rattle.svc_graph.proofs.Lists.{listed_push, listed_last}
use Rattle.svc_graph.proofs.Bounds.{or_false}

-- what was found leads to the node, and where a node that was found isn't on the stack, all its dependents were found
pub record Search (needed : List ℕ) (count node : ℕ) (found stack : List ℕ) : Type 0 where
  pub rows : HasRows found 1
  pub own : is_set found 0 node ≡ true
  pub inside : (a : ℕ) → is_set found 0 a ≡ true → a < count
  pub led : (a : ℕ) → is_set found 0 a ≡ true → (a ≡ node) ⊎ Path (needs needed) a node
  pub noted : (a : ℕ) → is_listed stack a ≡ true → is_set found 0 a ≡ true
  pub closed : (b : ℕ) → is_set found 0 b ≡ true → (is_listed stack b ≡ true) ⊎ ((a : ℕ) → is_set needed b a ≡ true → is_set found 0 a ≡ true)

listed_more : (xs : List ℕ) (b a : ℕ) → is_listed xs a ≡ true → is_listed (xs ++ b ∷ []) a ≡ true
listed_more xs b a e = list_any-append (λ x. x == a) xs (b ∷ []) ∙ or_left (is_listed xs a) ((b == a) || false) e

-- with the node alone
pub search-first : (needed : List ℕ) (count node : ℕ) (found : List ℕ) → HasRows found 1 → node < count
    → ((b : ℕ) → is_set found 0 b ≡ (b == node)) → Search needed count node found ([] ++ node ∷ [])
search-first needed count node found rows lt bits = record {
  rows = rows;
  own = bits node ∙ eq-eqb node node refl;
  inside = λ a e. subst (λ x. x < count) (sym (only a e)) lt;
  led = λ a e. inl (only a e);
  noted = λ a e. elim (listed_push [] node a e) [
    | inl old ↦ absurd (cc)
    | inr is ↦ bits a ∙ eq-eqb a node is
  ];
  closed = λ b e. inl (subst (λ x. is_listed ([] ++ node ∷ []) x ≡ true) (sym (only b e)) (listed_last [] node));
}
  where
    only : (a : ℕ) → is_set found 0 a ≡ true → a ≡ node
    only a e = eqb-true a node (sym (bits a) ∙ e)

-- the last node of the stack is done
pub search-done : (needed : List ℕ) (count node : ℕ) (found stack : List ℕ) (top : ℕ) → Search needed count node found (stack ++ top ∷ [])
    → ((a : ℕ) → is_set needed top a ≡ true → is_set found 0 a ≡ true) → Search needed count node found stack
search-done needed count node found stack top was all = record {
  rows = was.rows;
  own = was.own;
  inside = was.inside;
  led = was.led;
  noted = λ a e. was.noted a (listed_more stack top a e);
  closed = λ b e. elim (was.closed b e) [
    | inl on ↦ elim (listed_push stack top b on) [
      | inl old ↦ inl old
      | inr is ↦ inr (λ a edge. all a (subst (λ x. is_set needed x a ≡ true) is edge))
    ]
    | inr past ↦ inr past
  ];
}

-- one node more is found, which depends on the last one of the stack
pub search-next : (needed : List ℕ) (count node : ℕ) (found stack : List ℕ) (top next : ℕ) (found_now : List ℕ)
    → Search needed count node found (stack ++ top ∷ []) → is_set needed top next ≡ true → next < count → HasRows found_now 1
    → ((b : ℕ) → is_set found_now 0 b ≡ (is_set found 0 b || (b == next)))
    → Search needed count node found_now ((stack ++ top ∷ []) ++ next ∷ [])
search-next needed count node found stack top next found_now was edge lt rows bits = record {
  rows = rows;
  own = older node was.own;
  inside = λ a e. elim (cases a e) [ inl old ↦ was.inside a old | inr is ↦ subst (λ x. x < count) (sym is) lt ];
  led = λ a e. elim (cases a e) [ inl old ↦ was.led a old | inr is ↦ inr (subst (λ x. Path (needs needed) x node) (sym is) way) ];
  noted = λ a e. elim (listed_push (stack ++ top ∷ []) next a e) [
    | inl old ↦ older a (was.noted a old)
    | inr is ↦ bits a ∙ or_right (is_set found 0 a) (a == next) (eq-eqb a next is)
  ];
  closed = λ b e. elim (cases b e) [
    | inl old ↦ elim (was.closed b old) [
      | inl on ↦ inl (listed_more (stack ++ top ∷ []) next b on)
      | inr past ↦ inr (λ a h. older a (past a h))
    ]
    | inr is ↦ inl (subst (λ x. is_listed ((stack ++ top ∷ []) ++ next ∷ []) x ≡ true) (sym is) (listed_last (stack ++ top ∷ []) next))
  ];
}
  where
    older : (a : ℕ) → is_set found 0 a ≡ true → is_set found_now 0 a ≡ true
    older a e = bits a ∙ or_left (is_set found 0 a) (a == next) e

    cases : (a : ℕ) → is_set found_now 0 a ≡ true → (is_set found 0 a ≡ true) ⊎ (a ≡ next)
    cases a e =
        elim (or_cases (is_set found 0 a) (a == next) (sym (bits a) ∙ e)) [
          | inl old ↦ inl old
          | inr new ↦ inr (eqb-true a next new)
        ]

    step : Path (needs needed) next top
    step = path-edge (needs needed) next top edge

    way : Path (needs needed) next node
    way =
        elim (was.led top (was.noted top (listed_last stack top))) [
          | inl is ↦ subst (λ x. Path (needs needed) next x) is step
          | inr path ↦ path-append (needs needed) next top node step path
        ]

-- how many bits of the row are clear
abbrev pub clear_count : List ℕ → ℕ
clear_count found = count_below (λ a. not (is_set found 0 a)) 1024

-- one fewer with one bit more
pub clear_count-less : (found found_now : List ℕ) (next : ℕ) → next < 1024 → is_set found 0 next ≡ false
    → ((b : ℕ) → is_set found_now 0 b ≡ (is_set found 0 b || (b == next))) → clear_count found ≡ clear_count found_now + 1
clear_count-less found found_now next lt free bits =
    count-more (λ a. not (is_set found_now 0 a)) (λ a. not (is_set found 0 a)) next 1024 lt
    (ap not (bits next ∙ or_right (is_set found 0 next) (next == next) (eq-eqb next next refl)))
    (ap not free)
    (λ a ne. ap not (sym (bits a ∙ or_false (is_set found 0 a) (a == next) (ne_eqb a next ne))))

smaller : (k m n l : ℕ) → k ≡ m + 1 → l ≡ n + 1 → 2 * m + l < 2 * k + n
smaller k m n l e f = omega arith

-- the measure of the search, with one more node on the stack
pub stack-grows : (found found_now stack back stack_now : List ℕ) (next : ℕ) → clear_count found ≡ clear_count found_now + 1 → back ≡ stack
    → stack_now ≡ back ++ next ∷ [] → 2 * clear_count found_now + length stack_now < 2 * clear_count found + length stack
stack-grows found found_now stack back stack_now next less same pushed =
    smaller (clear_count found) (clear_count found_now) (length stack) (length stack_now) less
    (ap (λ (xs : List ℕ). length xs) pushed ∙ length_push back next ∙ ap (λ (xs : List ℕ). length xs + 1) same)
