-- Counts of what nodes wait for, from one mark to the next.
use Rattle.std.proofs.Common.{ℕ, zero, suc, Bool, true, false, ◌&&◌, ◌||◌, ◌==◌, not, inl, inr, List, [], ◌∷◌, ◌++◌, replicate, ◌≡◌, ◌≢◌, refl, sym, ◌∙◌, ap, subst, arith, All, ◌<◌, ◌≤◌, ◌+◌, ◌-◌, cond, nat_lt, get_or, length, length-append, length-set, take, slice_index, slice_index_or, slice_set}
use Rattle.std.specs.List.{slice_range}
use Rattle.std.specs.List.Sorted.{IsStrictlyIncreasing}
use Rattle.std.proofs.lemmas.Bool.{cases_eq, cases_lt, eq-eqb, ne_eqb, lt-ltb, le-ltb, and_left, and_from, not_from_false, false_from_ne_true, or_right}
use Rattle.std.proofs.lemmas.List.{get_or_append_left, get_or_past, get_or_push, get_or-set_other, get_or-set_same, get_or-take, length-take-le}
use Rattle.std.proofs.lemmas.List.Folds.{list_any_more}
use Rattle.std.proofs.lemmas.List.Kept.{AllPairs-from_increasing}
use Rattle.std.proofs.Math.Seq.{get_or-append_seam}
use Rattle.svc_graph.specs.Graphs.{row_of, is_in_row, is_listed}
use Rattle.svc_graph.specs.Marks.{is_marked, RowsBelow}
use Rattle.svc_graph.specs.Bits.{is_set}
use Rattle.svc_graph.specs.Counts.{count_below, those_below, those_of, total_below, AreSized}
use Rattle.svc_graph.specs.Ranks.{IsNeeded}
use Rattle.svc_graph.specs.WaitingData.{WaitingData}
use Rattle.svc_graph.specs.Waitings.{IsCounted, AreRows, dependents_at, dependents_of, is_dependent, rows_of_test, steps_of, edges_of}
use Rattle.svc_graph.proofs.Lists.{All-listed}
use Rattle.svc_graph.proofs.Counts.{one_at, none_at, count-same, count-zero, missing-less}
use Rattle.svc_graph.proofs.Orders.{edge_inside}
use Rattle.svc_graph.proofs.Bounds.{or_false}
use Rattle.svc_graph.proofs.Those.{listed-those, those-inside, those-all, those-rise, those-same, length-those, those_of-few, those_of-below, listed-bits, slice-grown, slice-last}

rows_len : (has : ℕ → ℕ → Bool) (n k : ℕ) → length (rows_of_test has n k) ≡ k
rows_len has n zero = refl
rows_len has n (suc k) =
    let rest = rows_len has n k in let size = length-append (rows_of_test has n k) (those_below (λ b. has b k) n ∷ []) in omega arith

row_at : (has : ℕ → ℕ → Bool) (n k a : ℕ) → a < k → row_of (rows_of_test has n k) a ≡ those_below (λ b. has b a) n
row_at has n zero a lt = absurd (omega arith)
row_at has n (suc k) a lt =
    let size = rows_len has n k in
    elim (cases_eq a k) [
      | inl e ↦ subst (λ i. row_of (rows_of_test has n (suc k)) i ≡ those_below (λ b. has b i) n) (sym e)
          (subst (λ i. get_or (rows_of_test has n (suc k)) i [] ≡ those_below (λ b. has b k) n) size
          (get_or-append_seam (rows_of_test has n k) (those_below (λ b. has b k) n) [] []))
      | inr ne ↦ get_or_append_left (rows_of_test has n k) (those_below (λ b. has b k) n ∷ []) [] a (omega arith) ∙ row_at has n k a (omega arith)
    ]

-- the test and the rows that contracts see tell the same edges between nodes
pub test-edges : (has : ℕ → ℕ → Bool) (n a b : ℕ) → is_in_row (rows_of_test has n n) a b ≡ (nat_lt a n && (nat_lt b n && has b a))
test-edges has n a b =
    elim (cases_lt a n) [
      | inl lt ↦ ap (λ row. is_listed row b) (row_at has n n a lt) ∙ listed-those (λ x. has x a) n b
          ∙ sym (ap (λ w. w && (nat_lt b n && has b a)) (lt-ltb a n lt))
      | inr le ↦ ap (λ row. is_listed row b) (get_or_past (rows_of_test has n n) a [] (let size = rows_len has n n in omega arith))
          ∙ sym (and_left (nat_lt a n) (nat_lt b n && has b a) (le-ltb a n le))
    ]

inside_both : (has : ℕ → ℕ → Bool) (n a b : ℕ) → a < n → b < n → is_in_row (rows_of_test has n n) a b ≡ has b a
inside_both has n a b lt below =
    test-edges has n a b ∙ ap (λ w. w && (nat_lt b n && has b a)) (lt-ltb a n lt) ∙ ap (λ w. w && has b a) (lt-ltb b n below)

-- rows that stand one behind the other, and one more
pub rows-none : (words : List ℕ) → AreRows words 0 [] (0 ∷ [])
rows-none words = record {
  offsets = refl;
  last = refl;
  few = omega arith;
  within = λ b lt. absurd (omega arith);
  rows = λ b lt. absurd (omega arith);
}

pub rows-next : (words : List ℕ) (n : ℕ) (flat starts : List ℕ) → AreRows words n flat starts
    → AreRows words (n + 1) (flat ++ those_of (is_set words n)) (starts ++ length (flat ++ those_of (is_set words n)) ∷ [])
rows-next words n flat starts was =
    record {
      offsets = (let sized = length-append starts (length more ∷ []) in let offsets = was.offsets in omega arith);
      last = read_last;
      few = (let few = was.few in let size = row_size in let long = long_is in omega arith);
      within = λ b lt. elim (cases_eq b n) [
        | inl here ↦ (let end = end_at b here in let begin = begin_at b here in let long = long_is in (omega arith, omega arith))
        | inr ne ↦ (let old = was.within b (omega arith) in let begin = kept b (omega arith) in let end = kept (b + 1) (omega arith) in
            let long = long_is in (omega arith, omega arith))
      ];
      rows = λ b lt. elim (cases_eq b n) [
        | inl here ↦ slice-last flat row (slice_index_or starts_now b 0) (slice_index_or starts_now (b + 1) 0) (begin_at b here)
            (end_at b here ∙ long_is) ∙ ap (λ x. those_of (is_set words x)) (sym here)
        | inr ne ↦ ap (λ i. slice_range more i (slice_index_or starts_now (b + 1) 0)) (kept b (omega arith))
            ∙ ap (λ j. slice_range more (slice_index_or starts b 0) j) (kept (b + 1) (omega arith))
            ∙ slice-grown flat row (slice_index_or starts b 0) (slice_index_or starts (b + 1) 0) (was.within b (omega arith)).0 (was.within b (omega arith)).1
            ∙ was.rows b (omega arith)
      ];
    }
  where
    row : List ℕ
    row = those_of (is_set words n)

    more : List ℕ
    more = flat ++ row

    starts_now : List ℕ
    starts_now = starts ++ length more ∷ []

    row_size : length row ≤ 1024
    row_size = those_of-few (is_set words n)

    long_is : length more ≡ length flat + length row
    long_is = length-append flat row

    kept : (b : ℕ) → b ≤ n → slice_index_or starts_now b 0 ≡ slice_index_or starts b 0
    kept b le = get_or_append_left starts (length more ∷ []) 0 b (let offsets = was.offsets in omega arith)

    read_last : slice_index_or starts_now (n + 1) 0 ≡ length more
    read_last = get_or_push starts (length more) 0 (n + 1) was.offsets

    begin_at : (b : ℕ) → b ≡ n → slice_index_or starts_now b 0 ≡ length flat
    begin_at b here = kept b (omega arith) ∙ ap (λ x. slice_index_or starts x 0) here ∙ was.last

    end_at : (b : ℕ) → b ≡ n → slice_index_or starts_now (b + 1) 0 ≡ length more
    end_at b here = ap (λ x. slice_index_or starts_now (x + 1) 0) here ∙ read_last

-- the bits of a row are listed in it
dependent_set : (words : List ℕ) (n : ℕ) (flat starts : List ℕ) → AreRows words n flat starts → (b a : ℕ) → b < n
    → is_dependent flat starts b a ≡ is_set words b a
dependent_set words n flat starts are b a lt = ap (λ row. is_listed row a) (are.rows b lt) ∙ listed-bits words b a

-- with no node marked, each node waits for as many as its row has
module _ (rows : List (List ℕ)) (counts words flat starts : List ℕ) (marks : List Bool) (n : ℕ) (few : n ≤ 1024) (marks_len : length marks ≡ n)
    (are : AreRows words n flat starts) (needed : IsNeeded n (is_in_row rows) words) (sized : length rows ≡ n) (below : RowsBelow n rows) where
  dependent_edge : (b a : ℕ) → b < n → is_dependent flat starts b a ≡ is_in_row rows a b
  dependent_edge b a lt = dependent_set words n flat starts are b a lt ∙ needed.edges a b

  none_above : (b a : ℕ) → b < n → n ≤ a → is_dependent flat starts b a ≡ false
  none_above b a lt le = dependent_edge b a lt ∙ false_from_ne_true (is_in_row rows a b) (λ e. (let inside = edge_inside rows a b e in omega arith))

  -- the edges are those of the graph
  pub new-edges : (a b : ℕ) → is_in_row (rows_of_test (is_dependent flat starts) n n) a b ≡ is_in_row rows a b
  new-edges a b =
      test-edges (is_dependent flat starts) n a b ∙ elim (cases_lt a n) [
        | inl lt ↦ ap (λ w. w && (nat_lt b n && is_dependent flat starts b a)) (lt-ltb a n lt) ∙ elim (cases_lt b n) [
          | inl under ↦ ap (λ w. w && is_dependent flat starts b a) (lt-ltb b n under) ∙ dependent_edge b a under
          | inr le ↦ and_left (nat_lt b n) (is_dependent flat starts b a) (le-ltb b n le)
              ∙ sym (false_from_ne_true (is_in_row rows a b) (λ e. (let inside = All-listed (λ x. x < n) (row_of rows a) b (below a) e in omega arith)))
        ]
        | inr le ↦ and_left (nat_lt a n) (nat_lt b n && is_dependent flat starts b a) (le-ltb a n le)
            ∙ sym (false_from_ne_true (is_in_row rows a b) (λ e. (let inside = edge_inside rows a b e in omega arith)))
      ]

  pub counted-none : length counts ≡ n → ((a : ℕ) → slice_index_or counts a 0 ≡ length (row_of rows a)) → AreSized rows
      → ((a : ℕ) → is_marked marks a ≡ false)
      → IsCounted counts flat starts marks
  counted-none counts_len read unique free = record {
    few = omega arith;
    sized = omega arith;
    offsets = are.offsets ∙ ap (λ m. m + 1) (sym marks_len);
    within = λ b lt. are.within b (omega arith);
    rows = λ b lt. are.rows b (omega arith)
        ∙ those_of-below (is_set words b) (length marks) (omega arith)
        (λ a le. sym (dependent_set words n flat starts are b a (omega arith)) ∙ none_above b a (omega arith) (omega arith))
        ∙ those-same (is_set words b) (is_dependent flat starts b) (length marks) (λ a _. sym (dependent_set words n flat starts are b a (omega arith)));
    counted = λ a lt. read a ∙ unique a ∙ ap (λ m. count_below (λ b. is_in_row rows a b) m) (sized ∙ sym marks_len)
        ∙ count-same (λ b. is_in_row rows a b) (λ b. is_dependent flat starts b a && not (is_marked marks b)) (length marks)
        (λ b under. sym (dependent_edge b a (omega arith)) ∙ unmarked (is_dependent flat starts b a) (is_marked marks b) (free b));
  }
    where
      unmarked : (u w : Bool) → w ≡ false → u ≡ (u && not w)
      unmarked u w e = grind arith

module _ (counts flat starts : List ℕ) (marks : List Bool) (was : IsCounted counts flat starts marks) (s : ℕ) (lt : s < length marks) where
  -- the dependents of a node
  pub counted-rise : IsStrictlyIncreasing (dependents_at flat starts s)
  counted-rise = subst IsStrictlyIncreasing (sym (was.rows s lt)) (those-rise (is_dependent flat starts s) (length marks))

  pub counted-inside : All (λ a. a < length marks) (dependents_at flat starts s)
  counted-inside = subst (All (λ a. a < length marks)) (sym (was.rows s lt)) (those-all (is_dependent flat starts s) (length marks))

  dependent_inside : (a : ℕ) → is_dependent flat starts s a ≡ true → a < length marks
  dependent_inside a e = those-inside (is_dependent flat starts s) (length marks) a (sym (ap (λ row. is_listed row a) (was.rows s lt)) ∙ e)

  pub counted-listed : (a : ℕ) → is_listed (dependents_at flat starts s) a ≡ is_in_row (rows_of_test (is_dependent flat starts) (length marks)
      (length marks)) a s
  counted-listed a = elim (cases_lt a (length marks)) [
    | inl under ↦ sym (inside_both (is_dependent flat starts) (length marks) a s under lt)
    | inr le ↦ false_from_ne_true (is_dependent flat starts s a) (λ e. (let under = dependent_inside a e in omega arith))
        ∙ sym (test-edges (is_dependent flat starts) (length marks) a s
        ∙ and_left (nat_lt a (length marks)) (nat_lt s (length marks) && is_dependent flat starts s a) (le-ltb a (length marks) le))
  ]

  -- as many steps as depend on it
  pub counted-steps : length (dependents_at flat starts s)
      ≡ count_below (λ a. is_in_row (rows_of_test (is_dependent flat starts) (length marks) (length marks)) a s) (length marks)
  counted-steps =
      ap (λ row. length row) (was.rows s lt) ∙ length-those (is_dependent flat starts s) (length marks)
      ∙ count-same (is_dependent flat starts s) (λ a. is_in_row (rows_of_test (is_dependent flat starts) (length marks) (length marks)) a s) (length marks)
      (λ a under. sym (inside_both (is_dependent flat starts) (length marks) a s under lt))

  module _ (free : is_marked marks s ≡ false) where
    -- something is missing of each node that waits for one without a mark
    pub counted-some : (a : ℕ) → is_listed (dependents_at flat starts s) a ≡ true → (a < length counts) × (0 < slice_index_or counts a 0)
    counted-some a e =
        let below = dependent_inside a e in
        let size = was.sized in (
          omega arith,
          elim (cases_eq (slice_index_or counts a 0) 0) [
            | inl none ↦
                absurd (let clear = count-zero (λ b. is_dependent flat starts b a && not (is_marked marks b)) (length marks)
                (sym (was.counted a below) ∙ none) s lt in
                let there = and_from (is_dependent flat starts s a) (not (is_marked marks s)) e (not_from_false (is_marked marks s) free) in cc)
            | inr some ↦ omega arith
          ],
        )

    -- one mark more
    pub counted-mark : (counts_now : List ℕ) → length counts_now ≡ length counts
        → ((a : ℕ) → slice_index_or counts_now a 0 + cond (is_listed (dependents_at flat starts s) a) 1 0 ≡ slice_index_or counts a 0)
        → IsCounted counts_now flat starts (slice_set marks s true)
    counted-mark counts_now same_len lowered =
        let size = length-set marks s true in
        record {
          few = (let few = was.few in omega arith);
          sized = (let sized = was.sized in omega arith);
          offsets = (let offsets = was.offsets in omega arith);
          within = λ b under. was.within b (omega arith);
          rows = λ b under. was.rows b (omega arith) ∙ ap (λ m. those_below (is_dependent flat starts b) m) (sym size);
          counted = λ a below. (
              let before = was.counted a (omega arith) in
              let one = lowered a in
              let less = missing-less (λ b. is_dependent flat starts b a) (is_marked marks) (is_marked (slice_set marks s true)) s (length marks) lt free
              (get_or-set_same marks s true false lt)
              (λ b ne. get_or-set_other marks s b true false ne) in
              let here : slice_index_or counts_now a 0
              ≡ count_below (λ b. is_dependent flat starts b a && not (is_marked (slice_set marks s true) b)) (length marks) =
              omega arith in
              here ∙ ap (λ m. count_below (λ b. is_dependent flat starts b a && not (is_marked (slice_set marks s true) b)) m) (sym size));
        }

-- what is missing of a node, by the rows that contracts see
pub missing-seen : (counts flat starts : List ℕ) (marks : List Bool) → IsCounted counts flat starts marks → (a : ℕ) → a < length marks
    → slice_index_or counts a 0
    ≡ count_below (λ b. is_in_row (rows_of_test (is_dependent flat starts) (length marks) (length marks)) a b && not (is_marked marks b)) (length marks)
missing-seen counts flat starts marks was a lt =
    was.counted a lt
    ∙ count-same (λ b. is_dependent flat starts b a && not (is_marked marks b))
    (λ b. is_in_row (rows_of_test (is_dependent flat starts) (length marks) (length marks)) a b && not (is_marked marks b))
    (length marks) (λ b under. ap (λ w. w && not (is_marked marks b)) (sym (inside_both (is_dependent flat starts) (length marks) a b lt under)))

-- the next node of an ascending list isn't among those before it
pub rising-fresh : (row : List ℕ) (i : ℕ) → IsStrictlyIncreasing row → i < length row → is_listed (take i row) (slice_index row i) ≡ false
rising-fresh row i rises lt =
    false_from_ne_true (is_listed (take i row) (slice_index row i))
    (λ e. (let same = All-listed (λ x. x < slice_index row i) (take i row) (slice_index row i) below e in omega arith))
  where
    below : All (λ x. x < slice_index row i) (take i row)
    below k d under =
        let size = length-take-le i row (omega arith) in
        let read = get_or-take i row k d (omega arith) in
        let default : get_or row k d ≡ get_or row k 0 = read_any row k d 0 (omega arith) in
        let pair : get_or row k 0 < get_or row i 0 = AllPairs-from_increasing row rises k i 0 (omega arith) lt in
        omega arith
      where
        read_any : (xs : List ℕ) (k d e : ℕ) → k < length xs → get_or xs k d ≡ get_or xs k e
        read_any [] k d e lt = absurd (omega arith)
        read_any (x ∷ xs) zero d e lt = refl
        read_any (x ∷ xs) (suc k) d e lt = read_any xs k d e (omega arith)

-- it is lowered
pub lowered-next : (old counts row : List ℕ) (i : ℕ) → IsStrictlyIncreasing row → i < length row → slice_index row i < length counts
    → ((a : ℕ) → slice_index_or counts a 0 + cond (is_listed (take i row) a) 1 0 ≡ slice_index_or old a 0) → 0 < slice_index_or old (slice_index row i) 0
    → (a : ℕ) → slice_index_or (slice_set counts (slice_index row i) (slice_index_or counts (slice_index row i) 0 - 1)) a 0
    + cond (is_listed (take (i + 1) row) a) 1 0
    ≡ slice_index_or old a 0
lowered-next old counts row i rises lt room was some a =
    let d = slice_index row i in
    let more : is_listed (take (i + 1) row) a ≡ (is_listed (take i row) a || d == a) = list_any_more (λ x. x == a) row i 0 lt in
    elim (cases_eq a d) [
      | inl e ↦ (let there = get_or-set_same counts d (slice_index_or counts d 0 - 1) 0 room in
          let read : slice_index_or (slice_set counts d (slice_index_or counts d 0 - 1)) a 0 ≡ slice_index_or counts d 0 - 1 =
          ap (λ x. slice_index_or (slice_set counts d (slice_index_or counts d 0 - 1)) x 0) e ∙ there in
          let before = was d in
          let zero_then = none_at (is_listed (take i row) d) (rising-fresh row i rises lt) in
          let one_now = one_at (is_listed (take (i + 1) row) a) (more ∙ or_right (is_listed (take i row) a) (d == a) (eq-eqb d a (sym e))) in
          let same : slice_index_or old a 0 ≡ slice_index_or old d 0 = ap (λ x. slice_index_or old x 0) e in
          omega arith)
      | inr ne ↦ (let there = get_or-set_other counts d a (slice_index_or counts d 0 - 1) 0 ne in
          let same : ◌≡◌ {A = ℕ} (cond (is_listed (take (i + 1) row) a) 1 0) (cond (is_listed (take i row) a) 1 0) =
          ap (λ w. cond w 1 0) (more ∙ or_false (is_listed (take i row) a) (d == a) (ne_eqb d a (λ e. ne (sym e)))) in
          let before = was a in omega arith)
    ]

-- no mark in a list of none
pub replicate-free : (n a : ℕ) → is_marked (replicate n false) a ≡ false
replicate-free zero a = refl
replicate-free (suc n) zero = refl
replicate-free (suc n) (suc a) = replicate-free n a

total-none : (f : ℕ → ℕ) (n : ℕ) → ((a : ℕ) → f a ≡ 0) → total_below f n ≡ 0
total-none f zero none = refl
total-none f (suc n) none = let here = none n in let rest = total-none f n none in omega arith

-- sums: a part is no more than the whole, and one part more adds what it is given
pub total-le : (f g : ℕ → ℕ) (n : ℕ) → ((a : ℕ) → a < n → f a ≤ g a) → total_below f n ≤ total_below g n
total-le f g zero le = omega arith
total-le f g (suc n) le = let here = le n (omega arith) in let rest = total-le f g n (λ a lt. le a (omega arith)) in omega arith

total-same : (f g : ℕ → ℕ) (n : ℕ) → ((a : ℕ) → a < n → f a ≡ g a) → total_below f n ≡ total_below g n
total-same f g zero same = refl
total-same f g (suc n) same = let here = same n (omega arith) in let rest = total-same f g n (λ a lt. same a (omega arith)) in omega arith

total-more : (f g : ℕ → ℕ) (x n : ℕ) → x < n → f x ≡ 0 → ((a : ℕ) → a ≢ x → g a ≡ f a) → total_below g n ≡ total_below f n + g x
total-more f g x zero lt none same = absurd (omega arith)
total-more f g x (suc n) lt none same =
    elim (cases_eq x n) [
      | inl e ↦ (let rest = total-same g f n (λ a below. same a (λ is. absurd (omega arith))) in
          let here : g n ≡ g x = ap g (sym e) in let was : f n ≡ 0 = ap f (sym e) ∙ none in omega arith)
      | inr ne ↦ (let here = same n (λ is. ne (sym is)) in let rest = total-more f g x n (omega arith) none same in omega arith)
    ]

-- the steps of all marks are at most the edges
pub steps-most : (w : WaitingData) → steps_of w ≤ edges_of w
steps-most w = total-le (λ s. cond (is_marked w.marks s) (dependents_of w s) 0) (dependents_of w) (length w.marks)
    (λ s _. at_most (is_marked w.marks s) (dependents_of w s))
  where
    at_most : (b : Bool) (m : ℕ) → cond b m 0 ≤ m
    at_most true m = omega arith
    at_most false m = omega arith

pub steps-none : (w : WaitingData) → ((s : ℕ) → is_marked w.marks s ≡ false) → steps_of w ≡ 0
steps-none w free = total-none (λ s. cond (is_marked w.marks s) (dependents_of w s) 0) (length w.marks)
    (λ s. ap (λ b. cond b (dependents_of w s) 0) (free s))

-- and each mark's are counted in them
pub steps-mark : (w v : WaitingData) (s : ℕ) → s < length w.marks → is_marked w.marks s ≡ false → v.depends ≡ w.depends
    → v.marks ≡ slice_set w.marks s true → (steps_of v ≡ steps_of w + dependents_of w s) × (edges_of v ≡ edges_of w)
steps-mark w v s lt free depends marks = (
  ap (λ n. total_below (λ t. cond (is_marked v.marks t) (dependents_of v t) 0) n) size
      ∙ total-more (λ t. cond (is_marked w.marks t) (dependents_of w t) 0) (λ t. cond (is_marked v.marks t) (dependents_of v t) 0) s (length w.marks) lt
      (ap (λ b. cond b (dependents_of w s) 0) free)
      (λ t ne. ap (λ b. cond b (dependents_of v t) 0) (ap (λ m. is_marked m t) marks ∙ get_or-set_other w.marks s t true false ne)
      ∙ ap (λ m. cond (is_marked w.marks t) m 0) (same t))
      ∙ ap (λ m. steps_of w + m)
      (ap (λ b. cond b (dependents_of v s) 0) (ap (λ m. is_marked m s) marks ∙ get_or-set_same w.marks s true false lt) ∙ same s),
  ap (λ n. total_below (dependents_of v) n) size ∙ total-same (dependents_of v) (dependents_of w) (length w.marks) (λ t _. same t),
)
  where
    size : length v.marks ≡ length w.marks
    size = ap (λ m. length m) marks ∙ length-set w.marks s true

    same : (t : ℕ) → dependents_of v t ≡ dependents_of w t
    same t = ap (λ rows. count_below (λ a. is_in_row rows a t) (length v.marks)) depends ∙ ap (λ n. count_below (λ a. is_in_row w.depends a t) n) size
