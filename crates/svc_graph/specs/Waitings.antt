-- Which nodes wait for which, and how many of their dependencies aren't marked.
use Rattle.std.specs.Prelude.{ℕ, zero, suc, Bool, not, ◌≡◌, ◌&&◌, ◌+◌, ◌*◌, ◌<◌, ◌≤◌, List, [], ◌∷◌, ◌++◌, cond, length, slice_index_or, slice_range}
use Rattle.svc_graph.specs.Graphs.{is_in_row, is_listed}
use Rattle.svc_graph.specs.Marks.{is_marked}
use Rattle.svc_graph.specs.Bits.{is_set}
use Rattle.svc_graph.specs.Counts.{count_below, those_below, those_of, total_below}
use Rattle.svc_graph.specs.WaitingData.{WaitingData}

-- a depends on b
abbrev pub waits_for : WaitingData → ℕ → ℕ → Bool
waits_for w a b = is_in_row w.depends a b

-- how many of the nodes that a depends on aren't marked
abbrev pub missing_of : WaitingData → ℕ → ℕ
missing_of w a = count_below (λ b. waits_for w a b && not (is_marked w.marks b)) (length w.marks)

-- how many nodes depend on s
abbrev pub dependents_of : WaitingData → ℕ → ℕ
dependents_of w s = count_below (λ a. waits_for w a s) (length w.marks)

-- the nodes that stand in the list for node b, from where its own begin up to where the next one's do
abbrev pub dependents_at : List ℕ → List ℕ → ℕ → List ℕ
dependents_at flat starts b = slice_range flat (slice_index_or starts b 0) (slice_index_or starts (b + 1) 0)

-- a is among them
abbrev pub is_dependent : List ℕ → List ℕ → ℕ → ℕ → Bool
is_dependent flat starts b a = is_listed (dependents_at flat starts b) a

-- the rows of the first k of n nodes, where the test says of each b which nodes depend on it
abbrev pub rows_of_test : (ℕ → ℕ → Bool) → ℕ → ℕ → List (List ℕ)
rows_of_test has n zero = []
rows_of_test has n (suc k) = rows_of_test has n k ++ those_below (λ b. has b k) n ∷ []

-- the rows of the first n nodes stand one behind the other, each with the nodes whose bits its row of words has
pub record AreRows (words : List ℕ) (n : ℕ) (flat starts : List ℕ) : Type 0 where
  pub offsets : length starts ≡ n + 1
  pub last : slice_index_or starts n 0 ≡ length flat
  pub few : length flat ≤ 1024 * n
  pub within : (b : ℕ) → b < n → (slice_index_or starts b 0 ≤ slice_index_or starts (b + 1) 0) × (slice_index_or starts (b + 1) 0 ≤ length flat)
  pub rows : (b : ℕ) → b < n → dependents_at flat starts b ≡ those_of (is_set words b)

-- what the fields keep: each node's dependents stand in ascending order, behind those of the node before it
pub record IsCounted (counts flat starts : List ℕ) (marks : List Bool) : Type 0 where
  pub few : length marks ≤ 1024
  pub sized : length counts ≡ length marks
  pub offsets : length starts ≡ length marks + 1
  pub within : (b : ℕ) → b < length marks → (slice_index_or starts b 0 ≤ slice_index_or starts (b + 1) 0) × (slice_index_or starts (b + 1) 0 ≤ length flat)
  pub rows : (b : ℕ) → b < length marks → dependents_at flat starts b ≡ those_below (is_dependent flat starts b) (length marks)
  pub counted : (a : ℕ) → a < length marks
      → slice_index_or counts a 0 ≡ count_below (λ b. is_dependent flat starts b a && not (is_marked marks b)) (length marks)

-- how many steps the marks have taken: for each node that is marked one for each node that depends on it
abbrev pub steps_of : WaitingData → ℕ
steps_of w = total_below (λ s. cond (is_marked w.marks s) (dependents_of w s) 0) (length w.marks)

-- how many edges there are: for each node one to each node that depends on it
abbrev pub edges_of : WaitingData → ℕ
edges_of w = total_below (dependents_of w) (length w.marks)
