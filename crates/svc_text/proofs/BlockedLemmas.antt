-- The numbers of blocked addresses.
use Rattle.std.proofs.Common.{ℕ, List, ◌≡◌, true, false, ◌==◌, ◌<◌, ◌≤◌, inl, inr, sym, ap, ◌∙◌, arith, length, take, get_or, Ok, Err}
use Rattle.std.specs.List.{list_any}
use Rattle.std.specs.List.Sorted.{IsPermutation, IsNonDecreasing, IsBinarySearchResult}
use Rattle.std.specs.Ordering.{nat_cmp}
use Rattle.std.proofs.lemmas.Bool.{eq-eqb, ne_eqb, cases_lt}
use Rattle.std.proofs.lemmas.Grind.{get_or_default_zero}
use Rattle.std.proofs.lemmas.List.{take_all}
use Rattle.std.proofs.lemmas.List.Folds.{list_any_at, list_any_none}
use Rattle.std.proofs.lemmas.List.Sorted.{list_any-IsPermutation, searched}
use Rattle.svc_base.specs.NumberSets.{is_in}
use Rattle.svc_socket.specs.declared.peer.PeerAddr.{PeerAddr}
use Rattle.svc_socket.specs.declared.reading.IpNumber.{IpNumber}
use Rattle.svc_text.specs.Filters.{is_at}

-- the same numbers in another order, once all addresses are gone through
pub reordered : (peer : PeerAddr) (n : ℕ) (blocked : List IpNumber) (i : ℕ) (numbers others : List ℕ) → length blocked ≤ i → IsPermutation numbers others
    → is_in n numbers ≡ list_any (is_at peer) (take i blocked) → is_in n others ≡ list_any (is_at peer) blocked
reordered peer n blocked i numbers others past moved before =
    sym (list_any-IsPermutation (λ k. k == n) numbers others moved) ∙ before ∙ ap (list_any (is_at peer)) (take_all i blocked past)

-- a search over numbers that rise
module _ (xs : List ℕ) (n : ℕ) (rising : IsNonDecreasing xs) where
  pub found : (k : ℕ) → IsBinarySearchResult (λ y. nat_cmp y n) xs (Ok k) → is_in n xs ≡ true
  found k result =
      let at = searched xs n (Ok k) result (λ i j le lt. rising i j 0 le lt) in
      list_any_at (λ m. m == n) xs k 0 at.0 (eq-eqb (get_or xs k 0) n at.1)

  between : (k : ℕ) → IsBinarySearchResult (λ y. nat_cmp y n) xs (Err k)
      → (k ≤ length xs) × ((j : ℕ) → j < k → get_or xs j 0 < n) × ((j : ℕ) → k ≤ j → j < length xs → n < get_or xs j 0)
  between k result = searched xs n (Err k) result (λ i j le lt. rising i j 0 le lt)

  pub not-found : (k : ℕ) → IsBinarySearchResult (λ y. nat_cmp y n) xs (Err k) → is_in n xs ≡ false
  not-found k result =
      let at = between k result in
      list_any_none (λ m. m == n) xs (λ j d lt. ne_eqb (get_or xs j d) n (λ e. (
      let here : get_or xs j 0 ≡ n = sym (get_or_default_zero xs j d lt) ∙ e in
      elim (cases_lt j k) [
        | inl less ↦ (let below = at.1 j less in absurd (omega arith))
        | inr more ↦ (let above = at.2 j (omega arith) lt in absurd (omega arith))
      ])))
