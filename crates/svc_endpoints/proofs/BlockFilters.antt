-- Blocks of which one after the other is filtered.
use Rattle.std.proofs.Common.{ℕ, suc, Bool, List, [], ◌∷◌, ◌++◌, length-set, filter, take, drop, set, ◌≡◌, ap, sym, ◌∙◌, arith, ◌<◌, ◌≤◌, ◌+◌, length, get_or, get_or-drop, add-zero, Vec}
use Rattle.std.specs.Vec.{vec_items}
use Rattle.std.proofs.lemmas.List.{append-nil, take_more_set, drop-set-lt, drop-drop, take_all}
use Rattle.std.proofs.lemmas.List.Concat.{flat_map-append}
use Rattle.std.proofs.lemmas.List.Elements.{filter-append}
use Rattle.svc_base.specs.Blocks.{joined}
use Rattle.svc_base.proofs.BlockLemmas.{joined-front}

-- of the first k blocks those entries are left that pass the test
pub record FilteredBlocks {T Z : Type 0} (f : T → Bool) (bs here_bs : List (Vec T Z)) (k : ℕ) : Type 0 where
  pub left : joined (take k here_bs) ≡ filter f (joined (take k bs))
  pub rest : drop k here_bs ≡ drop k bs
  pub same : length here_bs ≡ length bs

module _ {T Z : Type 0} (f : T → Bool) (bs here_bs : List (Vec T Z)) (k : ℕ) where
  module _ (b : Vec T Z) (lt : k < length here_bs) (is : b ≡ get_or here_bs k b) (was : FilteredBlocks f bs here_bs k) where
    pub first-block : b ≡ get_or bs k b
    first-block =
        let at : (vs : List (Vec T Z)) → get_or vs k b ≡ get_or (drop k vs) 0 b = λ vs. ap (λ n. get_or vs n b) (sym (add-zero k))
        ∙ sym (get_or-drop k vs 0 b) in
        is ∙ at here_bs ∙ ap (λ vs. get_or vs 0 b) was.rest ∙ sym (at bs)

    pub inside-block : k < length bs
    inside-block = let same = was.same in omega arith

    pub filtered-next : (v : Vec T Z) → v.items ≡ filter f b.items → FilteredBlocks f bs (set here_bs k v) (k + 1)
    filtered-next v items =
        let one : suc k ≡ k + 1 = omega arith in
        record {
          left = ap joined (take_more_set here_bs k v lt) ∙ flat_map-append vec_items (take k here_bs) (v ∷ [])
              ∙ ap (λ (xs : List T). joined (take k here_bs) ++ xs) (append-nil v.items)
              ∙ ap (λ (xs : List T). xs ++ v.items) was.left ∙ ap (λ (xs : List T). filter f (joined (take k bs)) ++ xs) items
              ∙ sym (ap (filter f) (joined-front bs k b inside-block first-block) ∙ filter-append f (joined (take k bs)) b.items);
          rest = drop-set-lt (k + 1) here_bs k v (omega arith) ∙ next_rest one;
          same = length-set here_bs k v ∙ was.same;
        }
      where
        next_rest : suc k ≡ k + 1 → drop (k + 1) here_bs ≡ drop (k + 1) bs
        next_rest one = sym (drop-drop 1 k here_bs) ∙ ap (λ (vs : List (Vec T Z)). drop 1 vs) was.rest ∙ drop-drop 1 k bs

  -- after the last block
  pub filtered-end : FilteredBlocks f bs here_bs k → length bs ≤ k → joined here_bs ≡ filter f (joined bs)
  filtered-end was end =
      sym (ap joined (take_all k here_bs (let same = was.same in omega arith))) ∙ was.left
      ∙ ap (λ (vs : List (Vec T Z)). filter f (joined vs)) (take_all k bs end)
