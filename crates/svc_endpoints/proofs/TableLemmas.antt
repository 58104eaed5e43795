-- The table of open descriptors, walked from its front.
use Rattle.std.proofs.Common.{ℕ, suc, Bool, true, false, not, inl, inr, ◌==◌, ◌||◌, List, [], ◌∷◌, ◌++◌, append_assoc, length-append, length-set, map, filter, take, drop, set, drop-cons, ◌≡◌, refl, ap, sym, ◌∙◌, subst, arith, ◌<◌, ◌≤◌, ◌+◌, length, nat_lt, Some, Option, is_some, get_or, get_or-drop, add-zero, Vec}
use Rattle.svc_endpoints.specs.declared.table.Open.{Open}
use Rattle.std.proofs.lemmas.Bool.{cases_Bool, eq-eqb, eqb-true, or_parts}
use Rattle.std.specs.List.{SwappedAt}
use Rattle.std.specs.Vec.{vec_items}
use Rattle.std.proofs.lemmas.List.{append-nil, take_more, take_more_set, map-append, drop-set-lt, drop-drop, take_all}
use Rattle.std.proofs.lemmas.List.Concat.{flat_map-append}
use Rattle.std.proofs.lemmas.List.Folds.{length-flat_map-take}
use Rattle.std.proofs.lemmas.List.Elements.{filter-append}
use Rattle.std.proofs.lemmas.List.Filters.{FiltersInPlace, FiltersInPlace-more_no, FiltersInPlace-more_swap}
use Rattle.svc_base.specs.Blocks.{joined, put_by, has_key, StandsIn}
use Rattle.svc_base.specs.Items.{list_of, spare}
use Rattle.svc_base.specs.NumberSets.{put_number, is_in}
use Rattle.svc_base.proofs.BlockLemmas.{joined-front, joined-back}
use Rattle.svc_record.specs.declared.action.Action.{Action}
use Rattle.svc_record.specs.declared.action.Action.TheVariants.{Close}
use Rattle.svc_record.specs.Plans.{same_address}
use Rattle.svc_endpoints.specs.EndpointsState.{numbers_with, numbers_of_table}
use Rattle.svc_endpoints.specs.Effects.{first_of, put_open, numbers_like}
use Rattle.svc_endpoints.proofs.RestLemmas.{picked, unpicked, picked-length}

front : (table : List Open) (k : ℕ) (x : Open) → k < length table → x ≡ get_or table k x → drop k table ≡ x ∷ drop (k + 1) table
front table k x lt e =
    let one : suc k ≡ k + 1 = omega arith in drop-cons table k x lt ∙ ap (λ y. y ∷ drop (suc k) table) (sym e) ∙ ap (λ n. x ∷ drop n table) one

pub numbers-at : (table : List Open) (k : ℕ) (x : Open) (a : List ℕ) → k < length table → x ≡ get_or table k x → same_address x.address (Some a) ≡ true
    → numbers_with (drop k table) (Some a) ≡ x.fd ∷ numbers_with (drop (k + 1) table) (Some a)
numbers-at table k x a lt e same = ap (λ w. numbers_with w (Some a)) (front table k x lt e) ∙ (rw same refl)

pub numbers-past : (table : List Open) (k : ℕ) (x : Open) (a : List ℕ) → k < length table → x ≡ get_or table k x → same_address x.address (Some a) ≡ false
    → numbers_with (drop k table) (Some a) ≡ numbers_with (drop (k + 1) table) (Some a)
numbers-past table k x a lt e same = ap (λ w. numbers_with w (Some a)) (front table k x lt e) ∙ (rw same refl)

-- the numbers of a table with one more descriptor
pub numbers_of-put : (o : Open) (table : List Open) → numbers_of_table (put_open o table) ≡ put_number o.fd (numbers_of_table table)
numbers_of-put o [] = refl
numbers_of-put o (x ∷ more) = elim (cases_Bool (nat_lt o.fd x.fd)) [
  | inl below ↦ rw below refl
  | inr above ↦ rw above (ap (λ w. x.fd ∷ w) (numbers_of-put o more))
]

pub has-numbers : (c : ℕ) (table : List Open) → has_key (λ (o : Open). o.fd) c table ≡ is_in c (numbers_of_table table)
has-numbers c [] = refl
has-numbers c (x ∷ more) = ap (λ b. (x.fd == c) || b) (has-numbers c more)

-- the same as one more entry in ascending key
pub put-open : (o : Open) (table : List Open) → put_by (λ (o : Open). o.fd) o table ≡ put_open o table
put-open o [] = refl
put-open o (x ∷ more) = elim (cases_Bool (nat_lt o.fd x.fd)) [
  | inl below ↦ rw below refl
  | inr above ↦ rw above (ap (λ xs. x ∷ xs) (put-open o more))
]

-- what goes of one more of them
module _ (done : Open → Bool) (table : List Open) (k : ℕ) (x : Open) (lt : k < length table) (is : x ≡ get_or table k x) where
  picked_next : picked done (take (k + 1) table) ≡ picked done (take k table) ++ numbers_of_table (filter done (x ∷ []))
  picked_next = ap (picked done) (take_more table k x lt ∙ ap (λ y. take k table ++ y ∷ []) (sym is))
      ∙ ap numbers_of_table (filter-append done (take k table) (x ∷ []))
      ∙ map-append (λ (o : Open). o.fd) (filter done (take k table)) (filter done (x ∷ []))

  pub picked-here : done x ≡ true → picked done (take (k + 1) table) ≡ picked done (take k table) ++ x.fd ∷ []
  picked-here h = picked_next ∙ (rw h refl)

  pub picked-past : done x ≡ false → picked done (take (k + 1) table) ≡ picked done (take k table)
  picked-past h = picked_next ∙ (rw h (append-nil (picked done (take k table))))

-- of the first k descriptors those that pass the test are closed
pub record ClosedUpTo (done : Open → Bool) (table : List Open) (start here : List Action × ℕ) (k : ℕ) : Type 0 where
  pub few : length (picked done (take k table)) ≤ k
  pub room : spare start ≤ spare here + length (picked done (take k table))
  pub told : list_of here ≡ list_of start ++ map Close (picked done (take k table))

module _ (done : Open → Bool) (table : List Open) (k : ℕ) (x : Open) (lt : k < length table) (is : x ≡ get_or table k x) (start here : List Action × ℕ)
    (was : ClosedUpTo done table start here k) where
  pub closes-past : done x ≡ false → ClosedUpTo done table start here (k + 1)
  closes-past h = let same = picked-past done table k x lt is h in record {
    few = rw same (let few = was.few in omega arith);
    room = rw same was.room;
    told = rw same was.told;
  }

  pub closes-here : (next : List Action × ℕ) → done x ≡ true → list_of next ≡ list_of here ++ Close x.fd ∷ [] → spare here ≤ spare next + 1
      → ClosedUpTo done table start next (k + 1)
  closes-here next h told room =
      let more = picked-here done table k x lt is h in
      let longer : length (picked done (take (k + 1) table)) ≡ length (picked done (take k table)) + 1 =
      ap length more ∙ length-append (picked done (take k table)) (x.fd ∷ []) in
      record {
        few = let few = was.few in omega (arith, longer);
        room = let before = was.room in omega (arith, longer);
        told = told ∙ ap (λ w. w ++ Close x.fd ∷ []) was.told ∙ append_assoc (list_of start) (map Close (picked done (take k table))) (Close x.fd ∷ [])
            ∙ ap (λ w. list_of start ++ w) (sym (ap (map Close) more ∙ map-append Close (picked done (take k table)) (x.fd ∷ [])));
      }

-- of the first k descriptors those that pass the test are closed, and the others stand at the front, so many
pub record ClearedUpTo (done : Open → Bool) (table here_table : List Open) (start here : List Action × ℕ) (left k : ℕ) : Type 0 where
  pub closes : ClosedUpTo done table start here k
  pub keeps : FiltersInPlace (λ (o : Open). not (done o)) table here_table left k

module _ (done : Open → Bool) (table here_table : List Open) (left k : ℕ) (x : Open) (lt : k < length here_table) (is : x ≡ get_or here_table k x)
    (start here : List Action × ℕ)
    (was : ClearedUpTo done table here_table start here left k) where
  pub at-first : x ≡ get_or table k x
  at-first =
      let at : (xs : List Open) → get_or xs k x ≡ get_or (drop k xs) 0 x = λ xs. ap (λ n. get_or xs n x) (sym (add-zero k)) ∙ sym (get_or-drop k xs 0 x) in
      is ∙ at here_table ∙ ap (λ xs. get_or xs 0 x) was.keeps.rest ∙ sym (at table)

  pub at-inside : k < length table
  at-inside = let long = was.keeps.long in omega arith

  pub clears-here : (next : List Action × ℕ) → done x ≡ true → list_of next ≡ list_of here ++ Close x.fd ∷ [] → spare here ≤ spare next + 1
      → ClearedUpTo done table here_table start next left (k + 1)
  clears-here next h told room = record {
    closes = closes-here done table k x at-inside at-first start here was.closes next h told room;
    keeps = FiltersInPlace-more_no was.keeps lt (ap not h) is;
  }

  pub clears-past : (next_table : List Open) → done x ≡ false → SwappedAt here_table next_table left k
      → ClearedUpTo done table next_table start here (left + 1) (k + 1)
  clears-past next_table h swapped = record {
    closes = closes-past done table k x at-inside at-first start here was.closes h;
    keeps = FiltersInPlace-more_swap was.keeps lt (ap not h) is swapped;
  }

-- what is picked of two lists
picked-append : (done : Open → Bool) (xs ys : List Open) → picked done (xs ++ ys) ≡ picked done xs ++ picked done ys
picked-append done xs ys = ap numbers_of_table (filter-append done xs ys) ∙ map-append (λ (o : Open). o.fd) (filter done xs) (filter done ys)

-- of the first k blocks the descriptors that pass the test are closed, and the others are left
pub record ClearedBlocks {Z : Type 0} (done : Open → Bool) (bs here_bs : List (Vec Open Z)) (start here : List Action × ℕ) (k : ℕ) : Type 0 where
  pub left : joined (take k here_bs) ≡ unpicked done (joined (take k bs))
  pub rest : drop k here_bs ≡ drop k bs
  pub same : length here_bs ≡ length bs
  pub room : spare start ≤ spare here + length (picked done (joined (take k bs)))
  pub told : list_of here ≡ list_of start ++ map Close (picked done (joined (take k bs)))

module _ {Z : Type 0} (done : Open → Bool) (bs here_bs : List (Vec Open Z)) (start here : List Action × ℕ) (k : ℕ) (b : Vec Open Z) (lt : k < length here_bs)
    (is : b ≡ get_or here_bs k b)
    (was : ClearedBlocks done bs here_bs start here k) where
  pub block-first : b ≡ get_or bs k b
  block-first =
      let at : (vs : List (Vec Open Z))
      → get_or vs k b ≡ get_or (drop k vs) 0 b = λ vs. ap (λ n. get_or vs n b) (sym (add-zero k)) ∙ sym (get_or-drop k vs 0 b) in
      is ∙ at here_bs ∙ ap (λ vs. get_or vs 0 b) was.rest ∙ sym (at bs)

  pub block-inside : k < length bs
  block-inside = let same = was.same in omega arith

  -- there is room for what goes of the block
  pub block-fits : length (joined bs) ≤ spare start → length b.items ≤ spare here
  block-fits fits =
      let room = was.room in
      let few = picked-length done (joined (take k bs)) in
      let most = length-flat_map-take vec_items bs k b block-inside in
      let size = ap (λ (v : Vec Open Z). length v.items) block-first in
      omega arith

  pub block-cleared : (v : Vec Open Z) (next : List Action × ℕ) → v.items ≡ unpicked done b.items
      → list_of next ≡ list_of here ++ map Close (picked done b.items) → spare here ≤ spare next + length (picked done b.items)
      → ClearedBlocks done bs (set here_bs k v) start next (k + 1)
  block-cleared v next items told room =
      let one : suc k ≡ k + 1 = omega arith in
      let more = joined-front bs k b block-inside block-first in
      let gone : picked done (joined (take (k + 1) bs)) ≡ picked done (joined (take k bs)) ++ picked done b.items =
      ap (picked done) more ∙ picked-append done (joined (take k bs)) b.items in
      record {
        left = ap joined (take_more_set here_bs k v lt) ∙ flat_map-append vec_items (take k here_bs) (v ∷ [])
            ∙ ap (λ (xs : List Open). joined (take k here_bs) ++ xs) (append-nil v.items)
            ∙ ap (λ (xs : List Open). xs ++ v.items) was.left ∙ ap (λ (xs : List Open). unpicked done (joined (take k bs)) ++ xs) items
            ∙ sym (ap (unpicked done) more ∙ filter-append (λ (o : Open). not (done o)) (joined (take k bs)) b.items);
        rest = drop-set-lt (k + 1) here_bs k v (omega arith) ∙ next_rest one;
        same = length-set here_bs k v ∙ was.same;
        room = (let before = was.room in omega (arith, ap length gone, length-append (picked done (joined (take k bs))) (picked done b.items)));
        told = told ∙ ap (λ w. w ++ map Close (picked done b.items)) was.told
            ∙ append_assoc (list_of start) (map Close (picked done (joined (take k bs)))) (map Close (picked done b.items))
            ∙ ap (λ w. list_of start ++ w) (sym (ap (map Close) gone ∙ map-append Close (picked done (joined (take k bs))) (picked done b.items)));
      }
    where
      next_rest : suc k ≡ k + 1 → drop (k + 1) here_bs ≡ drop (k + 1) bs
      next_rest one = sym (drop-drop 1 k here_bs) ∙ ap (λ (vs : List (Vec Open Z)). drop 1 vs) was.rest ∙ drop-drop 1 k bs

-- after the last block
module _ {Z : Type 0} (done : Open → Bool) (bs here_bs : List (Vec Open Z)) (start here : List Action × ℕ) (k : ℕ)
    (was : ClearedBlocks done bs here_bs start here k) (end : length bs ≤ k) where
  whole : joined (take k bs) ≡ joined bs
  whole = ap joined (take_all k bs end)

  pub cleared-left : joined here_bs ≡ unpicked done (joined bs)
  cleared-left = sym (ap joined (take_all k here_bs (let same = was.same in omega arith))) ∙ was.left ∙ ap (unpicked done) whole

  pub cleared-told : list_of here ≡ list_of start ++ map Close (picked done (joined bs))
  cleared-told = was.told ∙ ap (λ (w : List Open). list_of start ++ map Close (picked done w)) whole

  pub cleared-room : spare start ≤ spare here + length (picked done (joined bs))
  cleared-room = subst (λ (w : List Open). spare start ≤ spare here + length (picked done w)) whole was.room

-- the numbers with an address, of two lists
numbers_with-append : (xs ys : List Open) (a : Option (List ℕ)) → numbers_with (xs ++ ys) a ≡ numbers_with xs a ++ numbers_with ys a
numbers_with-append [] ys a = refl
numbers_with-append (x ∷ xs) ys a = elim (cases_Bool (same_address x.address a)) [
  | inl y ↦ rw y (ap (λ w. x.fd ∷ w) (numbers_with-append xs ys a))
  | inr n ↦ rw n (numbers_with-append xs ys a)
]

first-some : (ns ms : List ℕ) → is_some (first_of ns) ≡ true → first_of ns ≡ first_of (ns ++ ms)
first-some [] ms h = absurd (cc)
first-some (n ∷ ns) ms h = refl

first-none : (ns ms : List ℕ) → is_some (first_of ns) ≡ false → ns ++ ms ≡ ms
first-none [] ms h = refl
first-none (n ∷ ns) ms h = absurd (cc)

-- a search in the next block
module _ {Z : Type 0} (bs : List (Vec Open Z)) (k : ℕ) (b : Vec Open Z) (lt : k < length bs) (is : b ≡ get_or bs k b) (a : Option (List ℕ)) where
  back_is : numbers_with (joined (drop k bs)) a ≡ numbers_with b.items a ++ numbers_with (joined (drop (k + 1) bs)) a
  back_is = ap (λ (w : List Open). numbers_with w a) (joined-back bs k b lt is) ∙ numbers_with-append b.items (joined (drop (k + 1) bs)) a

  pub block-found : is_some (first_of (numbers_with b.items a)) ≡ true → first_of (numbers_with b.items a) ≡ first_of (numbers_with (joined (drop k bs)) a)
  block-found h = first-some (numbers_with b.items a) (numbers_with (joined (drop (k + 1) bs)) a) h ∙ ap first_of (sym back_is)

  pub block-past : is_some (first_of (numbers_with b.items a)) ≡ false → numbers_with (joined (drop (k + 1) bs)) a ≡ numbers_with (joined (drop k bs)) a
  block-past h = sym (back_is ∙ first-none (numbers_with b.items a) (numbers_with (joined (drop (k + 1) bs)) a) h)

-- those with this number go one by one
pub record ClosingLike (fd : ℕ) (first table : List Open) (start here : List Action × ℕ) : Type 0 where
  pub left : filter (λ (o : Open). not (o.fd == fd)) table ≡ filter (λ (o : Open). not (o.fd == fd)) first
  pub told : list_of here ++ map Close (numbers_like fd table) ≡ list_of start ++ map Close (numbers_like fd first)
  pub room : spare start + length (numbers_like fd table) ≤ spare here + length (numbers_like fd first)
  pub fits : length table ≤ spare here

like-next : (fd : ℕ) (front : List Open) (x : Open) (back : List Open) → x.fd ≡ fd → numbers_like fd (front ++ x ∷ back) ≡ fd ∷ numbers_like fd (front ++ back)
like-next fd [] x back same = rw (eq-eqb x.fd fd same) (ap (λ n. n ∷ numbers_like fd back) same)
like-next fd (y ∷ front) x back same = elim (cases_Bool (y.fd == fd)) [
  | inl here ↦ rw here (ap (λ w. y.fd ∷ w) (like-next fd front x back same) ∙ ap (λ n. n ∷ fd ∷ numbers_like fd (front ++ back)) (eqb-true y.fd fd here)
      ∙ ap (λ n. fd ∷ n ∷ numbers_like fd (front ++ back)) (sym (eqb-true y.fd fd here)))
  | inr other ↦ rw other (like-next fd front x back same)
]

unlike-next : (fd : ℕ) (front : List Open) (x : Open) (back : List Open) → x.fd ≡ fd
    → filter (λ (o : Open). not (o.fd == fd)) (front ++ back) ≡ filter (λ (o : Open). not (o.fd == fd)) (front ++ x ∷ back)
unlike-next fd [] x back same = rw (eq-eqb x.fd fd same) refl
unlike-next fd (y ∷ front) x back same = elim (cases_Bool (y.fd == fd)) [
  | inl here ↦ rw here (unlike-next fd front x back same)
  | inr other ↦ rw other (ap (λ (w : List Open). y ∷ w) (unlike-next fd front x back same))
]

pub like-none : (fd : ℕ) (table : List Open) → has_key (λ (o : Open). o.fd) fd table ≡ false → numbers_like fd table ≡ []
like-none fd [] h = refl
like-none fd (x ∷ table) h = let parts = or_parts (x.fd == fd) (has_key (λ (o : Open). o.fd) fd table) h in rw parts.0 (like-none fd table parts.1)

pub unlike-none : (fd : ℕ) (table : List Open) → has_key (λ (o : Open). o.fd) fd table ≡ false → table ≡ filter (λ (o : Open). not (o.fd == fd)) table
unlike-none fd [] h = refl
unlike-none fd (x ∷ table) h =
    let parts = or_parts (x.fd == fd) (has_key (λ (o : Open). o.fd) fd table) h in rw parts.0 (ap (λ (w : List Open). x ∷ w) (unlike-none fd table parts.1))

pub shorter : (fd : ℕ) (table new : List Open) (x : Open) (s : StandsIn (λ (o : Open). o.fd) fd table x) → new ≡ s.front ++ s.back
    → length new + 1 ≡ length table
shorter fd table new x s after =
    let old = ap length s.is in
    let now = ap length after in
    omega (arith, length-append s.front (x ∷ s.back), length-append s.front s.back)

pub closing-next : (fd : ℕ) (first table new : List Open) (start here next : List Action × ℕ) (x : Open) (s : StandsIn (λ (o : Open). o.fd) fd table x)
    → new ≡ s.front ++ s.back
    → list_of next ≡ list_of here ++ Close fd ∷ [] → spare here ≤ spare next + 1 → ClosingLike fd first table start here → ClosingLike fd first new start next
closing-next fd first table new start here next x s after told room was =
    let like : numbers_like fd table ≡ fd ∷ numbers_like fd new =
    ap (numbers_like fd) s.is ∙ like-next fd s.front x s.back s.has ∙ ap (λ (w : List Open). fd ∷ numbers_like fd w) (sym after) in
    let size = ap length like in
    record {
      left = ap (filter (λ (o : Open). not (o.fd == fd))) after ∙ unlike-next fd s.front x s.back s.has
          ∙ ap (filter (λ (o : Open). not (o.fd == fd))) (sym s.is) ∙ was.left;
      told = ap (λ (w : List Action). w ++ map Close (numbers_like fd new)) told ∙ append_assoc (list_of here) (Close fd ∷ []) (map Close (numbers_like fd new))
          ∙ ap (λ w. list_of here ++ map Close w) (sym like) ∙ was.told;
      room = (let before = was.room in omega arith);
      fits = (let before = was.fits in let less = shorter fd table new x s after in omega arith);
    }
