-- Blocks of entries, joined.
use Rattle.std.proofs.Common.{ℕ, zero, suc, Bool, true, false, not, ◌==◌, filter, inl, inr, List, [], ◌∷◌, ◌++◌, ◌≡◌, refl, ap, sym, ◌∙◌, subst, arith, ◌+◌, ◌-◌, ◌<◌, ◌≤◌, length, take, drop, set, insert, nat_lt, nat_le, length-append, vec_capacity, get_or, add-one, append_assoc, drop-cons, Vec}
use Rattle.std.specs.List.{list_all, remove}
use Rattle.std.proofs.Math.Seq.{take-suc}
use Rattle.std.proofs.lemmas.Bool.{and_parts, and_from, ltb-true, lt-ltb, leb-true, leb-false, le-leb, cases_lt, cases_Bool, eqb-true}
use Rattle.std.specs.Vec.{vec_items}
use Rattle.std.proofs.lemmas.List.Concat.{flat_map-append}
use Rattle.std.proofs.lemmas.List.{append-nil, take_more, drop_more, take-append-drop, set_split, get_or_read, length-set, nil_from_length}
use Rattle.std.proofs.lemmas.List.Edits.{length-insert}
use Rattle.svc_base.specs.Blocks.{joined, are_filled, later_filled, are_wide, rises_by, has_key, is_over, starts, is_index, StandsIn, StandsLast, put_by, IsBlockFor, before, behind, IsPlaceFor, IsPlaceOf, IsLastPlace, KeepsEntries, IsTable}
use Rattle.svc_base.proofs.KeyLemmas.{all-both, all-mid, all-weaker, rises-left, rises-right, under, over, none-under, none-over, none-both, put-parted, rises-put, rises-cut, rises-other}

-- one test of all elements, after an edit
module _ {X : Type 0} (p : X → Bool) where
  all-at : (xs : List X) (k : ℕ) (d : X) → list_all p xs ≡ true → k < length xs → p (get_or xs k d) ≡ true
  all-at [] k d h lt = absurd (omega arith)
  all-at (x ∷ xs) zero d h lt = (and_parts (p x) (list_all p xs) h).0
  all-at (x ∷ xs) (suc k) d h lt = all-at xs k d (and_parts (p x) (list_all p xs) h).1 (omega arith)

  all-set : (xs : List X) (k : ℕ) (y : X) → list_all p xs ≡ true → p y ≡ true → list_all p (set xs k y) ≡ true
  all-set [] k y h one = refl
  all-set (x ∷ xs) zero y h one = and_from (p y) (list_all p xs) one (and_parts (p x) (list_all p xs) h).1
  all-set (x ∷ xs) (suc k) y h one =
      let parts = and_parts (p x) (list_all p xs) h in and_from (p x) (list_all p (set xs k y)) parts.0 (all-set xs k y parts.1 one)

  all-insert : (xs : List X) (k : ℕ) (y : X) → list_all p xs ≡ true → p y ≡ true → list_all p (insert xs k y) ≡ true
  all-insert xs zero y h one = and_from (p y) (list_all p xs) one h
  all-insert [] (suc k) y h one = and_from (p y) true one refl
  all-insert (x ∷ xs) (suc k) y h one =
      let parts = and_parts (p x) (list_all p xs) h in and_from (p x) (list_all p (insert xs k y)) parts.0 (all-insert xs k y parts.1 one)

  all-remove : (xs : List X) (k : ℕ) → list_all p xs ≡ true → list_all p (remove xs k) ≡ true
  all-remove [] zero h = refl
  all-remove [] (suc k) h = refl
  all-remove (x ∷ xs) zero h = (and_parts (p x) (list_all p xs) h).1
  all-remove (x ∷ xs) (suc k) h = let parts = and_parts (p x) (list_all p xs) h in and_from (p x) (list_all p (remove xs k)) parts.0 (all-remove xs k parts.1)

-- of a list of one nothing stands before its place or behind it
single : {X : Type 0} (xs : List X) (k : ℕ) → length xs ≡ 1 → k < length xs → (take k xs ≡ []) × (drop (suc k) xs ≡ [])
single [] k e lt = absurd (omega arith)
single (x ∷ []) zero e lt = (refl, refl)
single (x ∷ []) (suc k) e lt = absurd (omega arith)
single (x ∷ y ∷ xs) k e lt = absurd (omega arith)

module _ {T Z : Type 0} where
  abbrev is_filled : Vec T Z → Bool
  is_filled v = nat_lt 0 (length v.items)

  abbrev is_wide : ℕ → Vec T Z → Bool
  is_wide n v = nat_le (length v.items + n) (vec_capacity v)

  -- what is around a place
  joined-at : (bs : List (Vec T Z)) (at : ℕ) (d : Vec T Z) → at < length bs
      → joined bs ≡ joined (take at bs) ++ ((get_or bs at d).items ++ joined (drop (suc at) bs))
  joined-at [] at d lt = absurd (omega arith)
  joined-at (b ∷ bs) zero d lt = refl
  joined-at (b ∷ bs) (suc at) d lt = ap (λ (xs : List T). b.items ++ xs) (joined-at bs at d (omega arith))
      ∙ sym (append_assoc b.items (joined (take at bs)) ((get_or bs at d).items ++ joined (drop (suc at) bs)))

  before-is : (bs : List (Vec T Z)) (at place : ℕ) (d : Vec T Z) → at < length bs
      → before bs at place ≡ joined (take at bs) ++ take place (get_or bs at d).items
  before-is [] at place d lt = absurd (omega arith)
  before-is (b ∷ bs) zero place d lt = refl
  before-is (b ∷ bs) (suc at) place d lt = ap (λ (xs : List T). b.items ++ xs) (before-is bs at place d (omega arith))
      ∙ sym (append_assoc b.items (joined (take at bs)) (take place (get_or bs at d).items))

  behind-is : (bs : List (Vec T Z)) (at place : ℕ) (d : Vec T Z) → at < length bs
      → behind bs at place ≡ drop place (get_or bs at d).items ++ joined (drop (suc at) bs)
  behind-is [] at place d lt = absurd (omega arith)
  behind-is (b ∷ bs) zero place d lt = refl
  behind-is (b ∷ bs) (suc at) place d lt = behind-is bs at place d (omega arith)

  pub joined-parts : (bs : List (Vec T Z)) (at place : ℕ) → joined bs ≡ before bs at place ++ behind bs at place
  joined-parts [] at place = refl
  joined-parts (b ∷ bs) zero place = ap (λ (xs : List T). xs ++ joined bs) (sym (take-append-drop place b.items))
      ∙ append_assoc (take place b.items) (drop place b.items) (joined bs)
  joined-parts (b ∷ bs) (suc at) place = ap (λ (xs : List T). b.items ++ xs) (joined-parts bs at place)
      ∙ sym (append_assoc b.items (before bs at place) (behind bs at place))

  before-more : (bs : List (Vec T Z)) (at place : ℕ) (d : Vec T Z) (e : T) → at < length bs → place < length (get_or bs at d).items
      → before bs at (suc place) ≡ before bs at place ++ get_or (get_or bs at d).items place e ∷ []
  before-more [] at place d e lt within = absurd (omega arith)
  before-more (b ∷ bs) zero place d e lt within = take-suc b.items place e within
  before-more (b ∷ bs) (suc at) place d e lt within = ap (λ (xs : List T). b.items ++ xs) (before-more bs at place d e (omega arith) within)
      ∙ sym (append_assoc b.items (before bs at place) (get_or (get_or bs at d).items place e ∷ []))

  pub behind-at : (bs : List (Vec T Z)) (at place : ℕ) (d : Vec T Z) (e : T) → at < length bs → place < length (get_or bs at d).items
      → behind bs at place ≡ get_or (get_or bs at d).items place e ∷ behind bs at (suc place)
  behind-at [] at place d e lt within = absurd (omega arith)
  behind-at (b ∷ bs) zero place d e lt within = ap (λ (xs : List T). xs ++ joined bs) (drop-cons b.items place e within)
  behind-at (b ∷ bs) (suc at) place d e lt within = behind-at bs at place d e (omega arith) within

  pub some-at : (bs : List (Vec T Z)) (at place : ℕ) → at < length bs → ((d : Vec T Z) → place < length (get_or bs at d).items) → 0 < length (joined bs)
  some-at [] at place lt inside = absurd (omega arith)
  some-at (b ∷ bs) zero place lt inside = let h = inside b in omega (arith, length-append b.items (joined bs))
  some-at (b ∷ bs) (suc at) place lt inside = let h = some-at bs at place (omega arith) inside in omega (arith, length-append b.items (joined bs))

  -- one entry more, another one, and one less
  pub joined-put : (bs : List (Vec T Z)) (at place : ℕ) (v : Vec T Z) (x : T) (d : Vec T Z) → at < length bs → v.items ≡ insert (get_or bs at d).items place x
      → joined (set bs at v) ≡ before bs at place ++ x ∷ behind bs at place
  joined-put [] at place v x d lt e = absurd (omega arith)
  joined-put (b ∷ bs) zero place v x d lt e = ap (λ (xs : List T). xs ++ joined bs) e ∙ append_assoc (take place b.items) (x ∷ drop place b.items) (joined bs)
  joined-put (b ∷ bs) (suc at) place v x d lt e = ap (λ (xs : List T). b.items ++ xs) (joined-put bs at place v x d (omega arith) e)
      ∙ sym (append_assoc b.items (before bs at place) (x ∷ behind bs at place))

  pub joined-other : (bs : List (Vec T Z)) (at place : ℕ) (v : Vec T Z) (x : T) (d : Vec T Z) → at < length bs → place < length (get_or bs at d).items
      → v.items ≡ set (get_or bs at d).items place x
      → joined (set bs at v) ≡ before bs at place ++ x ∷ behind bs at (suc place)
  joined-other [] at place v x d lt within e = absurd (omega arith)
  joined-other (b ∷ bs) zero place v x d lt within e = ap (λ (xs : List T). xs ++ joined bs) (e ∙ set_split b.items place x within)
      ∙ append_assoc (take place b.items) (x ∷ drop (suc place) b.items) (joined bs)
  joined-other (b ∷ bs) (suc at) place v x d lt within e = ap (λ (xs : List T). b.items ++ xs) (joined-other bs at place v x d (omega arith) within e)
      ∙ sym (append_assoc b.items (before bs at place) (x ∷ behind bs at (suc place)))

  pub joined-cut : (bs : List (Vec T Z)) (at place : ℕ) (v d : Vec T Z) → at < length bs → v.items ≡ remove (get_or bs at d).items place
      → joined (set bs at v) ≡ before bs at place ++ behind bs at (suc place)
  joined-cut [] at place v d lt e = absurd (omega arith)
  joined-cut (b ∷ bs) zero place v d lt e = ap (λ (xs : List T). xs ++ joined bs) e ∙ append_assoc (take place b.items) (drop (suc place) b.items) (joined bs)
  joined-cut (b ∷ bs) (suc at) place v d lt e = ap (λ (xs : List T). b.items ++ xs) (joined-cut bs at place v d (omega arith) e)
      ∙ sym (append_assoc b.items (before bs at place) (behind bs at (suc place)))

  -- a block with one entry goes
  pub joined-remove : (bs : List (Vec T Z)) (at place : ℕ) (d : Vec T Z) → at < length bs → place < length (get_or bs at d).items
      → length (get_or bs at d).items ≡ 1
      → joined (remove bs at) ≡ before bs at place ++ behind bs at (suc place)
  joined-remove [] at place d lt within one = absurd (omega arith)
  joined-remove (b ∷ bs) zero place d lt within one = let alone = single b.items place one within in rw (alone.0, alone.1) refl
  joined-remove (b ∷ bs) (suc at) place d lt within one = ap (λ (xs : List T). b.items ++ xs) (joined-remove bs at place d (omega arith) within one)
      ∙ sym (append_assoc b.items (before bs at place) (behind bs at (suc place)))

  -- a block with the same entries, or with those of two
  joined-same : (bs : List (Vec T Z)) (at : ℕ) (v d : Vec T Z) → at < length bs → v.items ≡ (get_or bs at d).items → joined (set bs at v) ≡ joined bs
  joined-same [] at v d lt e = absurd (omega arith)
  joined-same (b ∷ bs) zero v d lt e = ap (λ (xs : List T). xs ++ joined bs) e
  joined-same (b ∷ bs) (suc at) v d lt e = ap (λ (xs : List T). b.items ++ xs) (joined-same bs at v d (omega arith) e)

  joined-insert : (bs : List (Vec T Z)) (at : ℕ) (v u d : Vec T Z) → at < length bs → v.items ++ u.items ≡ (get_or bs at d).items
      → joined (insert (set bs at v) (suc at) u) ≡ joined bs
  joined-insert [] at v u d lt e = absurd (omega arith)
  joined-insert (b ∷ bs) zero v u d lt e = sym (append_assoc v.items u.items (joined bs)) ∙ ap (λ (xs : List T). xs ++ joined bs) e
  joined-insert (b ∷ bs) (suc at) v u d lt e = ap (λ (xs : List T). b.items ++ xs) (joined-insert bs at v u d (omega arith) e)

  -- one block after another
  pub joined-front : (bs : List (Vec T Z)) (i : ℕ) (b : Vec T Z) → i < length bs → b ≡ get_or bs i b → joined (take (i + 1) bs) ≡ joined (take i bs) ++ b.items
  joined-front bs i b lt read = ap joined (take_more bs i b lt ∙ ap (λ (v : Vec T Z). take i bs ++ v ∷ []) (sym read))
      ∙ flat_map-append vec_items (take i bs) (b ∷ []) ∙ ap (λ (xs : List T). joined (take i bs) ++ xs) (append-nil b.items)

  pub joined-back : (bs : List (Vec T Z)) (i : ℕ) (b : Vec T Z) → i < length bs → b ≡ get_or bs i b → joined (drop i bs) ≡ b.items ++ joined (drop (i + 1) bs)
  joined-back bs i b lt read = ap joined (drop_more bs i b lt) ∙ ap (λ (v : Vec T Z). v.items ++ joined (drop (i + 1) bs)) (sym read)

  -- each but the first has an entry
  later-at : (bs : List (Vec T Z)) (at : ℕ) (d : Vec T Z) → later_filled bs ≡ true → at < length bs → 0 < at → 0 < length (get_or bs at d).items
  later-at [] at d h lt some = absurd (omega arith)
  later-at (b ∷ bs) zero d h lt some = absurd (omega arith)
  later-at (b ∷ bs) (suc at) d h lt some = ltb-true 0 (length (get_or bs at d).items) (all-at is_filled bs at d h (omega arith))

  pub later-set : (bs : List (Vec T Z)) (at : ℕ) (v : Vec T Z) → (0 < at → 0 < length v.items) → later_filled bs ≡ true → later_filled (set bs at v) ≡ true
  later-set [] at v some h = refl
  later-set (b ∷ bs) zero v some h = h
  later-set (b ∷ bs) (suc at) v some h = all-set is_filled bs at v h (lt-ltb 0 (length v.items) (some (omega arith)))

  later-insert : (bs : List (Vec T Z)) (at : ℕ) (v u : Vec T Z) → at < length bs → 0 < length v.items → 0 < length u.items → later_filled bs ≡ true
      → later_filled (insert (set bs at v) (suc at) u) ≡ true
  later-insert [] at v u lt some more h = absurd (omega arith)
  later-insert (b ∷ bs) zero v u lt some more h = and_from (nat_lt 0 (length u.items)) (are_filled bs) (lt-ltb 0 (length u.items) more) h
  later-insert (b ∷ bs) (suc at) v u lt some more h =
      all-insert is_filled (set bs at v) (suc at) u (all-set is_filled bs at v h (lt-ltb 0 (length v.items) some)) (lt-ltb 0 (length u.items) more)

  pub later-remove : (bs : List (Vec T Z)) (at : ℕ) → 0 < at → later_filled bs ≡ true → later_filled (remove bs at) ≡ true
  later-remove bs zero some h = absurd (omega arith)
  later-remove [] (suc at) some h = refl
  later-remove (b ∷ bs) (suc at) some h = all-remove is_filled bs at h

  -- memory for more entries
  wide-at : (n : ℕ) (bs : List (Vec T Z)) (at : ℕ) (d : Vec T Z) → are_wide n bs ≡ true → at < length bs
      → length (get_or bs at d).items + n ≤ vec_capacity (get_or bs at d)
  wide-at n bs at d h lt = leb-true (length (get_or bs at d).items + n) (vec_capacity (get_or bs at d)) (all-at (is_wide n) bs at d h lt)

  wide-set : (n : ℕ) (bs : List (Vec T Z)) (at : ℕ) (v : Vec T Z) → are_wide n bs ≡ true → length v.items + n ≤ vec_capacity v → are_wide n (set bs at v) ≡ true
  wide-set n bs at v h one = all-set (is_wide n) bs at v h (le-leb (length v.items + n) (vec_capacity v) one)

  pub wide-less : (n m : ℕ) (bs : List (Vec T Z)) → m ≤ n → are_wide n bs ≡ true → are_wide m bs ≡ true
  wide-less n m bs le h = all-weaker (is_wide n) (is_wide m) bs (λ v g.
      let most = leb-true (length v.items + n) (vec_capacity v) g in le-leb (length v.items + m) (vec_capacity v) (omega arith)) h

  pub wide-remove : (n : ℕ) (bs : List (Vec T Z)) (at : ℕ) → are_wide n bs ≡ true → are_wide n (remove bs at) ≡ true
  wide-remove n bs at h = all-remove (is_wide n) bs at h

  -- a block that keeps its size, has one entry more, or one less
  pub sized-filled : (bs : List (Vec T Z)) (at : ℕ) (v d : Vec T Z) → at < length bs → length v.items ≡ length (get_or bs at d).items → later_filled bs ≡ true
      → later_filled (set bs at v) ≡ true
  sized-filled bs at v d lt same h = later-set bs at v (λ some. let old = later-at bs at d h lt some in omega arith) h

  pub sized-wide : (n : ℕ) (bs : List (Vec T Z)) (at : ℕ) (v d : Vec T Z) → at < length bs → length v.items ≡ length (get_or bs at d).items
      → vec_capacity v ≡ vec_capacity (get_or bs at d)
      → are_wide n bs ≡ true → are_wide n (set bs at v) ≡ true
  sized-wide n bs at v d lt same room h = wide-set n bs at v h (let old = wide-at n bs at d h lt in omega arith)

  pub put-wide : (n : ℕ) (bs : List (Vec T Z)) (at : ℕ) (v d : Vec T Z) → at < length bs → length v.items ≡ length (get_or bs at d).items + 1
      → vec_capacity v ≡ vec_capacity (get_or bs at d)
      → are_wide (n + 1) bs ≡ true → are_wide n (set bs at v) ≡ true
  put-wide n bs at v d lt same room h = wide-set n bs at v (wide-less (n + 1) n bs (omega arith) h) (let old = wide-at (n + 1) bs at d h lt in omega arith)

  pub cut-wide : (n : ℕ) (bs : List (Vec T Z)) (at : ℕ) (v d : Vec T Z) → at < length bs → length v.items + 1 ≡ length (get_or bs at d).items
      → vec_capacity v ≡ vec_capacity (get_or bs at d)
      → are_wide n bs ≡ true → are_wide n (set bs at v) ≡ true
  cut-wide n bs at v d lt same room h = wide-set n bs at v h (let old = wide-at n bs at d h lt in omega arith)

  -- blocks that keep their entries
  pub keeps-same : (bs : List (Vec T Z)) (at : ℕ) (v d : Vec T Z) → at < length bs → v.items ≡ (get_or bs at d).items → KeepsEntries bs (set bs at v)
  keeps-same bs at v d lt e = record {
    entries = joined-same bs at v d lt e;
    filled = sized-filled bs at v d lt (ap length e);
    more = omega (arith, length-set bs at v);
  }

  pub keeps-cut : (bs : List (Vec T Z)) (at : ℕ) (v u d : Vec T Z) → at < length bs → v.items ++ u.items ≡ (get_or bs at d).items → 0 < length v.items
      → 0 < length u.items → KeepsEntries bs (insert (set bs at v) (suc at) u)
  keeps-cut bs at v u d lt e some more = record {
    entries = joined-insert bs at v u d lt e;
    filled = later-insert bs at v u lt some more;
    more = omega (arith, length-set bs at v, length-insert (set bs at v) (suc at) u (omega (arith, length-set bs at v)));
  }

-- what is around the block for c
record Around {T : Type 0} (key : T → ℕ) (c : ℕ) (front block back : List T) : Type 0 where
  below : list_all (λ x. nat_le (key x) c) front ≡ true
  rise : rises_by key block ≡ true
  above : list_all (λ x. nat_lt c (key x)) back ≡ true

module _ {T : Type 0} (key : T → ℕ) (c : ℕ) where
  first-under : (front block rest : List T) → 0 < length block → starts key c block ≡ true
      → rises_by key (front ++ (block ++ rest)) ≡ true → list_all (λ x. nat_le (key x) c) front ≡ true
  first-under front [] rest some h rise = absurd (omega arith)
  first-under front (x ∷ more) rest some h rise = under key c front x (more ++ rest) rise (leb-true (key x) c h)

  first-over : (block rest : List T) → 0 < length block → starts key c block ≡ false
      → rises_by key (block ++ rest) ≡ true → list_all (λ x. nat_lt c (key x)) (block ++ rest) ≡ true
  first-over [] rest some h rise = absurd (omega arith)
  first-over (x ∷ more) rest some h rise = over key c x (more ++ rest) rise (leb-false (key x) c h)

  -- a block that starts there has an entry with at most the key
  starts-some : (block : List T) (place : ℕ) → 0 < length block → starts key c block ≡ true → list_all (λ x. nat_lt c (key x)) (drop place block) ≡ true
      → 0 < place
  starts-some [] place some h above = absurd (omega arith)
  starts-some (x ∷ more) (suc place) some h above = omega arith
  starts-some (x ∷ more) zero some h above =
      let most = leb-true (key x) c h in
      let least = ltb-true c (key x) (and_parts (nat_lt c (key x)) (list_all (λ x. nat_lt c (key x)) more) above).0 in
      absurd (omega arith)

module _ {T Z : Type 0} (key : T → ℕ) (c : ℕ) where
  before-block : (bs : List (Vec T Z)) (at : ℕ) (d : Vec T Z) → IsBlockFor key c bs at → later_filled bs ≡ true → rises_by key (joined bs) ≡ true
      → list_all (λ x. nat_le (key x) c) (joined (take at bs)) ≡ true
  before-block bs zero d block filled rise = refl
  before-block bs (suc at) d block filled rise =
      first-under key c (joined (take (suc at) bs)) (get_or bs (suc at) d).items (joined (drop (suc (suc at)) bs))
      (later-at bs (suc at) d filled block.within (omega arith)) (block.here d (omega arith))
      (ap (rises_by key) (sym (joined-at bs (suc at) d block.within)) ∙ rise)

  -- what is left of the blocks begins above c, if any is
  rest-over : (bs : List (Vec T Z)) (k : ℕ) (d : Vec T Z) → are_filled bs ≡ true → rises_by key (joined (drop k bs)) ≡ true
      → (k < length bs → starts key c (get_or bs k d).items ≡ false) → list_all (λ x. nat_lt c (key x)) (joined (drop k bs)) ≡ true
  rest-over [] zero d filled rise next = refl
  rest-over [] (suc k) d filled rise next = refl
  rest-over (b ∷ bs) zero d filled rise next =
      first-over key c b.items (joined bs) (ltb-true 0 (length b.items) (and_parts (nat_lt 0 (length b.items)) (are_filled bs) filled).0)
      (next (omega arith)) rise
  rest-over (b ∷ bs) (suc k) d filled rise next =
      rest-over bs k d (and_parts (nat_lt 0 (length b.items)) (are_filled bs) filled).1 rise (λ lt. next (omega arith))

  later-over : (bs : List (Vec T Z)) (at : ℕ) (d : Vec T Z) → later_filled bs ≡ true → rises_by key (joined (drop (suc at) bs)) ≡ true
      → (suc at < length bs → starts key c (get_or bs (suc at) d).items ≡ false) → list_all (λ x. nat_lt c (key x)) (joined (drop (suc at) bs)) ≡ true
  later-over [] at d filled rise next = refl
  later-over (b ∷ bs) at d filled rise next = rest-over bs at d filled rise (λ lt. next (omega arith))

  around : (bs : List (Vec T Z)) (at : ℕ) (d : Vec T Z) → IsBlockFor key c bs at → later_filled bs ≡ true → rises_by key (joined bs) ≡ true
      → Around key c (joined (take at bs)) (get_or bs at d).items (joined (drop (suc at) bs))
  around bs at d block filled rise =
      let back = rises-right key (joined (take at bs)) ((get_or bs at d).items ++ joined (drop (suc at) bs))
      (ap (rises_by key) (sym (joined-at bs at d block.within)) ∙ rise) in
      record {
        below = before-block bs at d block filled rise;
        rise = rises-left key (get_or bs at d).items (joined (drop (suc at) bs)) back;
        above = later-over bs at d filled (rises-right key (get_or bs at d).items (joined (drop (suc at) bs)) back)
            (λ lt. let e : at + 1 ≡ suc at = add-one at in rw e at (block.next d (omega arith)));
      }

  module _ (bs : List (Vec T Z)) (at : ℕ) (b : Vec T Z) (block : IsBlockFor key c bs at) (filled : later_filled bs ≡ true)
      (rise : rises_by key (joined bs) ≡ true) (read : b ≡ get_or bs at b) where
    -- the block that was read rises
    pub block-rises : rises_by key b.items ≡ true
    block-rises = ap (λ (v : Vec T Z). rises_by key v.items) read ∙ (around bs at b block filled rise).rise

    -- where it is parted at c, the entry goes
    pub placed-for : (place : ℕ) → place ≤ length b.items → list_all (λ x. nat_le (key x) c) (take place b.items) ≡ true
        → list_all (λ x. nat_lt c (key x)) (drop place b.items) ≡ true
        → IsPlaceFor key c bs at place
    placed-for place inside below above =
        let w = around bs at b block filled rise in
        record {
          within = block.within;
          inside = λ d. subst (λ (v : Vec T Z). place ≤ length v.items) (get_or_read bs at b block.within read d) inside;
          below = ap (list_all (λ x. nat_le (key x) c)) (before-is bs at place b block.within)
              ∙ all-both (λ x. nat_le (key x) c) (joined (take at bs)) (take place (get_or bs at b).items) w.below
              (ap (λ (v : Vec T Z). list_all (λ x. nat_le (key x) c) (take place v.items)) (sym read) ∙ below);
          above = ap (list_all (λ x. nat_lt c (key x))) (behind-is bs at place b block.within)
              ∙ all-both (λ x. nat_lt c (key x)) (drop place (get_or bs at b).items) (joined (drop (suc at) bs))
              (ap (λ (v : Vec T Z). list_all (λ x. nat_lt c (key x)) (drop place v.items)) (sym read) ∙ above) w.above;
          later = λ some. starts-some key c b.items place
              (subst (λ (v : Vec T Z). 0 < length v.items) (sym read) (later-at bs at b filled block.within some))
              (ap (λ (v : Vec T Z). starts key c v.items) read ∙ block.here b some) above;
        }

  -- where nothing is before the place, no entry has the key
  before-none : (bs : List (Vec T Z)) (at : ℕ) → at ≡ 0 → before bs at 0 ≡ []
  before-none [] at e = refl
  before-none (b ∷ bs) zero e = refl
  before-none (b ∷ bs) (suc at) e = absurd (omega arith)

  pub over-first : (bs : List (Vec T Z)) (at place : ℕ) → place ≡ 0 → IsPlaceFor key c bs at place → is_over key c (joined bs) ≡ true
  over-first bs at place none p =
      let first : at ≡ 0 = elim (cases_lt 0 at) [ inl some ↦ absurd (let more = p.later some in omega arith) | inr le ↦ omega arith ] in
      let parts : joined bs ≡ behind bs at place =
      joined-parts bs at place ∙ ap (λ (xs : List T). xs ++ behind bs at place) (ap (before bs at) none ∙ before-none bs at first) in
      ap (is_over key c) parts ∙ p.above

  -- behind the last entry with at most the key is its place
  pub last-for : (bs : List (Vec T Z)) (at place entry : ℕ) → place ≡ suc entry → IsPlaceFor key c bs at place → IsLastPlace key c bs at entry
  last-for bs at place entry next p = record {
    within = p.within;
    inside = λ d. let most = p.inside d in omega arith;
    most = ap (λ (n : ℕ). list_all (λ x. nat_le (key x) c) (before bs at n)) (sym next) ∙ p.below;
    above = ap (λ (n : ℕ). is_over key c (behind bs at n)) (sym next) ∙ p.above;
  }

  pub stands-last : (bs : List (Vec T Z)) (at entry : ℕ) (b : Vec T Z) (x : T) → IsLastPlace key c bs at entry → x ≡ get_or (get_or bs at b).items entry x
      → StandsLast key c (joined bs) x
  stands-last bs at entry b x p read = record {
    front = before bs at entry;
    back = behind bs at (suc entry);
    is = joined-parts bs at entry
        ∙ ap (λ (xs : List T). before bs at entry ++ xs)
        (behind-at bs at entry b x p.within (p.inside b) ∙ ap (λ (y : T). y ∷ behind bs at (suc entry)) (sym read));
    most = let to : before bs at (suc entry) ≡ before bs at entry ++ x ∷ [] =
        before-more bs at entry b x p.within (p.inside b) ∙ ap (λ (y : T). before bs at entry ++ y ∷ []) (sym read) in
        leb-true (key x) c (all-mid (λ y. nat_le (key y) c) (before bs at entry) x [] (ap (list_all (λ y. nat_le (key y) c)) (sym to) ∙ p.most));
    above = p.above;
  }

  module _ (bs : List (Vec T Z)) (at entry : ℕ) (b : Vec T Z) (x : T) (p : IsLastPlace key c bs at entry)
      (read : b ≡ get_or bs at b) (found : x ≡ get_or b.items entry x) where
    same : x ≡ get_or (get_or bs at b).items entry x
    same = found ∙ ap (λ (v : Vec T Z). get_or v.items entry x) read

    -- the last one with at most the key has another, so none has it
    pub absent-other : (key x ≡ c → ⊥) → rises_by key (joined bs) ≡ true → has_key key c (joined bs) ≡ false
    absent-other other rise =
        let to : before bs at (suc entry) ≡ before bs at entry ++ x ∷ [] =
        before-more bs at entry b x p.within (p.inside b) ∙ ap (λ (y : T). before bs at entry ++ y ∷ []) (sym same) in
        let below = ap (list_all (λ y. nat_le (key y) c)) (sym to) ∙ p.most in
        let most = leb-true (key x) c (all-mid (λ y. nat_le (key y) c) (before bs at entry) x [] below) in
        let up = rises-left key (before bs at (suc entry)) (behind bs at (suc entry)) (ap (rises_by key) (sym (joined-parts bs at (suc entry))) ∙ rise) in
        let under_x = under key (key x) (before bs at entry) x [] (ap (rises_by key) (sym to) ∙ up) (omega arith) in
        let all_x = ap (list_all (λ y. nat_le (key y) (key x))) to
        ∙ all-both (λ y. nat_le (key y) (key x)) (before bs at entry) (x ∷ []) under_x
        (and_from (nat_le (key x) (key x)) true (le-leb (key x) (key x) (omega arith)) refl) in
        ap (has_key key c) (joined-parts bs at (suc entry))
        ∙ none-both key c (before bs at (suc entry)) (behind bs at (suc entry)) (none-under key c (key x) (before bs at (suc entry)) (less most other) all_x)
        (none-over key c (behind bs at (suc entry)) p.above)
      where
        less : key x ≤ c → (key x ≡ c → ⊥) → key x < c
        less le ne = omega arith

  -- the entry at the place of the key
  pub stands-at : (bs : List (Vec T Z)) (at place : ℕ) (b : Vec T Z) (x : T) → IsPlaceOf key c bs at place → x ≡ get_or (get_or bs at b).items place x
      → StandsIn key c (joined bs) x
  stands-at bs at place b x p read = record {
    front = before bs at place;
    back = behind bs at (suc place);
    is = joined-parts bs at place
        ∙ ap (λ (xs : List T). before bs at place ++ xs)
        (behind-at bs at place b x p.within (p.inside b) ∙ ap (λ (y : T). y ∷ behind bs at (suc place)) (sym read));
    has = ap key read ∙ p.here b x;
  }

  -- the entry, as it stands at the front of what is behind
  pub entry-at : (bs : List (Vec T Z)) (at place : ℕ) (e : T) → IsPlaceOf key c bs at place
      → (x : T) × (behind bs at place ≡ x ∷ behind bs at (suc place)) × (key x ≡ c)
  entry-at [] at place e p = absurd (let lt = p.within in omega arith)
  entry-at (b ∷ bs) at place e p = (get_or (get_or (b ∷ bs) at b).items place e, behind-at (b ∷ bs) at place b e p.within (p.inside b), p.here b e)

  abbrev pub stands-behind : (bs : List (Vec T Z)) (at place : ℕ) (x : T) → behind bs at place ≡ x ∷ behind bs at (suc place) → key x ≡ c
      → StandsIn key c (joined bs) x
  stands-behind bs at place x taken has = record {
    front = before bs at place;
    back = behind bs at (suc place);
    is = joined-parts bs at place ∙ ap (λ (xs : List T). before bs at place ++ xs) taken;
    has = has;
  }

  pub taken-has : (bs : List (Vec T Z)) (at place : ℕ) (x : T) → behind bs at place ≡ x ∷ behind bs at (suc place) → IsPlaceOf key c bs at place → key x ≡ c
  taken-has bs at place x taken p = let found = entry-at bs at place x p in ap key (same found.0 (behind bs at (suc place)) (sym taken ∙ found.1)) ∙ found.2
    where
      same : (y : T) (ys : List T) → x ∷ ys ≡ y ∷ ys → x ≡ y
      same y ys e = cc

module _ {T Z : Type 0} (key : T → ℕ) (bs new : List (Vec T Z)) (notes later : List ℕ) (count room at place : ℕ) (t : IsTable key bs notes count room) where
  -- an entry more
  pub put-is : (x : T) → IsPlaceFor key (key x) bs at place → joined new ≡ before bs at place ++ x ∷ behind bs at place → joined new ≡ put_by key x (joined bs)
  put-is x p entries = entries ∙ put-parted key x (before bs at place) (behind bs at place) p.below p.above ∙ ap (put_by key x) (sym (joined-parts bs at place))

  pub table-put : (x : T) → 0 < room → IsPlaceFor key (key x) bs at place → joined new ≡ before bs at place ++ x ∷ behind bs at place
      → (later_filled bs ≡ true → later_filled new ≡ true) → ((n : ℕ) → are_wide (n + 1) bs ≡ true → are_wide n new ≡ true) → length new ≡ length bs
      → is_index key later new ≡ true → IsTable key new later (count + 1) (room - 1)
  table-put x some p entries filled wide same index =
      let before_it = ap length (joined-parts bs at place) in
      let after = ap length entries in
      let counts = t.counts in
      let few = t.few in
      let begun = t.some some in
      let back : room ≡ room - 1 + 1 = omega arith in
      record {
        filled = filled t.filled;
        rise = ap (rises_by key) (put-is x p entries) ∙ rises-put key x (joined bs) t.rise;
        index = index;
        counts = omega (arith, length-append (before bs at place) (behind bs at place), length-append (before bs at place) (x ∷ behind bs at place));
        few = omega arith;
        some = λ more. omega arith;
        wide = λ more. wide (room - 1) (subst (λ (n : ℕ). are_wide n bs ≡ true) back (t.wide some));
      }

  -- another entry with the key
  pub table-other : (x y : T) → key x ≡ key y → behind bs at place ≡ x ∷ behind bs at (suc place)
      → joined new ≡ before bs at place ++ y ∷ behind bs at (suc place)
      → (later_filled bs ≡ true → later_filled new ≡ true) → ((n : ℕ) → are_wide n bs ≡ true → are_wide n new ≡ true) → length new ≡ length bs
      → is_index key later new ≡ true → IsTable key new later count room
  table-other x y keys taken entries filled wide same index =
      let old = joined-parts bs at place ∙ ap (λ (xs : List T). before bs at place ++ xs) taken in
      let before_it = ap length old in
      let after = ap length entries in
      let counts = t.counts in
      record {
        filled = filled t.filled;
        rise = ap (rises_by key) entries ∙ rises-other key (before bs at place) x y (behind bs at (suc place)) keys (ap (rises_by key) (sym old) ∙ t.rise);
        index = index;
        counts = omega
            (arith, length-append (before bs at place) (x ∷ behind bs at (suc place)), length-append (before bs at place) (y ∷ behind bs at (suc place)));
        few = t.few;
        some = λ more. let begun = t.some more in omega arith;
        wide = λ more. wide room (t.wide more);
      }

  -- an entry less
  pub table-cut : (x : T) → behind bs at place ≡ x ∷ behind bs at (suc place) → joined new ≡ before bs at place ++ behind bs at (suc place)
      → (later_filled bs ≡ true → later_filled new ≡ true) → ((n : ℕ) → are_wide n bs ≡ true → are_wide n new ≡ true) → 0 < length new
      → is_index key later new ≡ true → IsTable key new later (count - 1) room
  table-cut x taken entries filled wide some index =
      let old = joined-parts bs at place ∙ ap (λ (xs : List T). before bs at place ++ xs) taken in
      let before_it = ap length old in
      let after = ap length entries in
      let counts = t.counts in
      let few = t.few in
      record {
        filled = filled t.filled;
        rise = ap (rises_by key) entries ∙ rises-cut key (before bs at place) x (behind bs at (suc place)) (ap (rises_by key) (sym old) ∙ t.rise);
        index = index;
        counts = omega
            (arith, length-append (before bs at place) (x ∷ behind bs at (suc place)), length-append (before bs at place) (behind bs at (suc place)));
        few = omega arith;
        some = λ more. some;
        wide = λ more. wide room (t.wide more);
      }

-- the blocks that have entries
abbrev pub has_entries : {T Z : Type 0} → Vec T Z → Bool
has_entries v = not (length v.items == 0)

module _ {T Z : Type 0} where
  pub joined-filled : (bs : List (Vec T Z)) → joined (filter has_entries bs) ≡ joined bs
  joined-filled [] = refl
  joined-filled (b ∷ bs) = elim (cases_Bool (length b.items == 0)) [
    | inl none ↦ rw none (joined-filled bs ∙ ap (λ (xs : List T). xs ++ joined bs) (sym (nil_from_length b.items (eqb-true (length b.items) 0 none))))
    | inr some ↦ rw some (ap (λ (xs : List T). b.items ++ xs) (joined-filled bs))
  ]

  filled-all : (bs : List (Vec T Z)) → are_filled (filter has_entries bs) ≡ true
  filled-all [] = refl
  filled-all (b ∷ bs) = elim (cases_Bool (length b.items == 0)) [
    | inl none ↦ rw none (filled-all bs)
    | inr some ↦ rw some (and_from (nat_lt 0 (length b.items)) (are_filled (filter has_entries bs)) (more (length b.items) some) (filled-all bs))
  ]
    where
      more : (n : ℕ) → (n == 0) ≡ false → nat_lt 0 n ≡ true
      more n h = grind arith

  later-from : (bs : List (Vec T Z)) → are_filled bs ≡ true → later_filled bs ≡ true
  later-from [] h = refl
  later-from (b ∷ bs) h = (and_parts (nat_lt 0 (length b.items)) (are_filled bs) h).1

  pub later-all : (bs : List (Vec T Z)) → later_filled (filter has_entries bs) ≡ true
  later-all bs = later-from (filter has_entries bs) (filled-all bs)
