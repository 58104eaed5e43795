-- The first keys of blocks, noted.
use Rattle.std.proofs.Common.{ℕ, zero, suc, true, ◌==◌, List, [], ◌∷◌, ◌++◌, ◌≡◌, refl, ap, sym, ◌∙◌, arith, ◌<◌, ◌≤◌, length, set, insert, nat_le, get_or, Vec}
use Rattle.std.specs.List.{remove}
use Rattle.std.proofs.lemmas.Bool.{false≢true, and_parts, and_from, eqb-true, eq-eqb, le-leb}
use Rattle.svc_base.specs.Blocks.{starts, first_key, are_firsts, is_index, put_note, renoted}

-- a note more where the notes reach, and where they don't
pub put_note-in : (notes : List ℕ) (at n : ℕ) → at ≤ length notes → insert notes at n ≡ put_note at n notes
put_note-in notes zero n le = refl
put_note-in [] (suc at) n le = absurd (omega arith)
put_note-in (m ∷ notes) (suc at) n le = ap (λ (ns : List ℕ). m ∷ ns) (put_note-in notes at n (omega arith))

pub put_note-past : (notes : List ℕ) (at n : ℕ) → length notes < at → notes ≡ put_note at n notes
put_note-past notes zero n lt = absurd (omega arith)
put_note-past [] (suc at) n lt = refl
put_note-past (m ∷ notes) (suc at) n lt = ap (λ (ns : List ℕ). m ∷ ns) (put_note-past notes at n (omega arith))

-- the first key after an edit behind it
module _ {T : Type 0} (key : T → ℕ) where
  pub first-front : (xs ys zs : List T) → xs ++ ys ≡ zs → 0 < length xs → first_key key xs ≡ first_key key zs
  first-front [] ys zs e some = absurd (omega arith)
  first-front (x ∷ xs) ys zs e some = ap (first_key key) e

  pub first-insert : (xs : List T) (place : ℕ) (x : T) → 0 < place → place ≤ length xs → first_key key (insert xs place x) ≡ first_key key xs
  first-insert xs zero x some le = absurd (omega arith)
  first-insert [] (suc place) x some le = absurd (omega arith)
  first-insert (y ∷ xs) (suc place) x some le = refl

  pub first-set : (xs : List T) (place : ℕ) (x : T) → ((e : T) → key (get_or xs place e) ≡ key x) → first_key key (set xs place x) ≡ first_key key xs
  first-set [] place x same = refl
  first-set (y ∷ xs) zero x same = sym (same y)
  first-set (y ∷ xs) (suc place) x same = refl

  first-remove : (xs : List T) (place : ℕ) → first_key key (remove xs (suc place)) ≡ first_key key xs
  first-remove [] place = refl
  first-remove (y ∷ xs) place = refl

  -- a block starts by its first key
  pub starts-first : (c : ℕ) (xs : List T) → nat_le (first_key key xs) c ≡ starts key c xs
  starts-first c [] = le-leb 0 c (omega arith)
  starts-first c (x ∷ xs) = refl

module _ {T Z : Type 0} (key : T → ℕ) where
  abbrev first_of : Vec T Z → ℕ
  first_of v = first_key key v.items

  -- what is noted at a place
  firsts-at : (notes : List ℕ) (bs : List (Vec T Z)) (at : ℕ) (d : Vec T Z) → are_firsts key notes bs ≡ true → at < length notes
      → first_of (get_or bs at d) ≡ get_or notes at 0
  firsts-at [] bs at d h lt = absurd (omega arith)
  firsts-at (n ∷ notes) [] at d h lt = absurd (false≢true h)
  firsts-at (n ∷ notes) (b ∷ bs) zero d h lt = eqb-true (first_of b) n (and_parts (first_of b == n) (are_firsts key notes bs) h).0
  firsts-at (n ∷ notes) (b ∷ bs) (suc at) d h lt =
      firsts-at notes bs at d (and_parts (first_of b == n) (are_firsts key notes bs) h).1 (omega arith)

  index-at : (notes : List ℕ) (bs : List (Vec T Z)) (at : ℕ) (d : Vec T Z) → is_index key notes bs ≡ true → 0 < at → at < length notes
      → first_of (get_or bs at d) ≡ get_or notes at 0
  index-at [] bs at d h some lt = absurd (omega arith)
  index-at (n ∷ notes) [] at d h some lt = absurd (false≢true h)
  index-at (n ∷ notes) (b ∷ bs) zero d h some lt = absurd (omega arith)
  index-at (n ∷ notes) (b ∷ bs) (suc at) d h some lt = firsts-at notes bs at d h (omega arith)

  pub starts-noted : (c : ℕ) (notes : List ℕ) (bs : List (Vec T Z)) (at : ℕ) (d : Vec T Z) → is_index key notes bs ≡ true → 0 < at → at < length notes
      → nat_le (get_or notes at 0) c ≡ starts key c (get_or bs at d).items
  starts-noted c notes bs at d h some lt =
      ap (λ (n : ℕ). nat_le n c) (sym (index-at notes bs at d h some lt)) ∙ starts-first key c (get_or bs at d).items

  -- another block that starts as the one before
  firsts-set : (notes : List ℕ) (bs : List (Vec T Z)) (at : ℕ) (v d : Vec T Z) → first_of v ≡ first_of (get_or bs at d) → are_firsts key notes bs ≡ true
      → are_firsts key notes (set bs at v) ≡ true
  firsts-set [] bs at v d same h = refl
  firsts-set (n ∷ notes) [] at v d same h = h
  firsts-set (n ∷ notes) (b ∷ bs) zero v d same h =
      let parts = and_parts (first_of b == n) (are_firsts key notes bs) h in
      and_from (first_of v == n) (are_firsts key notes bs) (ap (λ (m : ℕ). m == n) same ∙ parts.0) parts.1
  firsts-set (n ∷ notes) (b ∷ bs) (suc at) v d same h =
      let parts = and_parts (first_of b == n) (are_firsts key notes bs) h in
      and_from (first_of b == n) (are_firsts key notes (set bs at v)) parts.0 (firsts-set notes bs at v d same parts.1)

  pub index-set : (notes : List ℕ) (bs : List (Vec T Z)) (at : ℕ) (v d : Vec T Z) → (0 < at → first_of v ≡ first_of (get_or bs at d))
      → is_index key notes bs ≡ true → is_index key notes (set bs at v) ≡ true
  index-set [] bs at v d same h = refl
  index-set (n ∷ notes) [] at v d same h = h
  index-set (n ∷ notes) (b ∷ bs) zero v d same h = h
  index-set (n ∷ notes) (b ∷ bs) (suc at) v d same h = firsts-set notes bs at v d (same (omega arith)) h

  -- another block, whose first key is noted
  firsts-note : (notes : List ℕ) (bs : List (Vec T Z)) (at : ℕ) (v : Vec T Z) → are_firsts key notes bs ≡ true
      → are_firsts key (set notes at (first_of v)) (set bs at v) ≡ true
  firsts-note [] bs at v h = refl
  firsts-note (n ∷ notes) [] at v h = absurd (false≢true h)
  firsts-note (n ∷ notes) (b ∷ bs) zero v h =
      and_from (first_of v == first_of v) (are_firsts key notes bs) (eq-eqb (first_of v) (first_of v) refl)
      (and_parts (first_of b == n) (are_firsts key notes bs) h).1
  firsts-note (n ∷ notes) (b ∷ bs) (suc at) v h =
      let parts = and_parts (first_of b == n) (are_firsts key notes bs) h in
      and_from (first_of b == n) (are_firsts key (set notes at (first_of v)) (set bs at v)) parts.0 (firsts-note notes bs at v parts.1)

  index-note : (notes : List ℕ) (bs : List (Vec T Z)) (at : ℕ) (v : Vec T Z) → is_index key notes bs ≡ true
      → is_index key (set notes at (first_of v)) (set bs at v) ≡ true
  index-note [] bs at v h = refl
  index-note (n ∷ notes) [] at v h = absurd (false≢true h)
  index-note (n ∷ notes) (b ∷ bs) zero v h = h
  index-note (n ∷ notes) (b ∷ bs) (suc at) v h = firsts-note notes bs at v h

  -- an entry less
  pub index-cut : (notes : List ℕ) (bs : List (Vec T Z)) (at place : ℕ) (v d : Vec T Z) → v.items ≡ remove (get_or bs at d).items place
      → is_index key notes bs ≡ true → is_index key (renoted key at place v.items notes) (set bs at v) ≡ true
  index-cut notes bs at zero v d e h = index-note notes bs at v h
  index-cut notes bs at (suc place) v d e h =
      index-set notes bs at v d (λ some. ap (first_key key) e ∙ first-remove key (get_or bs at d).items place) h

  -- a block less
  firsts-remove : (notes : List ℕ) (bs : List (Vec T Z)) (at : ℕ) → are_firsts key notes bs ≡ true → are_firsts key (remove notes at) (remove bs at) ≡ true
  firsts-remove [] bs zero h = refl
  firsts-remove [] bs (suc at) h = refl
  firsts-remove (n ∷ notes) [] at h = absurd (false≢true h)
  firsts-remove (n ∷ notes) (b ∷ bs) zero h = (and_parts (first_of b == n) (are_firsts key notes bs) h).1
  firsts-remove (n ∷ notes) (b ∷ bs) (suc at) h =
      let parts = and_parts (first_of b == n) (are_firsts key notes bs) h in
      and_from (first_of b == n) (are_firsts key (remove notes at) (remove bs at)) parts.0 (firsts-remove notes bs at parts.1)

  pub index-remove : (notes : List ℕ) (bs : List (Vec T Z)) (at : ℕ) → 0 < at → is_index key notes bs ≡ true
      → is_index key (remove notes at) (remove bs at) ≡ true
  index-remove notes bs zero some h = absurd (omega arith)
  index-remove [] bs (suc at) some h = refl
  index-remove (n ∷ notes) [] (suc at) some h = absurd (false≢true h)
  index-remove (n ∷ notes) (b ∷ bs) (suc at) some h = firsts-remove notes bs at h

  -- a block cut in two
  firsts-put : (notes : List ℕ) (bs : List (Vec T Z)) (at : ℕ) (v u d : Vec T Z) → at < length bs → first_of v ≡ first_of (get_or bs at d)
      → are_firsts key notes bs ≡ true → are_firsts key (put_note (suc at) (first_of u) notes) (insert (set bs at v) (suc at) u) ≡ true
  firsts-put [] bs at v u d lt same h = refl
  firsts-put (n ∷ notes) [] at v u d lt same h = absurd (false≢true h)
  firsts-put (n ∷ notes) (b ∷ bs) zero v u d lt same h =
      let parts = and_parts (first_of b == n) (are_firsts key notes bs) h in
      and_from (first_of v == n) (are_firsts key (first_of u ∷ notes) (u ∷ bs)) (ap (λ (m : ℕ). m == n) same ∙ parts.0)
      (and_from (first_of u == first_of u) (are_firsts key notes bs) (eq-eqb (first_of u) (first_of u) refl) parts.1)
  firsts-put (n ∷ notes) (b ∷ bs) (suc at) v u d lt same h =
      let parts = and_parts (first_of b == n) (are_firsts key notes bs) h in
      and_from (first_of b == n) (are_firsts key (put_note (suc at) (first_of u) notes) (insert (set bs at v) (suc at) u)) parts.0
      (firsts-put notes bs at v u d (omega arith) same parts.1)

  pub index-put : (notes : List ℕ) (bs : List (Vec T Z)) (at : ℕ) (v u d : Vec T Z) → at < length bs → first_of v ≡ first_of (get_or bs at d)
      → is_index key notes bs ≡ true → is_index key (put_note (suc at) (first_of u) notes) (insert (set bs at v) (suc at) u) ≡ true
  index-put [] bs at v u d lt same h = refl
  index-put (n ∷ notes) [] at v u d lt same h = absurd (false≢true h)
  index-put (n ∷ notes) (b ∷ bs) zero v u d lt same h =
      and_from (first_of u == first_of u) (are_firsts key notes bs) (eq-eqb (first_of u) (first_of u) refl) h
  index-put (n ∷ notes) (b ∷ bs) (suc at) v u d lt same h = firsts-put notes bs at v u d (omega arith) same h

  -- a note more at the end
  firsts-next : (notes : List ℕ) (bs : List (Vec T Z)) (at : ℕ) (d : Vec T Z) → at ≡ length notes → at < length bs → are_firsts key notes bs ≡ true
      → are_firsts key (notes ++ first_of (get_or bs at d) ∷ []) bs ≡ true
  firsts-next notes [] at d e lt h = absurd (omega arith)
  firsts-next [] (b ∷ bs) zero d e lt h = and_from (first_of b == first_of b) true (eq-eqb (first_of b) (first_of b) refl) refl
  firsts-next [] (b ∷ bs) (suc at) d e lt h = absurd (omega arith)
  firsts-next (n ∷ notes) (b ∷ bs) zero d e lt h = absurd (omega arith)
  firsts-next (n ∷ notes) (b ∷ bs) (suc at) d e lt h =
      let parts = and_parts (first_of b == n) (are_firsts key notes bs) h in
      and_from (first_of b == n) (are_firsts key (notes ++ first_of (get_or bs at d) ∷ []) bs) parts.0
      (firsts-next notes bs at d (omega arith) (omega arith) parts.1)

  pub index-next : (notes : List ℕ) (bs : List (Vec T Z)) (at : ℕ) (d : Vec T Z) → at ≡ length notes → at < length bs → is_index key notes bs ≡ true
      → is_index key (notes ++ first_of (get_or bs at d) ∷ []) bs ≡ true
  index-next notes [] at d e lt h = absurd (omega arith)
  index-next [] (b ∷ bs) zero d e lt h = refl
  index-next [] (b ∷ bs) (suc at) d e lt h = absurd (omega arith)
  index-next (n ∷ notes) (b ∷ bs) zero d e lt h = absurd (omega arith)
  index-next (n ∷ notes) (b ∷ bs) (suc at) d e lt h = firsts-next notes bs at d (omega arith) (omega arith) h
