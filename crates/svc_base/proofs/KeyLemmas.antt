-- Lists in ascending key.
use Rattle.std.proofs.Common.{ℕ, zero, suc, Bool, true, false, ◌&&◌, ◌==◌, inl, inr, List, [], ◌∷◌, ◌++◌, ◌≡◌, refl, ap, sym, ◌∙◌, arith, ◌<◌, ◌≤◌, length, take, drop, filter, nat_lt, nat_le, get_or, Option, Some, None, is_some, IfSome, IfNone, Bor}
use Rattle.std.specs.List.{list_all}
use Rattle.std.specs.List.Sorted.{IsNonDecreasingBy}
use Rattle.std.proofs.lemmas.Bool.{and_parts, and_from, cases_Bool, ltb-true, lt-ltb, le-ltb, leb-true, le-leb, ne_eqb, eq-eqb, or_from, or_right}
use Rattle.std.proofs.lemmas.List.Folds.{list_any-append}
use Rattle.svc_base.specs.Blocks.{rises_by, put_by, has_key, StandsIn}

-- one test of all elements
module _ {X : Type 0} (p : X → Bool) where
  pub all-mid : (xs : List X) (y : X) (ys : List X) → list_all p (xs ++ y ∷ ys) ≡ true → p y ≡ true
  all-mid [] y ys h = (and_parts (p y) (list_all p ys) h).0
  all-mid (x ∷ xs) y ys h = all-mid xs y ys (and_parts (p x) (list_all p (xs ++ y ∷ ys)) h).1

  all-left : (xs ys : List X) → list_all p (xs ++ ys) ≡ true → list_all p xs ≡ true
  all-left [] ys h = refl
  all-left (x ∷ xs) ys h = let parts = and_parts (p x) (list_all p (xs ++ ys)) h in and_from (p x) (list_all p xs) parts.0 (all-left xs ys parts.1)

  pub all-both : (xs ys : List X) → list_all p xs ≡ true → list_all p ys ≡ true → list_all p (xs ++ ys) ≡ true
  all-both [] ys h g = g
  all-both (x ∷ xs) ys h g = let parts = and_parts (p x) (list_all p xs) h in and_from (p x) (list_all p (xs ++ ys)) parts.0 (all-both xs ys parts.1 g)

  pub all-take : (xs : List X) (n : ℕ) → n ≤ length xs → ((k : ℕ) (d : X) → k < n → p (get_or xs k d) ≡ true) → list_all p (take n xs) ≡ true
  all-take xs zero le h = refl
  all-take [] (suc n) le h = refl
  all-take (x ∷ xs) (suc n) le h =
      and_from (p x) (list_all p (take n xs)) (h 0 x (omega arith)) (all-take xs n (omega arith) (λ k d lt. h (suc k) d (omega arith)))

  pub all-drop : (xs : List X) (n : ℕ) → ((k : ℕ) (d : X) → n ≤ k → k < length xs → p (get_or xs k d) ≡ true) → list_all p (drop n xs) ≡ true
  all-drop [] zero h = refl
  all-drop [] (suc n) h = refl
  all-drop (x ∷ xs) zero h =
      and_from (p x) (list_all p xs) (h 0 x (omega arith) (omega arith)) (all-drop xs 0 (λ k d le lt. h (suc k) d (omega arith) (omega arith)))
  all-drop (x ∷ xs) (suc n) h = all-drop xs n (λ k d le lt. h (suc k) d (omega arith) (omega arith))

pub all-weaker : {X : Type 0} (p q : X → Bool) (xs : List X) → ((x : X) → p x ≡ true → q x ≡ true) → list_all p xs ≡ true → list_all q xs ≡ true
all-weaker p q [] f h = refl
all-weaker p q (x ∷ xs) f h = let parts = and_parts (p x) (list_all p xs) h in and_from (q x) (list_all q xs) (f x parts.0) (all-weaker p q xs f parts.1)

module _ {T : Type 0} (key : T → ℕ) where
  pub rises-left : (xs ys : List T) → rises_by key (xs ++ ys) ≡ true → rises_by key xs ≡ true
  rises-left [] ys h = refl
  rises-left (x ∷ xs) ys h =
      let parts = and_parts (list_all (λ y. nat_le (key x) (key y)) (xs ++ ys)) (rises_by key (xs ++ ys)) h in
      and_from (list_all (λ y. nat_le (key x) (key y)) xs) (rises_by key xs) (all-left (λ y. nat_le (key x) (key y)) xs ys parts.0) (rises-left xs ys parts.1)

  pub rises-right : (xs ys : List T) → rises_by key (xs ++ ys) ≡ true → rises_by key ys ≡ true
  rises-right [] ys h = h
  rises-right (x ∷ xs) ys h = rises-right xs ys (and_parts (list_all (λ y. nat_le (key x) (key y)) (xs ++ ys)) (rises_by key (xs ++ ys)) h).1

  -- what stands before an entry has at most its key
  pub under : (c : ℕ) (xs : List T) (x : T) (ys : List T) → rises_by key (xs ++ x ∷ ys) ≡ true → key x ≤ c → list_all (λ y. nat_le (key y) c) xs ≡ true
  under c [] x ys h le = refl
  under c (z ∷ xs) x ys h le =
      let parts = and_parts (list_all (λ y. nat_le (key z) (key y)) (xs ++ x ∷ ys)) (rises_by key (xs ++ x ∷ ys)) h in
      let most = leb-true (key z) (key x) (all-mid (λ y. nat_le (key z) (key y)) xs x ys parts.0) in
      and_from (nat_le (key z) c) (list_all (λ y. nat_le (key y) c) xs) (le-leb (key z) c (omega arith)) (under c xs x ys parts.1 le)

  -- what stands behind an entry has at least its key
  pub over : (c : ℕ) (x : T) (ys : List T) → rises_by key (x ∷ ys) ≡ true → c < key x → list_all (λ y. nat_lt c (key y)) (x ∷ ys) ≡ true
  over c x ys h lt =
      let parts = and_parts (list_all (λ y. nat_le (key x) (key y)) ys) (rises_by key ys) h in
      and_from (nat_lt c (key x)) (list_all (λ y. nat_lt c (key y)) ys) (lt-ltb c (key x) lt)
      (all-weaker (λ y. nat_le (key x) (key y)) (λ y. nat_lt c (key y)) ys
      (λ y g. let least = leb-true (key x) (key y) g in lt-ltb c (key y) (omega arith)) parts.0)

  -- the order by places, as a search asks for it
  below-all : (c : ℕ) (xs : List T) (k : ℕ) (d : T) → list_all (λ y. nat_le c (key y)) xs ≡ true → k < length xs → c ≤ key (get_or xs k d)
  below-all c [] k d h lt = absurd (omega arith)
  below-all c (x ∷ xs) zero d h lt = leb-true c (key x) (and_parts (nat_le c (key x)) (list_all (λ y. nat_le c (key y)) xs) h).0
  below-all c (x ∷ xs) (suc k) d h lt = below-all c xs k d (and_parts (nat_le c (key x)) (list_all (λ y. nat_le c (key y)) xs) h).1 (omega arith)

  pub rises-places : (xs : List T) → rises_by key xs ≡ true → IsNonDecreasingBy key xs
  rises-places [] h i j d le lt = absurd (omega arith)
  rises-places (x ∷ xs) h zero zero d le lt = omega arith
  rises-places (x ∷ xs) h (suc i) zero d le lt = absurd (omega arith)
  rises-places (x ∷ xs) h zero (suc j) d le lt =
      below-all (key x) xs j d (and_parts (list_all (λ y. nat_le (key x) (key y)) xs) (rises_by key xs) h).0 (omega arith)
  rises-places (x ∷ xs) h (suc i) (suc j) d le lt =
      rises-places xs (and_parts (list_all (λ y. nat_le (key x) (key y)) xs) (rises_by key xs) h).1 i j d (omega arith) (omega arith)

  -- where one more entry goes
  pub put-parted : (x : T) (xs ys : List T) → list_all (λ y. nat_le (key y) (key x)) xs ≡ true → list_all (λ y. nat_lt (key x) (key y)) ys ≡ true
      → xs ++ x ∷ ys ≡ put_by key x (xs ++ ys)
  put-parted x [] [] h g = refl
  put-parted x [] (y ∷ ys) h g = rw ((and_parts (nat_lt (key x) (key y)) (list_all (λ y. nat_lt (key x) (key y)) ys) g).0) refl
  put-parted x (z ∷ xs) ys h g =
      let parts = and_parts (nat_le (key z) (key x)) (list_all (λ y. nat_le (key y) (key x)) xs) h in
      rw (le-ltb (key x) (key z) (leb-true (key z) (key x) parts.0)) (ap (λ (zs : List T). z ∷ zs) (put-parted x xs ys parts.1 g))

  all-put : (p : T → Bool) (x : T) (xs : List T) → p x ≡ true → list_all p xs ≡ true → list_all p (put_by key x xs) ≡ true
  all-put p x [] one h = and_from (p x) true one refl
  all-put p x (y ∷ xs) one h = elim (cases_Bool (nat_lt (key x) (key y))) [
    | inl less ↦ rw less (and_from (p x) (list_all p (y ∷ xs)) one h)
    | inr more ↦ rw more (let parts = and_parts (p y) (list_all p xs) h in and_from (p y) (list_all p (put_by key x xs)) parts.0 (all-put p x xs one parts.1))
  ]

  pub rises-put : (x : T) (xs : List T) → rises_by key xs ≡ true → rises_by key (put_by key x xs) ≡ true
  rises-put x [] h = refl
  rises-put x (y ∷ xs) h =
      let parts = and_parts (list_all (λ z. nat_le (key y) (key z)) xs) (rises_by key xs) h in
      elim (cases_Bool (nat_lt (key x) (key y))) [
        | inl less ↦ rw less (let lt = ltb-true (key x) (key y) less in
            and_from (list_all (λ z. nat_le (key x) (key z)) (y ∷ xs)) (rises_by key (y ∷ xs))
            (and_from (nat_le (key x) (key y)) (list_all (λ z. nat_le (key x) (key z)) xs) (le-leb (key x) (key y) (omega arith))
            (all-weaker (λ z. nat_le (key y) (key z)) (λ z. nat_le (key x) (key z)) xs
            (λ z g. let least = leb-true (key y) (key z) g in le-leb (key x) (key z) (omega arith)) parts.0)) h)
        | inr more ↦ rw more (and_from (list_all (λ z. nat_le (key y) (key z)) (put_by key x xs)) (rises_by key (put_by key x xs))
            (all-put (λ z. nat_le (key y) (key z)) x xs (up more) parts.0) (rises-put x xs parts.1))
      ]
    where
      up : nat_lt (key x) (key y) ≡ false → nat_le (key y) (key x) ≡ true
      up h = grind arith

  all-cut : (p : T → Bool) (xs : List T) (x : T) (ys : List T) → list_all p (xs ++ x ∷ ys) ≡ true → list_all p (xs ++ ys) ≡ true
  all-cut p [] x ys h = (and_parts (p x) (list_all p ys) h).1
  all-cut p (z ∷ xs) x ys h =
      let parts = and_parts (p z) (list_all p (xs ++ x ∷ ys)) h in and_from (p z) (list_all p (xs ++ ys)) parts.0 (all-cut p xs x ys parts.1)

  pub rises-cut : (xs : List T) (x : T) (ys : List T) → rises_by key (xs ++ x ∷ ys) ≡ true → rises_by key (xs ++ ys) ≡ true
  rises-cut [] x ys h = (and_parts (list_all (λ y. nat_le (key x) (key y)) ys) (rises_by key ys) h).1
  rises-cut (z ∷ xs) x ys h =
      let parts = and_parts (list_all (λ y. nat_le (key z) (key y)) (xs ++ x ∷ ys)) (rises_by key (xs ++ x ∷ ys)) h in
      and_from (list_all (λ y. nat_le (key z) (key y)) (xs ++ ys)) (rises_by key (xs ++ ys)) (all-cut (λ y. nat_le (key z) (key y)) xs x ys parts.0)
      (rises-cut xs x ys parts.1)

  all-other : (p : T → Bool) (xs : List T) (x y : T) (ys : List T) → p y ≡ p x → list_all p (xs ++ x ∷ ys) ≡ true → list_all p (xs ++ y ∷ ys) ≡ true
  all-other p [] x y ys same h = let parts = and_parts (p x) (list_all p ys) h in and_from (p y) (list_all p ys) (same ∙ parts.0) parts.1
  all-other p (z ∷ xs) x y ys same h =
      let parts = and_parts (p z) (list_all p (xs ++ x ∷ ys)) h in and_from (p z) (list_all p (xs ++ y ∷ ys)) parts.0 (all-other p xs x y ys same parts.1)

  pub rises-other : (xs : List T) (x y : T) (ys : List T) → key x ≡ key y → rises_by key (xs ++ x ∷ ys) ≡ true → rises_by key (xs ++ y ∷ ys) ≡ true
  rises-other [] x y ys same h = ap (λ (k : ℕ). list_all (λ z. nat_le k (key z)) ys && rises_by key ys) (sym same) ∙ h
  rises-other (z ∷ xs) x y ys same h =
      let parts = and_parts (list_all (λ w. nat_le (key z) (key w)) (xs ++ x ∷ ys)) (rises_by key (xs ++ x ∷ ys)) h in
      and_from (list_all (λ w. nat_le (key z) (key w)) (xs ++ y ∷ ys)) (rises_by key (xs ++ y ∷ ys))
      (all-other (λ w. nat_le (key z) (key w)) xs x y ys (ap (nat_le (key z)) (sym same)) parts.0) (rises-other xs x y ys same parts.1)

  -- no entry has a key that all are beside
  pub none-under : (c b : ℕ) (xs : List T) → b < c → list_all (λ x. nat_le (key x) b) xs ≡ true → has_key key c xs ≡ false
  none-under c b [] lt h = refl
  none-under c b (x ∷ xs) lt h =
      let parts = and_parts (nat_le (key x) b) (list_all (λ x. nat_le (key x) b) xs) h in
      let most = leb-true (key x) b parts.0 in
      rw (ne_eqb (key x) c (λ e. omega arith)) (none-under c b xs lt parts.1)

  pub none-over : (c : ℕ) (xs : List T) → list_all (λ x. nat_lt c (key x)) xs ≡ true → has_key key c xs ≡ false
  none-over c [] h = refl
  none-over c (x ∷ xs) h =
      let parts = and_parts (nat_lt c (key x)) (list_all (λ x. nat_lt c (key x)) xs) h in
      let less = ltb-true c (key x) parts.0 in
      rw (ne_eqb (key x) c (λ e. omega arith)) (none-over c xs parts.1)

  pub none-both : (c : ℕ) (xs ys : List T) → has_key key c xs ≡ false → has_key key c ys ≡ false → has_key key c (xs ++ ys) ≡ false
  none-both c xs ys h g = list_any-append (λ x. key x == c) xs ys ∙ or_from (has_key key c xs) (has_key key c ys) h g

  -- one that stands there has its key
  stands-has : (c : ℕ) (xs : List T) (x : T) → StandsIn key c xs x → has_key key c xs ≡ true
  stands-has c xs x s = ap (has_key key c) s.is ∙ mid s.front
    where
      mid : (front : List T) → has_key key c (front ++ x ∷ s.back) ≡ true
      mid [] = rw (eq-eqb (key x) c s.has) refl
      mid (y ∷ front) = or_right (key y == c) (has_key key c (front ++ x ∷ s.back)) (mid front)

-- so what a search finds says whether an entry has the key
pub found-key : {T : Type 0} (key : T → ℕ) (c : ℕ) (xs : List T) (r : Option (Bor T)) → IfSome r (λ x. StandsIn key c xs x.now)
    → IfNone r (has_key key c xs ≡ false) → is_some r ≡ has_key key c xs
found-key key c xs None found absent = sym absent
found-key key c xs (Some x) found absent = sym (stands-has key c xs x.now found)

-- what is left of a list in ascending key
module _ {T : Type 0} (key : T → ℕ) (f : T → Bool) where
  all-left-over : (p : T → Bool) (xs : List T) → list_all p xs ≡ true → list_all p (filter f xs) ≡ true
  all-left-over p [] h = refl
  all-left-over p (x ∷ xs) h = let parts = and_parts (p x) (list_all p xs) h in elim (cases_Bool (f x)) [
    | inl y ↦ rw y (and_from (p x) (list_all p (filter f xs)) parts.0 (all-left-over p xs parts.1))
    | inr n ↦ rw n (all-left-over p xs parts.1)
  ]

  pub rises-filter : (xs : List T) → rises_by key xs ≡ true → rises_by key (filter f xs) ≡ true
  rises-filter [] h = refl
  rises-filter (x ∷ xs) h = let parts = and_parts (list_all (λ y. nat_le (key x) (key y)) xs) (rises_by key xs) h in elim (cases_Bool (f x)) [
    | inl y ↦ rw y
        (and_from (list_all (λ y. nat_le (key x) (key y)) (filter f xs)) (rises_by key (filter f xs)) (all-left-over (λ y. nat_le (key x) (key y)) xs parts.0)
        (rises-filter xs parts.1))
    | inr n ↦ rw n (rises-filter xs parts.1)
  ]
