-- Journals with one post more, and fronts.
use Rattle.std.proofs.Common.{◌≡◌, ◌≢◌, ◌⊎◌, inl, inr, ⊎_elim, ◌≤◌, ℕ, zero, suc, ◌+◌, ◌<◌, Bool, true, false, List, [], ◌∷◌, ◌++◌, length, if◌then◌else◌, ◌==◌, refl, sym, ap, ◌∙◌, arith, append_assoc, append-nil, length-append, set, eq-eqb, ne_eqb}
use mathlib.Core.Option.{some, some-ne-none, some-injective}
use lib.ListN.{get_elem?}
use Rattle.svc_record.specs.Journal.{PostData, own_posts, own_posts_from}
use Rattle.svc_shared.specs.Views.{Begins}
use Rattle.svc_shared.specs.Rule.{Role, may_post, Posted}

own_from-other : (k n : ℕ) (xs : List PostData) (p : PostData) → (p.seat == n) ≡ false → own_posts_from k n (xs ++ p ∷ []) ≡ own_posts_from k n xs
own_from-other k n [] p ne = rw ne refl
own_from-other k n (x ∷ xs) p ne = ap (λ (r : List (ℕ × PostData)). if x.seat == n then (k, x) ∷ r else r) (own_from-other (k + 1) n xs p ne)

own_from-mine : (k n : ℕ) (xs : List PostData) (p : PostData) → (p.seat == n) ≡ true
    → own_posts_from k n (xs ++ p ∷ []) ≡ own_posts_from k n xs ++ (k + length xs, p) ∷ []
own_from-mine k n [] p e = rw e (ap (λ (j : ℕ). (j, p) ∷ []) (omega arith))
own_from-mine k n (x ∷ xs) p e =
    let same : (k + 1) + length xs ≡ k + length (x ∷ xs) = omega arith in
    go (x.seat == n) (own_from-mine (k + 1) n xs p e ∙ ap (λ (j : ℕ). own_posts_from (k + 1) n xs ++ (j, p) ∷ []) same)
  where
    go : (b : Bool) → own_posts_from (k + 1) n (xs ++ p ∷ []) ≡ own_posts_from (k + 1) n xs ++ (k + length (x ∷ xs), p) ∷ []
        → (if b then (k, x) ∷ own_posts_from (k + 1) n (xs ++ p ∷ []) else own_posts_from (k + 1) n (xs ++ p ∷ []))
        ≡ (if b then (k, x) ∷ own_posts_from (k + 1) n xs else own_posts_from (k + 1) n xs) ++ (k + length (x ∷ xs), p) ∷ []
    go true more = ap (λ (r : List (ℕ × PostData)). (k, x) ∷ r) more
    go false more = more

pub own-other : (n : ℕ) (xs : List PostData) (p : PostData) → p.seat ≢ n → own_posts (xs ++ p ∷ []) n ≡ own_posts xs n
own-other n xs p ne = own_from-other 1 n xs p (ne_eqb p.seat n ne)

pub own-mine : (n : ℕ) (xs : List PostData) (p : PostData) → p.seat ≡ n → own_posts (xs ++ p ∷ []) n ≡ own_posts xs n ++ (length (xs ++ p ∷ []), p) ∷ []
own-mine n xs p e = let long : 1 + length xs ≡ length (xs ++ p ∷ []) = omega (arith, length-append xs (p ∷ [])) in
    own_from-mine 1 n xs p (eq-eqb p.seat n e) ∙ ap (λ (j : ℕ). own_posts xs n ++ (j, p) ∷ []) long

pub posted-more : (role : ℕ → Role) (xs : List PostData) (p : PostData) → Posted role xs → may_post (role p.seat) ≡ true → Posted role (xs ++ p ∷ [])
posted-more role [] p all may = (may, tt)
posted-more role (x ∷ xs) p all may = (all.0, posted-more role xs p all.1 may)

-- a number that may not post has no post
own_from-none : (role : ℕ → Role) (n k : ℕ) (xs : List PostData) → may_post (role n) ≡ false → Posted role xs → own_posts_from k n xs ≡ []
own_from-none role n k [] none posted = refl
own_from-none role n k (x ∷ xs) none posted =
    let ne : (x.seat == n) ≡ false = ne_eqb x.seat n (λ e. apart (may_post (role n)) none (ap (λ (j : ℕ). may_post (role j)) (sym e) ∙ posted.0)) in
    rw ne (own_from-none role n (k + 1) xs none posted.1)
  where
    apart : (f : Bool) → f ≡ false → f ≡ true → ⊥
    apart f a b = cc

pub own-none : (role : ℕ → Role) (n : ℕ) (xs : List PostData) → may_post (role n) ≡ false → Posted role xs → own_posts xs n ≡ []
own-none role n xs none posted = own_from-none role n 1 xs none posted

pub posted-front : (role : ℕ → Role) (xs ys : List PostData) → Posted role (xs ++ ys) → Posted role xs
posted-front role [] ys posted = tt
posted-front role (x ∷ xs) ys posted = (posted.0, posted-front role xs ys posted.1)

pub posted-by : (role role' : ℕ → Role) (xs : List PostData) → ((n : ℕ) → may_post (role n) ≡ true → may_post (role' n) ≡ true) → Posted role xs
    → Posted role' xs
posted-by role role' [] keeps posted = tt
posted-by role role' (x ∷ xs) keeps posted = (keeps x.seat posted.0, posted-by role role' xs keeps posted.1)

module _ {A : Type 0} where
  pub begins-whole : (js : List A) → Begins js js
  begins-whole js = ([], sym (append-nil js))

  pub begins-more : (js more front : List A) → Begins js front → Begins (js ++ more) front
  begins-more js more front b = (b.0 ++ more, ap (λ (z : List A). z ++ more) b.1 ∙ append_assoc front b.0 more)

  pub begins-trans : (js mid front : List A) → Begins js mid → Begins mid front → Begins js front
  begins-trans js mid front b c = (c.0 ++ b.0, b.1 ∙ (ap (λ (z : List A). z ++ b.0) c.1 ∙ append_assoc front c.0 b.0))

  -- an element that is there is replaced
  pub set_there : (l : List A) (i : ℕ) (a b : A) → get_elem? l i ≡ some a → get_elem? (set l i b) i ≡ some b
  set_there [] i a b e = absurd (some-ne-none a (sym e))
  set_there (x ∷ xs) zero a b e = refl
  set_there (x ∷ xs) (suc i) a b e = set_there xs i a b e

  -- of two beginnings of one list the shorter begins the longer
  shorter : (xs ys r t : List A) → xs ++ r ≡ ys ++ t → length xs ≤ length ys → Begins ys xs
  shorter [] ys r t e le = (ys, refl)
  shorter (x ∷ xs) [] r t e le = absurd (omega arith)
  shorter (x ∷ xs) (y ∷ ys) r t e le =
      let same : xs ++ r ≡ ys ++ t = cc in
      let head : y ≡ x = cc in
      let more = shorter xs ys r t same (omega arith) in (more.0, λ i. head i ∷ more.1 i)

  pub begins-shorter : (js xs ys : List A) → Begins js xs → Begins js ys → length xs ≤ length ys → Begins ys xs
  begins-shorter js xs ys b c le = shorter xs ys b.0 c.0 (sym b.1 ∙ c.1) le

  pub at_below : (l : List A) (i : ℕ) (a : A) → get_elem? l i ≡ some a → i < length l
  at_below [] i a e = absurd (some-ne-none a (sym e))
  at_below (x ∷ xs) zero a e = omega arith
  at_below (x ∷ xs) (suc i) a e = let h = at_below xs i a e in omega arith

  -- an element of a list with one more, and where it stands
  pub at_more : (l : List A) (a b : A) (j : ℕ) → get_elem? (l ++ a ∷ []) j ≡ some b → (get_elem? l j ≡ some b) ⊎ ((j ≡ length l) × (a ≡ b))
  at_more [] a b zero e = inr (refl, some-injective a b e)
  at_more [] a b (suc j) e = absurd (some-ne-none b (sym e))
  at_more (x ∷ xs) a b zero e = inl e
  at_more (x ∷ xs) a b (suc j) e = ⊎_elim (λ h. inl h) (λ t. inr (ap suc t.0, t.1)) (at_more xs a b j e)

  pub at_both : (l m : List A) (a : A) (j : ℕ) → get_elem? (l ++ m) j ≡ some a → (get_elem? l j ≡ some a) ⊎ ((i : ℕ) × (get_elem? m i ≡ some a))
  at_both [] m a j e = inr (j, e)
  at_both (x ∷ xs) m a zero e = inl e
  at_both (x ∷ xs) m a (suc j) e = at_both xs m a j e

  pub at_right : (l m : List A) (a : A) (i : ℕ) → get_elem? m i ≡ some a → (j : ℕ) × (get_elem? (l ++ m) j ≡ some a)
  at_right [] m a i e = (i, e)
  at_right (x ∷ xs) m a i e = let h = at_right xs m a i e in (suc h.0, h.1)
