-- What the calls of a table mean, by cases on its entries.
use Rattle.std.proofs.Common.{ℕ, Bool, true, false, not, cond, List, [], ◌∷◌, Option, Some, None, ◌≡◌, refl, sym, ap, subst, ◌∙◌, ◌||◌, filter}
use Rattle.std.specs.List.{list_any}
use Rattle.std.specs.Ordering.{nat_cmp, is_eq, ordering_reverse, match_ordering}
use Rattle.std.specs.declared.cmp.Ordering.{Ordering}
use Rattle.std.specs.declared.cmp.Ordering.TheVariants.{Less, Equal, Greater}
use Rattle.std.specs.Cmp.Lexicographic.{slice_cmp, nat_list_cmp_total}
use Rattle.std.specs.Str.{bytes_eq}
use Rattle.std.proofs.lemmas.Map.Text.{is_eq-slice_cmp}
use Rattle.std.proofs.lemmas.Map.Lookups.{exact_bytes}
use Rattle.std.proofs.lemmas.Slice.Eq.{bytes_eq-Decides}
use Rattle.svc_fds.specs.Tables.{Entry, lookup, put, without, Precedes, PrecedesAll, IsAscending, is_kept}

-- a lesser address is another one
pub differs : (x y : List ℕ) → Precedes x y → bytes_eq x y ≡ false
differs x y less = sym (is_eq-slice_cmp x y) ∙ ap is_eq less

pub greater : (x y : List ℕ) → Precedes x y → slice_cmp nat_cmp y x ≡ Greater
greater x y less = nat_list_cmp_total.antisymm y x ∙ ap ordering_reverse less

pub lesser : (x y : List ℕ) → slice_cmp nat_cmp x y ≡ Greater → Precedes y x
lesser x y more = nat_list_cmp_total.antisymm y x ∙ ap ordering_reverse more

pub differs_back : (x y : List ℕ) → Precedes x y → bytes_eq y x ≡ false
differs_back x y less = sym (is_eq-slice_cmp y x) ∙ ap is_eq (greater x y less)

pub same : (x : List ℕ) → bytes_eq x x ≡ true
same x = (bytes_eq-Decides x x).1 refl

pub equal : (x y : List ℕ) → bytes_eq x y ≡ true → x ≡ y
equal x y tested = (bytes_eq-Decides x y).0 tested

cond_twice : {X : Type 0} (b : Bool) (x y z : X) → cond b x z ≡ cond b x (cond b y z)
cond_twice true x y z = refl
cond_twice false x y z = refl

cond_alike : (b : Bool) (x : Option ℕ) → cond b x x ≡ x
cond_alike true x = refl
cond_alike false x = refl

-- two tests that never hold together may be made in either order
cond_swapped : {X : Type 0} (b c : Bool) (x y z : X) → (b ≡ true → c ≡ true → ⊥) → cond b x (cond c y z) ≡ cond c y (cond b x z)
cond_swapped true true x y z apart = absurd (apart refl refl)
cond_swapped true false x y z apart = refl
cond_swapped false true x y z apart = refl
cond_swapped false false x y z apart = refl

-- no address is two
apart : (x y z : List ℕ) → bytes_eq x y ≡ false → bytes_eq x z ≡ true → bytes_eq y z ≡ true → ⊥
apart x y z differ left right =
    let e : x ≡ y = equal x z left ∙ sym (equal y z right) in
    let agree : bytes_eq x y ≡ true = (bytes_eq-Decides x y).1 e in cc

lookup-put_by : (a : List ℕ) (n : ℕ) (e : Entry) (es : List Entry) (b : List ℕ) (o : Ordering) → slice_cmp nat_cmp e.0 a ≡ o
    → lookup b (put a n es) ≡ cond (bytes_eq a b) (Some n) (lookup b es)
    → lookup b (match_ordering o (e ∷ put a n es) ((a, n) ∷ es) ((a, n) ∷ e ∷ es)) ≡ cond (bytes_eq a b) (Some n) (lookup b (e ∷ es))
lookup-put_by a n e es b Less o rest =
    ap (λ found. cond (bytes_eq e.0 b) (Some e.1) found) rest
    ∙ cond_swapped (bytes_eq e.0 b) (bytes_eq a b) (Some e.1) (Some n) (lookup b es) (apart e.0 a b (differs e.0 a o))
lookup-put_by a n e es b Equal o rest =
    subst (λ x. cond (bytes_eq a b) (Some n) (lookup b es) ≡ cond (bytes_eq a b) (Some n) (cond (bytes_eq x b) (Some e.1) (lookup b es)))
    (sym (exact_bytes e.0 a o))
    (cond_twice (bytes_eq a b) (Some n) (Some e.1) (lookup b es))
lookup-put_by a n e es b Greater o rest = refl

-- what the table has at each address, once one is set
pub lookup-put : (a : List ℕ) (n : ℕ) (es : List Entry) (b : List ℕ) → lookup b (put a n es) ≡ cond (bytes_eq a b) (Some n) (lookup b es)
lookup-put a n [] b = refl
lookup-put a n (e ∷ es) b = lookup-put_by a n e es b (slice_cmp nat_cmp e.0 a) refl (lookup-put a n es b)

-- what the table has at each address, once one is gone
lookup-without_by : (a : List ℕ) (e : Entry) (es : List Entry) (b : List ℕ) (same : Bool) → bytes_eq e.0 a ≡ same
    → lookup b (without a es) ≡ cond (bytes_eq a b) None (lookup b es)
    → lookup b (cond (not same) (e ∷ without a es) (without a es)) ≡ cond (bytes_eq a b) None (lookup b (e ∷ es))
lookup-without_by a e es b true is rest =
    rest ∙ subst (λ x. cond (bytes_eq a b) None (lookup b es) ≡ cond (bytes_eq a b) None (cond (bytes_eq x b) (Some e.1) (lookup b es))) (sym (equal e.0 a is))
    (cond_twice (bytes_eq a b) None (Some e.1) (lookup b es))
lookup-without_by a e es b false is rest =
    ap (λ found. cond (bytes_eq e.0 b) (Some e.1) found) rest
    ∙ cond_swapped (bytes_eq e.0 b) (bytes_eq a b) (Some e.1) None (lookup b es) (apart e.0 a b is)

pub lookup-without : (a : List ℕ) (es : List Entry) (b : List ℕ) → lookup b (without a es) ≡ cond (bytes_eq a b) None (lookup b es)
lookup-without a [] b = sym (cond_alike (bytes_eq a b) None)
lookup-without a (e ∷ es) b = lookup-without_by a e es b (bytes_eq e.0 a) refl (lookup-without a es b)

-- what is before an address is before all that come after it
pub precedes-trans : (x a : List ℕ) (es : List Entry) → Precedes x a → PrecedesAll a es → PrecedesAll x es
precedes-trans x a [] less all = tt
precedes-trans x a (e ∷ es) less all = (nat_list_cmp_total.trans x a e.0 less all.0, precedes-trans x a es less all.1)

precedes-put_by : (x a : List ℕ) (n : ℕ) (e : Entry) (es : List Entry) (o : Ordering) → Precedes x a → PrecedesAll x (e ∷ es) → PrecedesAll x (put a n es)
    → PrecedesAll x (match_ordering o (e ∷ put a n es) ((a, n) ∷ es) ((a, n) ∷ e ∷ es))
precedes-put_by x a n e es Less less all rest = (all.0, rest)
precedes-put_by x a n e es Equal less all rest = (less, all.1)
precedes-put_by x a n e es Greater less all rest = (less, all)

precedes-put : (x a : List ℕ) (n : ℕ) (es : List Entry) → Precedes x a → PrecedesAll x es → PrecedesAll x (put a n es)
precedes-put x a n [] less all = (less, tt)
precedes-put x a n (e ∷ es) less all = precedes-put_by x a n e es (slice_cmp nat_cmp e.0 a) less all (precedes-put x a n es less all.1)

ascending-put_by : (a : List ℕ) (n : ℕ) (e : Entry) (es : List Entry) (o : Ordering) → slice_cmp nat_cmp e.0 a ≡ o → IsAscending (e ∷ es)
    → IsAscending (put a n es)
    → IsAscending (match_ordering o (e ∷ put a n es) ((a, n) ∷ es) ((a, n) ∷ e ∷ es))
ascending-put_by a n e es Less o up rest = (precedes-put e.0 a n es o up.0, rest)
ascending-put_by a n e es Equal o up rest = (subst (λ x. PrecedesAll x es) (exact_bytes e.0 a o) up.0, up.1)
ascending-put_by a n e es Greater o up rest = ((lesser e.0 a o, precedes-trans a e.0 es (lesser e.0 a o) up.0), up)

-- setting an address keeps the order
pub ascending-put : (a : List ℕ) (n : ℕ) (es : List Entry) → IsAscending es → IsAscending (put a n es)
ascending-put a n [] up = (tt, tt)
ascending-put a n (e ∷ es) up = ascending-put_by a n e es (slice_cmp nat_cmp e.0 a) refl up (ascending-put a n es up.1)

pub precedes-filter : (p : Entry → Bool) (x : List ℕ) (es : List Entry) → PrecedesAll x es → PrecedesAll x (filter p es)
precedes-filter p x [] all = tt
precedes-filter p x (e ∷ es) all =
    elim (p e) as (λ b. PrecedesAll x (cond b (e ∷ filter p es) (filter p es))) [
      | true ↦ (all.0, precedes-filter p x es all.1)
      | false ↦ precedes-filter p x es all.1
    ]

-- leaving entries out keeps the order
pub ascending-filter : (p : Entry → Bool) (es : List Entry) → IsAscending es → IsAscending (filter p es)
ascending-filter p [] up = tt
ascending-filter p (e ∷ es) up =
    elim (p e) as (λ b. IsAscending (cond b (e ∷ filter p es) (filter p es))) [
      | true ↦ (precedes-filter p e.0 es up.0, ascending-filter p es up.1)
      | false ↦ ascending-filter p es up.1
    ]

pub ascending-without : (a : List ℕ) (es : List Entry) → IsAscending es → IsAscending (without a es)
ascending-without a es up = ascending-filter (λ e. not (bytes_eq e.0 a)) es up

-- a set of texts has an address where one of them is the same bytes
pub kept-tested : (a : List ℕ) (keep : List (List ℕ)) → list_any (λ k. is_eq (slice_cmp nat_cmp a k)) keep ≡ is_kept keep a
kept-tested a [] = refl
kept-tested a (k ∷ keep) =
    ap (λ b. b || list_any (λ x. is_eq (slice_cmp nat_cmp a x)) keep) (is_eq-slice_cmp a k) ∙ ap (λ b. bytes_eq a k || b) (kept-tested a keep)
