-- What the entries of sums tell of a table, and what is left of that as descriptors come and go.
use Rattle.std.proofs.Common.{ℕ, zero, suc, Bool, true, false, not, ◌&&◌, ◌||◌, ◌==◌, inl, inr, List, [], ◌∷◌, ◌++◌, ◌≡◌, refl, ap, sym, ◌∙◌, subst, arith, ◌+◌, ◌-◌, ◌<◌, ◌≤◌, ◌^◌, min, nat_le, nat_lt, length, map, filter, length-append, append_assoc, take, drop, drop-cons, get_or, Vec, Option, Some, None, IfSome, IfNone}
use Rattle.std.specs.Bool.{OnTrue, OnFalse}
use Rattle.std.specs.List.{list_all}
use Rattle.std.proofs.Math.Nat.{min-le_left, min-le_right}
use Rattle.std.proofs.lemmas.Bool.{cases_Bool, and_parts, and_from, or_cases, or_parts, or_left, or_right, eq-eqb, eqb-true, leb-true, le-leb}
use Rattle.std.proofs.lemmas.List.{append-nil, take_more, take_all}
use Rattle.std.proofs.lemmas.List.Folds.{list_all-append}
use Rattle.std.proofs.lemmas.List.Elements.{filter-append}
use Rattle.std.proofs.lemmas.List.Filters.{length-filter_both}
use Rattle.svc_base.specs.Blocks.{joined, put_by, has_key, StandsIn}
use Rattle.svc_base.proofs.BlockLemmas.{joined-front, joined-back}
use Rattle.svc_endpoints.specs.declared.firsts.First.{First}
use Rattle.svc_endpoints.specs.declared.table.Open.{Open}
use Rattle.svc_endpoints.specs.Sums.{sum_of}
use Rattle.svc_endpoints.specs.Effects.{put_open}
use Rattle.svc_endpoints.specs.Firsts.{has_sum, count_with, are_from, with_sum, counts_of, AreFirsts, Forgets, Follows}

abbrev key : First → ℕ
key f = f.sum

abbrev live : First → ℕ
live f = f.live

-- what n descriptors count
none_counted : (n : ℕ) → [] ≡ counts_of n → n ≡ 0
none_counted zero h = refl
none_counted (suc n) h = absurd (cc)

one_counted : (k n : ℕ) → k ∷ [] ≡ counts_of n → k ≡ n
one_counted k zero h = absurd (cc)
one_counted k (suc n) h = cc

at_most_one : (n : ℕ) → length (counts_of n) ≤ 1
at_most_one zero = omega arith
at_most_one (suc n) = omega arith

counts_more : (k n : ℕ) → k ≡ n → (k + 1) ∷ [] ≡ counts_of (suc n)
counts_more k n h = ap (λ m. m ∷ []) (omega arith)

counts_less : (k n : ℕ) → k ≡ suc n → 1 < k → (k - 1) ∷ [] ≡ counts_of n
counts_less k zero h more = absurd (omega arith)
counts_less k (suc n) h more = ap (λ m. m ∷ []) (omega arith)

-- the entries of a sum in a list with one more
put_here : (c : ℕ) (x : First) (xs : List First) → with_sum c xs ≡ [] → (x.sum == c) ≡ true → with_sum c (put_by key x xs) ≡ x ∷ []
put_here c x [] none here = rw here refl
put_here c x (y ∷ xs) none here = elim (cases_Bool (y.sum == c)) [
  | inl y ↦ absurd (let some = rw y at none in cc)
  | inr other ↦ (let rest : with_sum c xs ≡ [] = rw other at none in elim (cases_Bool (nat_lt x.sum y.sum)) [
    | inl below ↦ rw (below, here, other) (ap (λ (w : List First). x ∷ w) rest)
    | inr above ↦ rw (above, other) (put_here c x xs rest here)
  ])
]

put_other : (c : ℕ) (x : First) (xs : List First) → (x.sum == c) ≡ false → with_sum c (put_by key x xs) ≡ with_sum c xs
put_other c x [] other = rw other refl
put_other c x (y ∷ xs) other = elim (cases_Bool (nat_lt x.sum y.sum)) [
  | inl below ↦ rw (below, other) refl
  | inr above ↦ rw above (elim (cases_Bool (y.sum == c)) [
    | inl here ↦ rw here (ap (λ (w : List First). y ∷ w) (put_other c x xs other))
    | inr n ↦ rw n (put_other c x xs other)
  ])
]

mid_other : (c : ℕ) (front : List First) (x : First) (back : List First) → (x.sum == c) ≡ false → with_sum c (front ++ x ∷ back) ≡ with_sum c (front ++ back)
mid_other c [] x back other = rw other refl
mid_other c (y ∷ front) x back other = elim (cases_Bool (y.sum == c)) [
  | inl here ↦ rw here (ap (λ (w : List First). y ∷ w) (mid_other c front x back other))
  | inr n ↦ rw n (mid_other c front x back other)
]

mid_here : (c : ℕ) (front : List First) (x : First) (back : List First) → (x.sum == c) ≡ true → with_sum c (front ++ back) ≡ []
    → with_sum c (front ++ x ∷ back) ≡ x ∷ []
mid_here c [] x back here none = rw here (ap (λ (w : List First). x ∷ w) none)
mid_here c (y ∷ front) x back here none = elim (cases_Bool (y.sum == c)) [
  | inl y ↦ absurd (let some = rw y at none in cc)
  | inr n ↦ rw n (mid_here c front x back here (rw n at none))
]

longer : (c : ℕ) (front : List First) (x : First) (back : List First) → (x.sum == c) ≡ true
    → length (with_sum c (front ++ x ∷ back)) ≡ suc (length (with_sum c (front ++ back)))
longer c [] x back here = rw here refl
longer c (y ∷ front) x back here = elim (cases_Bool (y.sum == c)) [
  | inl own ↦ rw own (ap suc (longer c front x back here))
  | inr n ↦ rw n (longer c front x back here)
]

empty : (xs : List First) → length xs ≡ 0 → xs ≡ []
empty [] h = refl
empty (x ∷ xs) h = absurd (omega arith)

map_length : (xs : List First) → length (map live xs) ≡ length xs
map_length [] = refl
map_length (x ∷ xs) = ap suc (map_length xs)

absent_none : (c : ℕ) (xs : List First) → has_key key c xs ≡ false → with_sum c xs ≡ []
absent_none c [] h = refl
absent_none c (x ∷ xs) h = let parts = or_parts (x.sum == c) (has_key key c xs) h in rw parts.0 (absent_none c xs parts.1)

-- the one that stands there is the only one of its sum
module _ (c n : ℕ) (xs : List First) (x : First) (s : StandsIn key c xs x) (was : map live (with_sum c xs) ≡ counts_of n) where
  own : (x.sum == c) ≡ true
  own = eq-eqb x.sum c s.has

  no_other : with_sum c (s.front ++ s.back) ≡ []
  no_other = empty (with_sum c (s.front ++ s.back))
      (let all = ap (λ (l : List First). length (map live (with_sum c l))) (sym s.is) ∙ ap length was in
      let size = map_length (with_sum c (s.front ++ x ∷ s.back)) in
      omega (arith, at_most_one n, longer c s.front x s.back own))

  alone : with_sum c xs ≡ x ∷ []
  alone = ap (with_sum c) s.is ∙ mid_here c s.front x s.back own no_other

  counted : x.live ≡ n
  counted = one_counted x.live n (sym (ap (map live) alone) ∙ was)

-- numbers of descriptors with a sum
from_less : (c n m : ℕ) (t : List Open) → m ≤ n → are_from c n t ≡ true → are_from c m t ≡ true
from_less c n m [] le h = refl
from_less c n m (o ∷ t) le h =
    let parts = and_parts (not (has_sum c o.address) || nat_le n o.fd) (are_from c n t) h in
    and_from (not (has_sum c o.address) || nat_le m o.fd) (are_from c m t)
    (elim (or_cases (not (has_sum c o.address)) (nat_le n o.fd) parts.0) [
      | inl other ↦ or_left (not (has_sum c o.address)) (nat_le m o.fd) other
      | inr most ↦ or_right (not (has_sum c o.address)) (nat_le m o.fd) (let past = leb-true n o.fd most in le-leb m o.fd (omega (arith, le, past)))
    ])
    (from_less c n m t le parts.1)

none_from : (c n : ℕ) (t : List Open) → count_with c t ≡ 0 → are_from c n t ≡ true
none_from c n [] h = refl
none_from c n (o ∷ t) h = elim (cases_Bool (has_sum c o.address)) [
  | inl y ↦ absurd (let some = rw y at h in omega (arith, some))
  | inr other ↦ rw other (none_from c n t (rw other at h))
]

-- descriptors in another order
pub record AreSame (old new : List Open) : Type 0 where
  pub count : (c : ℕ) → count_with c new ≡ count_with c old
  pub from : (c n : ℕ) → are_from c n new ≡ are_from c n old

pub same-firsts : (firsts : List First) (old new : List Open) → AreSame old new → AreFirsts firsts old → AreFirsts firsts new
same-firsts firsts old new same was = record {
  counts = λ c. was.counts c ∙ ap counts_of (sym (same.count c));
  least = λ c. still c (with_sum c firsts) (was.least c);
}
  where
    still : (c : ℕ) (xs : List First) → list_all (λ (f : First). are_from c f.fd old) xs ≡ true → list_all (λ (f : First). are_from c f.fd new) xs ≡ true
    still c [] h = refl
    still c (x ∷ xs) h =
        let parts = and_parts (are_from c x.fd old) (list_all (λ (f : First). are_from c f.fd old) xs) h in
        and_from (are_from c x.fd new) (list_all (λ (f : First). are_from c f.fd new) xs) (same.from c x.fd ∙ parts.0) (still c xs parts.1)

count_append : (c : ℕ) (xs ys : List Open) → count_with c (xs ++ ys) ≡ count_with c xs + count_with c ys
count_append c xs ys =
    let test : Open → Bool = λ o. has_sum c o.address in
    ap length (filter-append test xs ys) ∙ length-append (filter test xs) (filter test ys)

from_append : (c n : ℕ) (xs ys : List Open) → are_from c n (xs ++ ys) ≡ (are_from c n xs && are_from c n ys)
from_append c n xs ys = list_all-append (λ (o : Open). not (has_sum c o.address) || nat_le n o.fd) xs ys

and_swap : (a b c : Bool) → (a && (b && c)) ≡ (b && (a && c))
and_swap true b c = refl
and_swap false true c = refl
and_swap false false c = refl

-- the first ones stand behind the next
swapped : (xs ys zs : List Open) → AreSame (xs ++ (ys ++ zs)) (ys ++ (xs ++ zs))
swapped xs ys zs = record {
  count = λ c. omega (arith, count_append c xs (ys ++ zs), count_append c ys zs, count_append c ys (xs ++ zs), count_append c xs zs);
  from = λ c n. from_append c n ys (xs ++ zs) ∙ ap (λ b. are_from c n ys && b) (from_append c n xs zs)
      ∙ and_swap (are_from c n ys) (are_from c n xs) (are_from c n zs)
      ∙ sym (from_append c n xs (ys ++ zs) ∙ ap (λ b. are_from c n xs && b) (from_append c n ys zs));
}

pub firsts-swap : (firsts : List First) (xs ys zs : List Open) → AreFirsts firsts (xs ++ (ys ++ zs)) → AreFirsts firsts (ys ++ (xs ++ zs))
firsts-swap firsts xs ys zs was = same-firsts firsts (xs ++ (ys ++ zs)) (ys ++ (xs ++ zs)) (swapped xs ys zs) was

pub firsts-out : (firsts : List First) (xs : List Open) (o : Open) (zs : List Open) → AreFirsts firsts (xs ++ o ∷ zs) → AreFirsts firsts (o ∷ (xs ++ zs))
firsts-out firsts xs o zs was = firsts-swap firsts xs (o ∷ []) zs was

-- one more, in its place
put_same : (o : Open) (t : List Open) → AreSame (o ∷ t) (put_open o t)
put_same o [] = record { count = λ c. refl; from = λ c n. refl }
put_same o (x ∷ t) = elim (cases_Bool (nat_lt o.fd x.fd)) [
  | inl below ↦ rw below (record { count = λ c. refl; from = λ c n. refl })
  | inr above ↦ rw above (let ih = put_same o t in let pair = swapped (x ∷ []) (o ∷ []) t in record {
    count = λ c. (let later = ih.count c in let first = pair.count c in
        omega (arith, count_append c (x ∷ []) (put_open o t), count_append c (x ∷ []) (o ∷ t)));
    from = λ c n. from_append c n (x ∷ []) (put_open o t) ∙ ap (λ b. are_from c n (x ∷ []) && b) (ih.from c n)
        ∙ sym (from_append c n (x ∷ []) (o ∷ t)) ∙ sym (pair.from c n);
  })
]

pub firsts-put : (firsts : List First) (o : Open) (t : List Open) → AreFirsts firsts (o ∷ t) → AreFirsts firsts (put_open o t)
firsts-put firsts o t was = same-firsts firsts (o ∷ t) (put_open o t) (put_same o t) was

-- what the entries of a sum tell
pub least-found : (c : ℕ) (firsts : List First) (x : First) → StandsIn key c firsts x → (table : List Open) → AreFirsts firsts table
    → are_from c x.fd table ≡ true
least-found c firsts x s table was =
    (and_parts (are_from c x.fd table) true (ap (list_all (λ (f : First). are_from c f.fd table))
    (sym (alone c (count_with c table) firsts x s (was.counts c))) ∙ was.least c)).0

pub none-found : (c : ℕ) (firsts : List First) → has_key key c firsts ≡ false → (table : List Open) → AreFirsts firsts table → count_with c table ≡ 0
none-found c firsts none table was = none_counted (count_with c table) (ap (map live) (sym (absent_none c firsts none)) ∙ was.counts c)

few_with : (c : ℕ) (t : List Open) → count_with c t ≤ length t
few_with c t = omega (arith, length-filter_both (λ (o : Open). has_sum c o.address) (λ (o : Open). not (has_sum c o.address)) (λ o. refl) t)

-- one more with the sum: the entry for it
record IsNext (c fd : ℕ) (old rest : List First) (next : First) (table : List Open) : Type 0 where
  none : with_sum c rest ≡ []
  others : (k : ℕ) → (c == k) ≡ false → with_sum k rest ≡ with_sum k old
  sum : next.sum ≡ c
  live : next.live ∷ [] ≡ counts_of (suc (count_with c table))
  least : next.fd ≤ fd
  from : are_from c next.fd table ≡ true

next_is : (c fd : ℕ) (old rest : List First × ℕ) (r : Option First) (next : First)
    → IfSome r (λ x. (s : StandsIn key c (old.0) x) × (rest.0 ≡ s.front ++ s.back)) → IfNone r (has_key key c (old.0) ≡ false) → IfNone r (rest ≡ old)
    → IfSome r (λ f. f.live < 2 ^ 60 → next ≡ record { sum = c; fd = min f.fd fd; live = f.live + 1 })
    → IfNone r (next ≡ record { sum = c; fd = fd; live = 1 })
    → (table : List Open) → length table < 2 ^ 60 → AreFirsts (old.0) table → IsNext c fd (old.0) (rest.0) next table
next_is c fd old rest (Some x) next removed absent same more one table few was =
    let s = removed.0 in
    let n = count_with c table in
    let count : x.live ≡ n = counted c n (old.0) x s (was.counts c) in
    let is : next ≡ record { sum = c; fd = min x.fd fd; live = x.live + 1 } = more (let less = few_with c table in omega arith) in
    record {
      none = ap (with_sum c) removed.1 ∙ no_other c n (old.0) x s (was.counts c);
      others = λ k other. ap (with_sum k) removed.1
          ∙ sym (ap (with_sum k) s.is ∙ mid_other k s.front x s.back (ap (λ m. m == k) s.has ∙ other));
      sum = ap (λ (f : First). f.sum) is;
      live = ap (λ (f : First). f.live ∷ []) is ∙ counts_more x.live n count;
      least = subst (λ m. m ≤ fd) (sym (ap (λ (f : First). f.fd) is)) (min-le_right x.fd fd);
      from = ap (λ (f : First). are_from c f.fd table) is
          ∙ from_less c x.fd (min x.fd fd) table (min-le_left x.fd fd) (least-found c (old.0) x s table was);
    }
next_is c fd old rest None next removed absent same more one table few was =
    let none : with_sum c (old.0) ≡ [] = absent_none c (old.0) absent in
    let count : count_with c table ≡ 0 = none-found c (old.0) absent table was in
    record {
      none = ap (λ (l : List First × ℕ). with_sum c (l.0)) same ∙ none;
      others = λ k other. ap (λ (l : List First × ℕ). with_sum k (l.0)) same;
      sum = ap (λ (f : First). f.sum) one;
      live = ap (λ (f : First). f.live ∷ []) one ∙ ap (λ n. counts_of (suc n)) (sym count);
      least = subst (λ m. m ≤ fd) (sym (ap (λ (f : First). f.fd) one)) (omega arith);
      from = none_from c next.fd table count;
    }

module _ (a : List ℕ) (fd : ℕ) (old rest new : List First) (next : First) (table : List Open) (is : IsNext (sum_of a) fd old rest next table)
    (put : new ≡ put_by key next rest) (was : AreFirsts old table) where
  one_there : with_sum (sum_of a) new ≡ next ∷ []
  one_there = ap (with_sum (sum_of a)) put ∙ put_here (sum_of a) next rest is.none (eq-eqb next.sum (sum_of a) is.sum)

  rest_there : (k : ℕ) → (sum_of a == k) ≡ false → with_sum k new ≡ with_sum k old
  rest_there k other = ap (with_sum k) put ∙ put_other k next rest (ap (λ m. m == k) is.sum ∙ other) ∙ is.others k other

  first_from : are_from (sum_of a) next.fd (record { fd = fd; address = Some a } ∷ table) ≡ true
  first_from =
      and_from (not (sum_of a == sum_of a) || nat_le next.fd fd) (are_from (sum_of a) next.fd table)
      (or_right (not (sum_of a == sum_of a)) (nat_le next.fd fd) (le-leb next.fd fd is.least)) is.from

  noted_here : (k : ℕ) → sum_of a ≡ k → (map live (with_sum k new) ≡ counts_of (suc (count_with k table)))
      × (list_all (λ (f : First). are_from k f.fd (record { fd = fd; address = Some a } ∷ table)) (with_sum k new) ≡ true)
  noted_here k same = subst (λ m. (map live (with_sum m new) ≡ counts_of (suc (count_with m table)))
      × (list_all (λ (f : First). are_from m f.fd (record { fd = fd; address = Some a } ∷ table)) (with_sum m new) ≡ true)) same (
        ap (map live) one_there ∙ is.live,
        ap (list_all (λ (f : First). are_from (sum_of a) f.fd (record { fd = fd; address = Some a } ∷ table))) one_there
            ∙ and_from (are_from (sum_of a) next.fd (record { fd = fd; address = Some a } ∷ table)) true first_from refl,
      )

  noted : AreFirsts new (record { fd = fd; address = Some a } ∷ table)
  noted = record {
    counts = λ k. elim (cases_Bool (sum_of a == k)) [
      | inl y ↦ rw y (noted_here k (eqb-true (sum_of a) k y)).0
      | inr other ↦ rw other (ap (map live) (rest_there k other) ∙ was.counts k)
    ];
    least = λ k. elim (cases_Bool (sum_of a == k)) [
      | inl y ↦ (noted_here k (eqb-true (sum_of a) k y)).1
      | inr other ↦ rw other (ap (list_all (λ (f : First). are_from k f.fd table)) (rest_there k other) ∙ was.least k)
    ];
  }

pub noted-firsts : (c : ℕ) (a : List ℕ) (fd : ℕ) (old rest new : List First × ℕ) (r : Option First) (next : First) → c ≡ sum_of a
    → IfSome r (λ x. (s : StandsIn key c (old.0) x) × (rest.0 ≡ s.front ++ s.back)) → IfNone r (has_key key c (old.0) ≡ false) → IfNone r (rest ≡ old)
    → IfSome r (λ f. f.live < 2 ^ 60 → next ≡ record { sum = c; fd = min f.fd fd; live = f.live + 1 })
    → IfNone r (next ≡ record { sum = c; fd = fd; live = 1 }) → new.0 ≡ put_by key next (rest.0)
    → (table : List Open) → length table < 2 ^ 60 → AreFirsts (old.0) table → AreFirsts (new.0) (record { fd = fd; address = Some a } ∷ table)
noted-firsts c a fd old rest new r next sum removed absent same more one put table few was =
    noted a fd (old.0) (rest.0) (new.0) next table
    (subst (λ m. IsNext m fd (old.0) (rest.0) next table) sum (next_is c fd old rest r next removed absent same more one table few was)) put was

-- one with the sum goes
module _ (c : ℕ) (a : List ℕ) (sum : c ≡ sum_of a) (fd : ℕ) (old : List First) (table : List Open)
    (was : AreFirsts old (record { fd = fd; address = Some a } ∷ table)) where
  all_counted : map live (with_sum c old) ≡ counts_of (suc (count_with c table))
  all_counted = subst (λ m. map live (with_sum m old) ≡ counts_of (suc (count_with m table))) (sym sum)
      (rw (eq-eqb (sum_of a) (sum_of a) refl) at (was.counts (sum_of a)))

  one_left_from : (x : First) → StandsIn key c old x → are_from c x.fd table ≡ true
  one_left_from x s =
      (and_parts (not (sum_of a == c) || nat_le x.fd fd) (are_from c x.fd table)
      (and_parts (are_from c x.fd (record { fd = fd; address = Some a } ∷ table)) true
      (ap (list_all (λ (f : First). are_from c f.fd (record { fd = fd; address = Some a } ∷ table)))
      (sym (alone c (suc (count_with c table)) old x s all_counted)) ∙ was.least c)).0).1

  forgotten : (new : List First) → ((k : ℕ) → (c == k) ≡ false → with_sum k new ≡ with_sum k old)
      → map live (with_sum c new) ≡ counts_of (count_with c table)
      → list_all (λ (f : First). are_from c f.fd table) (with_sum c new) ≡ true → AreFirsts new table
  forgotten new others counts least = record {
    counts = λ k. elim (cases_Bool (c == k)) [
      | inl y ↦ subst (λ m. map live (with_sum m new) ≡ counts_of (count_with m table)) (eqb-true c k y) counts
      | inr other ↦ (let apart : (sum_of a == k) ≡ false = ap (λ m. m == k) (sym sum) ∙ other in
          ap (map live) (others k other) ∙ (rw apart at (was.counts k)))
    ];
    least = λ k. elim (cases_Bool (c == k)) [
      | inl y ↦ subst (λ m. list_all (λ (f : First). are_from m f.fd table) (with_sum m new) ≡ true) (eqb-true c k y) least
      | inr other ↦ (let apart : (sum_of a == k) ≡ false = ap (λ m. m == k) (sym sum) ∙ other in
          ap (list_all (λ (f : First). are_from k f.fd table)) (others k other) ∙ (rw apart at (was.least k)))
    ];
  }

  none_absent : has_key key c old ≡ false → ⊥
  none_absent h = let none = none_counted (suc (count_with c table)) (ap (map live) (sym (absent_none c old h)) ∙ all_counted) in omega (arith, none)

  pub forgotten-absent : has_key key c old ≡ false → AreFirsts old table
  forgotten-absent h = absurd (none_absent h)

  pub forgotten-removed : (first : First) → StandsIn key c old first → first.live ≤ 1 → (r : Option First) (rest : List First × ℕ)
      → IfSome r (λ x. (s : StandsIn key c old x) × (rest.0 ≡ s.front ++ s.back)) → IfNone r (has_key key c old ≡ false) → AreFirsts (rest.0) table
  forgotten-removed first there last (Some x) rest removed absent =
      let s = removed.0 in
      let n = count_with c table in
      let count : first.live ≡ suc n = counted c (suc n) old first there all_counted in
      let none : with_sum c (rest.0) ≡ [] = ap (with_sum c) removed.1 ∙ no_other c (suc n) old x s all_counted in
      let zero_is : 0 ≡ n = omega (arith, count, last) in
      forgotten (rest.0)
      (λ k other. ap (with_sum k) removed.1 ∙ sym (ap (with_sum k) s.is ∙ mid_other k s.front x s.back (ap (λ m. m == k) s.has ∙ other)))
      (ap (map live) none ∙ ap counts_of zero_is) (ap (list_all (λ (f : First). are_from c f.fd table)) none)
  forgotten-removed first there last None rest removed absent = absurd (none_absent absent)

  pub forgotten-lowered : (first : First) → StandsIn key c old first → 1 < first.live → (did : Bool) (new : List First)
      → OnTrue did ((x : First) × (s : StandsIn key c old x) × (new ≡ s.front ++ record { sum = c; fd = first.fd; live = first.live - 1 } ∷ s.back))
      → OnFalse did (has_key key c old ≡ false) → AreFirsts new table
  forgotten-lowered first there more true new replaced absent =
      let x = replaced.0 in
      let s = replaced.1 in
      let n = count_with c table in
      let next : First = record { sum = c; fd = first.fd; live = first.live - 1 } in
      let one : with_sum c new ≡ next ∷ [] =
      ap (with_sum c) replaced.2 ∙ mid_here c s.front next s.back (eq-eqb c c refl) (no_other c (suc n) old x s all_counted) in
      forgotten new
      (λ k other. ap (with_sum k) replaced.2 ∙ mid_other k s.front next s.back other
      ∙ sym (ap (with_sum k) s.is ∙ mid_other k s.front x s.back (ap (λ m. m == k) s.has ∙ other)))
      (ap (map live) one ∙ counts_less first.live n (counted c (suc n) old first there all_counted) more)
      (ap (list_all (λ (f : First). are_from c f.fd table)) one ∙ and_from (are_from c first.fd table) true (one_left_from first there) refl)
  forgotten-lowered first there more false new replaced absent = absurd (none_absent absent)

-- a whole table
pub follows-all : (before after : List Open) (old new : List First) → Follows before after old new → AreFirsts old before → AreFirsts new after
follows-all before after old new step was =
    subst (AreFirsts new) (append-nil after) (step [] (subst (AreFirsts old) (sym (append-nil before)) was))

-- one that stands in a table goes
pub follows-out : (first front back after : List Open) (o : Open) (start old new : List First) → Follows first (front ++ o ∷ back) start old
    → after ≡ front ++ back → Forgets o.address old new → Follows first after start new
follows-out first front back after o start old new was is step rest h =
    subst (λ (w : List Open). AreFirsts new (w ++ rest)) (sym is)
    (subst (AreFirsts new) (sym (append_assoc front back rest))
    (step o.fd (front ++ (back ++ rest)) (firsts-out old front o (back ++ rest) (subst (AreFirsts old) (append_assoc front (o ∷ back) rest) (was rest h)))))

-- of the first k descriptors those that pass the test are gone
abbrev pub KeptUpTo : (Open → Bool) → List Open → List First → List First → ℕ → Type 0
KeptUpTo done table old here k = Follows table (filter (λ (o : Open). not (done o)) (take k table) ++ drop k table) old here

module _ (done : Open → Bool) (table : List Open) (k : ℕ) (x : Open) (lt : k < length table) (is : x ≡ get_or table k x) (old here : List First)
    (was : KeptUpTo done table old here k) where
  behind : drop k table ≡ x ∷ drop (k + 1) table
  behind = let one : suc k ≡ k + 1 = omega arith in
      drop-cons table k x lt ∙ ap (λ y. y ∷ drop (suc k) table) (sym is) ∙ ap (λ n. x ∷ drop n table) one

  front_next : filter (λ (o : Open). not (done o)) (take (k + 1) table)
      ≡ filter (λ (o : Open). not (done o)) (take k table) ++ filter (λ (o : Open). not (done o)) (x ∷ [])
  front_next = ap (filter (λ (o : Open). not (done o))) (take_more table k x lt ∙ ap (λ y. take k table ++ y ∷ []) (sym is))
      ∙ filter-append (λ (o : Open). not (done o)) (take k table) (x ∷ [])

  pub kept-here : (next : List First) → done x ≡ true → Forgets x.address here next → KeptUpTo done table old next (k + 1)
  kept-here next h step =
      follows-out table (filter (λ (o : Open). not (done o)) (take k table)) (drop (k + 1) table)
      (filter (λ (o : Open). not (done o)) (take (k + 1) table) ++ drop (k + 1) table) x old here next
      (subst (λ (w : List Open). Follows table (filter (λ (o : Open). not (done o)) (take k table) ++ w) old here) behind was)
      (ap (λ (w : List Open). w ++ drop (k + 1) table) (front_next
      ∙ (rw h (append-nil (filter (λ (o : Open). not (done o)) (take k table))))))
      step

  pub kept-past : done x ≡ false → KeptUpTo done table old here (k + 1)
  kept-past h = subst (λ (w : List Open). Follows table w old here)
      (ap (λ (w : List Open). filter (λ (o : Open). not (done o)) (take k table) ++ w) behind
      ∙ sym (append_assoc (filter (λ (o : Open). not (done o)) (take k table)) (x ∷ []) (drop (k + 1) table))
      ∙ ap (λ (w : List Open). w ++ drop (k + 1) table) (sym (front_next ∙ (rw h refl)))) was

none_behind : {T : Type 0} (xs : List T) (n : ℕ) → length xs ≤ n → drop n xs ≡ []
none_behind [] zero h = refl
none_behind [] (suc n) h = refl
none_behind (y ∷ xs) zero h = absurd (omega arith)
none_behind (y ∷ xs) (suc n) h = none_behind xs n (omega arith)

-- the same of the first k blocks
abbrev pub KeptBlocks : {Z : Type 0} → (Open → Bool) → List (Vec Open Z) → List First → List First → ℕ → Type 0
KeptBlocks done bs old here k = Follows (joined bs) (filter (λ (o : Open). not (done o)) (joined (take k bs)) ++ joined (drop k bs)) old here

pub kept-block : {Z : Type 0} (done : Open → Bool) (bs : List (Vec Open Z)) (k : ℕ) (b : Vec Open Z) → k < length bs → b ≡ get_or bs k b
    → (old here next : List First) → KeptBlocks done bs old here k → Follows b.items (filter (λ (o : Open). not (done o)) b.items) here next
    → KeptBlocks done bs old next (k + 1)
kept-block done bs k b lt is old here next was step rest h =
    let left : List Open → List Open = filter (λ (o : Open). not (done o)) in
    let front = left (joined (take k bs)) in
    let back = joined (drop (k + 1) bs) in
    let there : AreFirsts here (front ++ (b.items ++ (back ++ rest))) =
    subst (AreFirsts here) (ap (λ (w : List Open). (front ++ w) ++ rest) (joined-back bs k b lt is) ∙ append_assoc front (b.items ++ back) rest
    ∙ ap (λ (w : List Open). front ++ w) (append_assoc b.items back rest)) (was rest h) in
    let gone : AreFirsts next (front ++ (left b.items ++ (back ++ rest))) =
    firsts-swap next (left b.items) front (back ++ rest) (step (front ++ (back ++ rest)) (firsts-swap here front b.items (back ++ rest) there)) in
    subst (AreFirsts next) (sym (ap (λ (w : List Open). (w ++ back) ++ rest)
    (ap left (joined-front bs k b lt is) ∙ filter-append (λ (o : Open). not (done o)) (joined (take k bs)) b.items)
    ∙ append_assoc (front ++ left b.items) back rest ∙ append_assoc front (left b.items) (back ++ rest))) gone

pub kept-blocks-end : {Z : Type 0} (done : Open → Bool) (bs here_bs : List (Vec Open Z)) (k : ℕ) (old here : List First) → length bs ≤ k
    → joined here_bs ≡ filter (λ (o : Open). not (done o)) (joined bs) → KeptBlocks done bs old here k → Follows (joined bs) (joined here_bs) old here
kept-blocks-end done bs here_bs k old here end left was =
    subst (λ (w : List Open). Follows (joined bs) w old here)
    (ap (λ (w : List (Vec Open _)). filter (λ (o : Open). not (done o)) (joined (take k bs)) ++ joined w) (none_behind bs k end)
    ∙ append-nil (filter (λ (o : Open). not (done o)) (joined (take k bs)))
    ∙ ap (λ (w : List (Vec Open _)). filter (λ (o : Open). not (done o)) (joined w)) (take_all k bs end) ∙ sym left) was
