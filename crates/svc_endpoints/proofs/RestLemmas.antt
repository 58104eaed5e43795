-- A table without the descriptors of some addresses.
use Rattle.std.proofs.Common.{ℕ, Bool, true, false, ◌==◌, not, inl, inr, List, [], ◌∷◌, ◌≡◌, refl, ap, sym, ◌∙◌, subst, arith, ◌+◌, length, Option, Some, None, filter}
use Rattle.std.specs.List.{list_any}
use Rattle.std.proofs.lemmas.Bool.{cases_Bool, and_parts, and_from, or_left, or_right, or_cases, or_parts, eq-eqb, eqb-true, ne_eqb}
use Rattle.svc_record.specs.Plans.{same_address}
use Rattle.svc_endpoints.specs.declared.table.Open.{Open}
use Rattle.svc_endpoints.specs.EndpointsState.{numbers_with, numbers_of_table}
use Rattle.svc_base.specs.NumberSets.{is_in, distinct}
use Rattle.svc_endpoints.specs.Effects.{passes, numbers_out, without_numbers}
use Rattle.svc_endpoints.proofs.LiveLemmas.{same_eq, same_self}
use Rattle.svc_endpoints.proofs.CloseLemmas.{left_out}
use Rattle.svc_base.proofs.Logic.{apart_from, not_in, clash}

pub left-none : (ns xs : List ℕ) → ((g : ℕ) → is_in g xs ≡ true → is_in g ns ≡ false) → left_out ns xs ≡ xs
left-none ns [] h = refl
left-none ns (x ∷ xs) h =
    rw (h x (or_left (x == x) (is_in x xs) (eq-eqb x x refl))) (ap (λ w. x ∷ w) (left-none ns xs (λ g there. h g (or_right (x == g) (is_in g xs) there))))

none_same : (a : Option (List ℕ)) → same_address a None ≡ false
none_same (Some x) = refl
none_same None = refl

pub with-None : (t : List Open) → numbers_with t None ≡ []
with-None [] = refl
with-None (o ∷ more) = rw (none_same o.address) (with-None more)

-- no number stands twice among some of them
pub part_in : (f : Open → Bool) (g : ℕ) (t : List Open) → is_in g (numbers_of_table (filter f t)) ≡ true → is_in g (numbers_of_table t) ≡ true
part_in f g [] h = h
part_in f g (o ∷ more) h = elim (cases_Bool (f o)) [
  | inl y ↦ elim (or_cases (o.fd == g) (is_in g (numbers_of_table (filter f more))) (rw y at h)) [
    | inl here ↦ or_left (o.fd == g) (is_in g (numbers_of_table more)) here
    | inr later ↦ or_right (o.fd == g) (is_in g (numbers_of_table more)) (part_in f g more later)
  ]
  | inr n ↦ or_right (o.fd == g) (is_in g (numbers_of_table more)) (part_in f g more (rw n at h))
]

not_part : (f : Open → Bool) (g : ℕ) (t : List Open) → is_in g (numbers_of_table t) ≡ false → is_in g (numbers_of_table (filter f t)) ≡ false
not_part f g t h = elim (cases_Bool (is_in g (numbers_of_table (filter f t)))) [
  | inl y ↦ absurd (clash (is_in g (numbers_of_table t)) (part_in f g t y) h)
  | inr n ↦ n
]

pub distinct-part : (f : Open → Bool) (t : List Open) → distinct (numbers_of_table t) ≡ true → distinct (numbers_of_table (filter f t)) ≡ true
distinct-part f [] h = refl
distinct-part f (o ∷ more) h =
    let parts = and_parts (not (is_in o.fd (numbers_of_table more))) (distinct (numbers_of_table more)) h in
    elim (cases_Bool (f o)) [
      | inl y ↦ rw y (and_from (not (is_in o.fd (numbers_of_table (filter f more)))) (distinct (numbers_of_table (filter f more)))
          (not_in (is_in o.fd (numbers_of_table (filter f more))) (not_part f o.fd more (apart_from (is_in o.fd (numbers_of_table more)) parts.0)))
          (distinct-part f more parts.1))
      | inr n ↦ rw n (distinct-part f more parts.1)
    ]

-- closing a number that none of them has leaves them
skip_number : (n : ℕ) (ns : List ℕ) (t : List Open) → is_in n (numbers_of_table t) ≡ false → without_numbers (n ∷ ns) t ≡ without_numbers ns t
skip_number n ns [] h = refl
skip_number n ns (o ∷ more) h =
    let parts = or_parts (o.fd == n) (is_in n (numbers_of_table more)) h in
    let off : (n == o.fd) ≡ false = ne_eqb n o.fd (λ e. clash (o.fd == n) (eq-eqb o.fd n (sym e)) parts.0) in
    elim (cases_Bool (is_in o.fd ns)) [
      | inl y ↦ rw (off, y) (skip_number n ns more parts.1)
      | inr m ↦ rw (off, m) (ap (λ w. o ∷ w) (skip_number n ns more parts.1))
    ]

-- where no number stands twice, what is left is told by the numbers of the others
pub part-by-number : (f : Open → Bool) (t : List Open) → distinct (numbers_of_table t) ≡ true
    → without_numbers (numbers_of_table (filter f t)) t ≡ filter (λ (o : Open). not (f o)) t
part-by-number f [] h = refl
part-by-number f (o ∷ more) h =
    let parts = and_parts (not (is_in o.fd (numbers_of_table more))) (distinct (numbers_of_table more)) h in
    let alone = apart_from (is_in o.fd (numbers_of_table more)) parts.0 in
    let ih = part-by-number f more parts.1 in
    elim (cases_Bool (f o)) [
      | inl y ↦ ap (λ w. without_numbers (numbers_of_table w) (o ∷ more)) (filter_here y)
          ∙ (rw (y, eq-eqb o.fd o.fd refl) (skip_number o.fd (numbers_of_table (filter f more)) more alone ∙ ih))
      | inr n ↦ ap (λ w. without_numbers (numbers_of_table w) (o ∷ more)) (filter_past n) ∙ (rw (n, not_part f o.fd more alone) (ap (λ w. o ∷ w) ih))
    ]
  where
    filter_here : f o ≡ true → filter f (o ∷ more) ≡ o ∷ filter f more
    filter_here y = rw y refl

    filter_past : f o ≡ false → filter f (o ∷ more) ≡ filter f more
    filter_past n = rw n refl

pub numbers-without : (ns : List ℕ) (t : List Open) → numbers_of_table (without_numbers ns t) ≡ left_out ns (numbers_of_table t)
numbers-without ns [] = refl
numbers-without ns (o ∷ more) = elim (cases_Bool (is_in o.fd ns)) [
  | inl y ↦ rw y (numbers-without ns more)
  | inr n ↦ rw n (ap (λ w. o.fd ∷ w) (numbers-without ns more))
]

pub with-without : (ns : List ℕ) (t : List Open) (a : Option (List ℕ)) → numbers_with (without_numbers ns t) a ≡ left_out ns (numbers_with t a)
with-without ns [] a = refl
with-without ns (o ∷ more) a = elim (cases_Bool (is_in o.fd ns)) [
  | inl y ↦ elim (cases_Bool (same_address o.address a)) [
    | inl s ↦ rw (y, s, y) (with-without ns more a)
    | inr n ↦ rw (y, n) (with-without ns more a)
  ]
  | inr off ↦ elim (cases_Bool (same_address o.address a)) [
    | inl s ↦ rw (off, s, off) (ap (λ w. o.fd ∷ w) (with-without ns more a))
    | inr n ↦ rw (off, n) (with-without ns more a)
  ]
]

-- the numbers of those that pass a test
abbrev pub picked : (Open → Bool) → List Open → List ℕ
picked f t = numbers_of_table (filter f t)

-- those that don't
abbrev pub unpicked : (Open → Bool) → List Open → List Open
unpicked f t = filter (λ (o : Open). not (f o)) t

module _ (f : Open → Bool) where
  pub picked-length : (t : List Open) → length (unpicked f t) + length (picked f t) ≡ length t
  picked-length [] = refl
  picked-length (o ∷ more) = let h = picked-length more in elim (cases_Bool (f o)) [
    | inl y ↦ rw y (omega (arith, h))
    | inr n ↦ rw n (omega (arith, h))
  ]

  -- where no number stands twice
  pub picked-numbers : (t : List Open) → distinct (numbers_of_table t) ≡ true → numbers_of_table (unpicked f t) ≡ left_out (picked f t) (numbers_of_table t)
  picked-numbers t apart = ap numbers_of_table (sym (part-by-number f t apart)) ∙ numbers-without (picked f t) t

  pub picked-with : (t : List Open) → distinct (numbers_of_table t) ≡ true → (a : Option (List ℕ))
      → numbers_with (unpicked f t) a ≡ left_out (picked f t) (numbers_with t a)
  picked-with t apart a = ap (λ w. numbers_with w a) (sym (part-by-number f t apart)) ∙ with-without (picked f t) t a

  -- where none with this address passes
  pub picked-stays : (a : Option (List ℕ)) → ((o : Open) → same_address o.address a ≡ true → f o ≡ false) → (t : List Open)
      → numbers_with (unpicked f t) a ≡ numbers_with t a
  picked-stays a none [] = refl
  picked-stays a none (o ∷ more) = elim (cases_Bool (same_address o.address a)) [
    | inl s ↦ rw (none o s, s) (ap (λ v. o.fd ∷ v) (picked-stays a none more))
    | inr m ↦ elim (cases_Bool (f o)) [
      | inl y ↦ rw (y, m) (picked-stays a none more)
      | inr n ↦ rw (n, m) (picked-stays a none more)
    ]
  ]

  in_more : (o : Open) (more : List Open) (g : ℕ) (a : Option (List ℕ)) → is_in g (numbers_with more a) ≡ true → is_in g (numbers_with (o ∷ more) a) ≡ true
  in_more o more g a h = elim (cases_Bool (same_address o.address a)) [
    | inl s ↦ rw s (or_right (o.fd == g) (is_in g (numbers_with more a)) h)
    | inr n ↦ rw n h
  ]

  in_here : (o : Open) (more : List Open) (g : ℕ) (w : List ℕ) → o.address ≡ Some w → (o.fd == g) ≡ true → is_in g (numbers_with (o ∷ more) (Some w)) ≡ true
  in_here o more g w e first =
      let same : same_address o.address (Some w) ≡ true = subst (λ v. same_address v (Some w) ≡ true) (sym e) (same_self w) in
      rw same (or_left (o.fd == g) (is_in g (numbers_with more (Some w))) first)

  -- a number of one that passes, and where it stands
  pub picked-from : (t : List Open) (g : ℕ) → is_in g (picked f t) ≡ true
      → (o : Open) × (f o ≡ true) × ((o.fd == g) ≡ true) × ((w : List ℕ) → o.address ≡ Some w → is_in g (numbers_with t (Some w)) ≡ true)
  picked-from [] g e = absurd (cc)
  picked-from (o ∷ more) g e = elim (cases_Bool (f o)) [
    | inl y ↦ elim (or_cases (o.fd == g) (is_in g (picked f more)) (rw y at e)) [
      | inl first ↦ (o, y, first, λ w at. in_here o more g w at first)
      | inr later ↦ (let r = picked-from more g later in (r.0, r.1, r.2, λ w at. in_more o more g (Some w) (r.3 w at)))
    ]
    | inr n ↦ (let r = picked-from more g (rw n at e) in (r.0, r.1, r.2, λ w at. in_more o more g (Some w) (r.3 w at)))
  ]

  pub none-picked : (t : List Open) → list_any f (unpicked f t) ≡ false
  none-picked [] = refl
  none-picked (o ∷ more) = elim (cases_Bool (f o)) [
    | inl y ↦ rw y (none-picked more)
    | inr n ↦ rw (n, n) (none-picked more)
  ]

  -- a number of the address, where each with both passes
  pub picks-some : (g : ℕ) (w : List ℕ) → ((o : Open) → o.address ≡ Some w → o.fd ≡ g → f o ≡ true) → (t : List Open) → is_in g (numbers_with t (Some w)) ≡ true
      → list_any f t ≡ true
  picks-some g w each [] h = absurd (cc)
  picks-some g w each (o ∷ more) h = elim (cases_Bool (same_address o.address (Some w))) [
    | inl s ↦ elim (or_cases (o.fd == g) (is_in g (numbers_with more (Some w))) (rw s at h)) [
      | inl here ↦ or_left (f o) (list_any f more) (each o (same_eq o.address (Some w) s) (eqb-true o.fd g here))
      | inr later ↦ or_right (f o) (list_any f more) (picks-some g w each more later)
    ]
    | inr n ↦ or_right (f o) (list_any f more) (picks-some g w each more (rw n at h))
  ]

module _ (gone : List ℕ → Bool) where
  -- what stays, and the numbers of the others
  abbrev pub rest : List Open → List Open
  rest t = filter (λ (o : Open). not (passes gone o.address)) t

  abbrev pub out : List Open → List ℕ
  out t = numbers_out gone t

  pub some-passes : (a : Option (List ℕ)) → passes gone a ≡ true → (w : List ℕ) × (a ≡ Some w) × (gone w ≡ true)
  some-passes (Some w) h = (w, refl, h)
  some-passes None h = absurd (cc)

  pub passes-at : (a : Option (List ℕ)) (w : List ℕ) (b : Bool) → same_address a (Some w) ≡ true → gone w ≡ b → passes gone a ≡ b
  passes-at a w b same h = ap (passes gone) (same_eq a (Some w) same) ∙ h

  pub rest-gone : (w : List ℕ) → gone w ≡ true → (t : List Open) → numbers_with (rest t) (Some w) ≡ []
  rest-gone w h [] = refl
  rest-gone w h (o ∷ more) = elim (cases_Bool (passes gone o.address)) [
    | inl y ↦ rw y (rest-gone w h more)
    | inr n ↦ elim (cases_Bool (same_address o.address (Some w))) [
      | inl s ↦ absurd (clash (passes gone o.address) (passes-at o.address w true s h) n)
      | inr m ↦ rw (n, m) (rest-gone w h more)
    ]
  ]

  pub rest-stays : (w : List ℕ) → gone w ≡ false → (t : List Open) → numbers_with (rest t) (Some w) ≡ numbers_with t (Some w)
  rest-stays w h [] = refl
  rest-stays w h (o ∷ more) = elim (cases_Bool (passes gone o.address)) [
    | inl y ↦ elim (cases_Bool (same_address o.address (Some w))) [
      | inl s ↦ absurd (clash (passes gone o.address) y (passes-at o.address w false s h))
      | inr m ↦ rw (y, m) (rest-stays w h more)
    ]
    | inr n ↦ elim (cases_Bool (same_address o.address (Some w))) [
      | inl s ↦ rw (n, s) (ap (λ v. o.fd ∷ v) (rest-stays w h more))
      | inr m ↦ rw (n, m) (rest-stays w h more)
    ]
  ]

  pub rest-out-length : (t : List Open) → length (rest t) + length (out t) ≡ length t
  rest-out-length t = picked-length (λ (o : Open). passes gone o.address) t
