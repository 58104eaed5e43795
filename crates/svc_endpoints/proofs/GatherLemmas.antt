-- Numbers and descriptors that are taken one after the other.
use Rattle.std.proofs.Common.{ℕ, zero, suc, Bool, true, false, ◌||◌, ◌&&◌, ◌==◌, not, ◌⊎◌, inl, inr, List, [], ◌∷◌, ◌++◌, ◌≡◌, refl, ap, sym, ◌∙◌, subst, arith, ◌<◌, ◌≤◌, ◌+◌, length, append-nil, append_assoc, map, filter, nat_lt, Option, Some, None, if◌then◌else◌, slice_get, get_or, take, drop}
use Rattle.std.proofs.lemmas.Bool.{cases_Bool, and_parts, or_left, eq-eqb, eqb-true}
use Rattle.std.proofs.lemmas.List.{drop_more, take_more, map-append}
use Rattle.std.proofs.lemmas.List.Elements.{filter-append}
use Rattle.svc_record.specs.declared.action.Action.{Action}
use Rattle.svc_record.specs.declared.action.Action.TheVariants.{Close}
use Rattle.svc_record.specs.Plans.{same_address}
use Rattle.svc_base.specs.NumberSets.{put_number, ascending, is_in}
use Rattle.svc_record.specs.Tail.{each_once}
use Rattle.svc_record.proofs.Tallies.{is_in-filter}
use Rattle.svc_endpoints.specs.declared.table.Open.{Open}
use Rattle.svc_endpoints.specs.EndpointsState.{all_new, numbers_with, numbers_of_table}
use Rattle.svc_endpoints.specs.Effects.{passes, put_open, put_opens, put_numbers, opens_of, numbers_out}
use Rattle.svc_base.proofs.NumberSetLemmas.{any-put, length-put}
use Rattle.svc_base.proofs.Logic.{apart_from}
use Rattle.svc_endpoints.proofs.TableLemmas.{numbers_of-put}
use Rattle.svc_endpoints.proofs.LiveLemmas.{numbers_with-put, same_self}
use Rattle.svc_endpoints.proofs.RestLemmas.{with-None, rest-out-length}
use Rattle.svc_endpoints.proofs.BoundStands.{longer}

-- the order in which two numbers are put doesn't matter
both_equal : (a b : ℕ) → nat_lt a b ≡ false → nat_lt b a ≡ false → a ≡ b
both_equal a b h g = grind arith

two : (a b : ℕ) (rest : List ℕ) → (if nat_lt a b then a ∷ b ∷ rest else b ∷ a ∷ rest) ≡ (if nat_lt b a then b ∷ a ∷ rest else a ∷ b ∷ rest)
two a b rest = elim (cases_Bool (nat_lt a b)) [
  | inl x ↦ rw (x, not_back a b x) refl
  | inr n ↦ elim (cases_Bool (nat_lt b a)) [
    | inl y ↦ rw (n, y) refl
    | inr m ↦ (let e = both_equal a b n m in rw (n, m) (subst (λ c. b ∷ c ∷ rest ≡ c ∷ b ∷ rest) (sym e) refl))
  ]
]
  where
    not_back : (a b : ℕ) → nat_lt a b ≡ true → nat_lt b a ≡ false
    not_back a b h = grind arith

behind : (a b m : ℕ) → nat_lt a m ≡ true → nat_lt b m ≡ false → nat_lt b a ≡ false
behind a b m h g = grind arith

put_below : (n m : ℕ) (more : List ℕ) → nat_lt n m ≡ true → put_number n (m ∷ more) ≡ n ∷ m ∷ more
put_below n m more h = rw h refl

put_above : (n m : ℕ) (more : List ℕ) → nat_lt n m ≡ false → put_number n (m ∷ more) ≡ m ∷ put_number n more
put_above n m more h = rw h refl

put-swap : (a b : ℕ) (xs : List ℕ) → put_number a (put_number b xs) ≡ put_number b (put_number a xs)
put-swap a b [] = two a b []
put-swap a b (m ∷ more) = elim (cases_Bool (nat_lt a m)) [
  | inl x ↦ elim (cases_Bool (nat_lt b m)) [
    | inl y ↦ ap (put_number a) (put_below b m more y) ∙ ap (λ w. if nat_lt a b then a ∷ b ∷ m ∷ more else b ∷ w) (put_below a m more x)
        ∙ two a b (m ∷ more) ∙ sym (ap (put_number b) (put_below a m more x) ∙ ap (λ w. if nat_lt b a then b ∷ a ∷ m ∷ more else a ∷ w) (put_below b m more y))
    | inr n ↦ ap (put_number a) (put_above b m more n) ∙ put_below a m (put_number b more) x
        ∙ sym (ap (put_number b) (put_below a m more x) ∙ put_above b a (m ∷ more) (behind a b m x n) ∙ ap (λ w. a ∷ w) (put_above b m more n))
  ]
  | inr k ↦ elim (cases_Bool (nat_lt b m)) [
    | inl y ↦ ap (put_number a) (put_below b m more y) ∙ put_above a b (m ∷ more) (behind b a m y k) ∙ ap (λ w. b ∷ w) (put_above a m more k)
        ∙ sym (ap (put_number b) (put_above a m more k) ∙ put_below b m (put_number a more) y)
    | inr n ↦ ap (put_number a) (put_above b m more n) ∙ put_above a m (put_number b more) k ∙ ap (λ w. m ∷ w) (put-swap a b more)
        ∙ sym (ap (put_number b) (put_above a m more k) ∙ put_above b m (put_number a more) n)
  ]
]

pub puts-put : (fds : List ℕ) (n : ℕ) (xs : List ℕ) → put_numbers fds (put_number n xs) ≡ put_number n (put_numbers fds xs)
puts-put [] n xs = refl
puts-put (fd ∷ fds) n xs = ap (put_numbers fds) (put-swap fd n xs) ∙ puts-put fds n (put_number fd xs)

pub puts-ascending : (fds xs : List ℕ) → put_numbers fds (ascending xs) ≡ ascending (fds ++ xs)
puts-ascending [] xs = refl
puts-ascending (fd ∷ fds) xs = puts-put fds fd (ascending xs) ∙ ap (put_number fd) (puts-ascending fds xs)

new_put : (came : List ℕ) (n : ℕ) (fds : List ℕ) → is_in n fds ≡ false → all_new came fds ≡ true → all_new (put_number n came) fds ≡ true
new_put came n [] none h = refl
new_put came n (fd ∷ fds) none h =
    let parts = and_parts (not (is_in fd came) && not (is_in fd fds)) (all_new came fds) h in
    let here = and_parts (not (is_in fd came)) (not (is_in fd fds)) parts.0 in
    rw (any-put (λ x. x == fd) n came, other fd n fds none, apart_from (is_in fd came) here.0, apart_from (is_in fd fds) here.1)
    (new_put came n fds (later fd n fds none) parts.1)
  where
    other : (fd n : ℕ) (fds : List ℕ) → is_in n (fd ∷ fds) ≡ false → (n == fd) ≡ false
    other fd n fds e = elim (cases_Bool (n == fd)) [
      | inl y ↦ absurd (let here = or_left (fd == n) (is_in n fds) (eq-eqb fd n (sym (eqb-true n fd y))) in cc)
      | inr m ↦ m
    ]

    later : (fd n : ℕ) (fds : List ℕ) → is_in n (fd ∷ fds) ≡ false → is_in n fds ≡ false
    later fd n fds e = second (fd == n) (is_in n fds) e
      where
        second : (a b : Bool) → (a || b) ≡ false → b ≡ false
        second a b h = grind arith

pub new-more : (came : List ℕ) (fd : ℕ) (fds : List ℕ) → all_new came (fd ∷ fds) ≡ true → all_new (put_number fd came) fds ≡ true
new-more came fd fds h = let parts = and_parts (not (is_in fd came) && not (is_in fd fds)) (all_new came fds) h in
    new_put came fd fds (apart_from (is_in fd fds) (and_parts (not (is_in fd came)) (not (is_in fd fds)) parts.0).1) parts.1

pub new-rest : (came : List ℕ) (fd : ℕ) (fds : List ℕ) → all_new came (fd ∷ fds) ≡ true → all_new came fds ≡ true
new-rest came fd fds h = (and_parts (not (is_in fd came) && not (is_in fd fds)) (all_new came fds) h).1

-- the numbers of a table with some more
pub numbers-puts : (opens table : List Open) → numbers_of_table (put_opens opens table) ≡ put_numbers (numbers_of_table opens) (numbers_of_table table)
numbers-puts [] table = refl
numbers-puts (o ∷ more) table = numbers-puts more (put_open o table) ∙ ap (put_numbers (numbers_of_table more)) (numbers_of-put o table)

pub length-puts : (opens table : List Open) → length (put_opens opens table) ≡ length opens + length table
length-puts [] table = omega arith
length-puts (o ∷ more) table = let h = length-puts more (put_open o table) in let g = longer o table in omega (arith, h, g)

-- where an address then has one descriptor at most
nil_both : (n : ℕ) (xs ys : List ℕ) → length ((n ∷ xs) ++ ys) ≤ 1 → (xs ≡ []) × (ys ≡ [])
nil_both n [] [] h = (refl, refl)
nil_both n [] (y ∷ ys) h = absurd (omega arith)
nil_both n (x ∷ xs) ys h = absurd (omega arith)

none_at : (o : Open) (more table : List Open) → ((a : Option (List ℕ)) → length (numbers_with (o ∷ more) a ++ numbers_with table a) ≤ 1) → (a : Option (List ℕ))
    → same_address o.address a ≡ true → (numbers_with more a ≡ []) × (numbers_with table a ≡ [])
none_at o more table one a same = nil_both o.fd (numbers_with more a) (numbers_with table a) (rw same at (one a))

none_own : (o : Open) (more table : List Open) → ((a : Option (List ℕ)) → length (numbers_with (o ∷ more) a ++ numbers_with table a) ≤ 1)
    → numbers_with table o.address ≡ []
none_own o more table one = by_address o.address refl
  where
    by_address : (b : Option (List ℕ)) → o.address ≡ b → numbers_with table o.address ≡ []
    by_address None e = ap (numbers_with table) e ∙ with-None table
    by_address (Some w) e =
        ap (numbers_with table) e ∙ (none_at o more table one (Some w) (subst (λ v. same_address v (Some w) ≡ true) (sym e) (same_self w))).1

pub with-puts : (opens table : List Open) → ((a : Option (List ℕ)) → length (numbers_with opens a ++ numbers_with table a) ≤ 1) → (a : Option (List ℕ))
    → numbers_with (put_opens opens table) a ≡ numbers_with opens a ++ numbers_with table a
with-puts [] table one a = refl
with-puts (o ∷ more) table one a =
    let put = numbers_with-put o table (none_own o more table one) in
    with-puts more (put_open o table)
    (λ b. subst (λ (w : List ℕ). length (numbers_with more b ++ w) ≤ 1) (sym (put b)) (fewer b (cases_Bool (same_address o.address b)))) a
    ∙ ap (λ w. numbers_with more a ++ w) (put a)
    ∙ elim (cases_Bool (same_address o.address a)) [
      | inl y ↦ (let none = none_at o more table one a y in rw (y, none.0, none.1) refl)
      | inr n ↦ rw n refl
    ]
  where
    fewer : (b : Option (List ℕ)) → ((same_address o.address b ≡ true) ⊎ (same_address o.address b ≡ false))
        → length (numbers_with more b ++ (if same_address o.address b then o.fd ∷ [] else numbers_with table b)) ≤ 1
    fewer b (inl y) = let none = none_at o more table one b y in rw (y, none.0) (omega arith)
    fewer b (inr n) = rw n (rw n at (one b))

-- each number with its word
pub numbers-opens : (fds : List ℕ) (words : List (List ℕ)) → numbers_of_table (opens_of fds words) ≡ fds
numbers-opens [] words = refl
numbers-opens (fd ∷ fds) [] = ap (λ w. fd ∷ w) (numbers-opens fds [])
numbers-opens (fd ∷ fds) (w ∷ words) = ap (λ v. fd ∷ v) (numbers-opens fds words)

words_at : (fd : ℕ) (fds : List ℕ) (words : List (List ℕ)) (k : ℕ)
    → opens_of (fd ∷ fds) (drop k words) ≡ record { fd = fd; address = slice_get words k } ∷ opens_of fds (drop (suc k) words)
words_at fd fds [] zero = refl
words_at fd fds [] (suc k) = refl
words_at fd fds (w ∷ words) zero = refl
words_at fd fds (w ∷ words) (suc k) = words_at fd fds words k

pub out-next : (gone : List ℕ → Bool) (fds out : List ℕ) (words : List (List ℕ)) (k : ℕ) → k < length fds
    → put_numbers (numbers_out gone (opens_of (drop (k + 1) fds) (drop (k + 1) words)))
    (if passes gone (slice_get words k) then put_number (get_or fds k 0) out else out)
    ≡ put_numbers (numbers_out gone (opens_of (drop k fds) (drop k words))) out
out-next gone fds out words k lt =
    step (passes gone (slice_get words k)) refl
    ∙ ap (λ w. put_numbers (numbers_out gone w) out)
    (sym (ap (λ w. opens_of w (drop k words)) (drop_more fds k 0 lt) ∙ words_at (get_or fds k 0) (drop (k + 1) fds) words k
    ∙ ap (λ n. record { fd = get_or fds k 0; address = slice_get words k } ∷ opens_of (drop (k + 1) fds) (drop n words)) one))
  where
    one : suc k ≡ k + 1
    one = omega arith

    step : (b : Bool) → passes gone (slice_get words k) ≡ b
        → put_numbers (numbers_out gone (opens_of (drop (k + 1) fds) (drop (k + 1) words)))
        (if passes gone (slice_get words k) then put_number (get_or fds k 0) out else out)
        ≡ put_numbers (numbers_out gone (record { fd = get_or fds k 0; address = slice_get words k } ∷ opens_of (drop (k + 1) fds) (drop (k + 1) words))) out
    step true y = rw y refl
    step false n = rw n refl

-- one more number, once
once_more : (xs : List ℕ) (n : ℕ) → each_once (xs ++ n ∷ []) ≡ (if is_in n xs then each_once xs else each_once xs ++ n ∷ [])
once_more [] n = refl
once_more (m ∷ xs) n = ap (λ w. m ∷ filter (λ k. not (k == m)) w) (once_more xs n) ∙ elim (cases_Bool (is_in n xs)) [
  | inl y ↦ elim (cases_Bool (m == n)) [
    | inl z ↦ rw (y, z) refl
    | inr z ↦ rw (y, z) refl
  ]
  | inr off ↦ rw off (ap (λ w. m ∷ w) (filter-append (λ k. not (k == m)) (each_once xs) (n ∷ [])) ∙ elim (cases_Bool (m == n)) [
    | inl same ↦ (let back = eq-eqb n m (sym (eqb-true m n same)) in rw (same, back) (ap (λ w. m ∷ w) (append-nil (filter (λ k. not (k == m)) (each_once xs)))))
    | inr other ↦ (let back = apart m n other in rw (other, back) refl)
  ])
]
  where
    apart : (m n : ℕ) → (m == n) ≡ false → (n == m) ≡ false
    apart m n e = elim (cases_Bool (n == m)) [
      | inl y ↦ absurd (let here = eq-eqb m n (sym (eqb-true n m y)) in cc)
      | inr k ↦ k
    ]

pub once-next : (test : ℕ → Bool) (fds : List ℕ) (k : ℕ) → k < length fds
    → each_once (filter test (take (k + 1) fds))
    ≡ (if test (get_or fds k 0)
    && not (is_in (get_or fds k 0) (take k fds)) then each_once (filter test (take k fds)) ++ get_or fds k 0 ∷ [] else each_once (filter test (take k fds)))
once-next test fds k lt =
    ap (λ w. each_once (filter test w)) (take_more fds k 0 lt) ∙ ap each_once (filter-append test (take k fds) (get_or fds k 0 ∷ []))
    ∙ by_test (take k fds) (get_or fds k 0)
  where
    by_test : (xs : List ℕ) (n : ℕ)
        → each_once (filter test xs ++ filter test (n ∷ []))
        ≡ (if test n && not (is_in n xs) then each_once (filter test xs) ++ n ∷ [] else each_once (filter test xs))
    by_test xs n = elim (cases_Bool (test n)) [
      | inr off ↦ rw off (ap each_once (append-nil (filter test xs)))
      | inl on ↦ (let inside : is_in n (filter test xs) ≡ is_in n xs = is_in-filter n test xs ∙ ap (λ b. b && is_in n xs) on in
          rw on (once_more (filter test xs) n ∙ elim (cases_Bool (is_in n xs)) [
            | inl y ↦ rw (inside, y) refl
            | inr m ↦ rw (inside, m) refl
          ]))
    ]

module _ (came fds : List ℕ) (start here : List Action) (k : ℕ) (lt : k < length fds)
    (was : here ≡ start ++ map Close (each_once (filter (λ n. not (is_in n came)) (take k fds)))) where
  abbrev closed : ℕ → List ℕ
  closed m = each_once (filter (λ n. not (is_in n came)) (take m fds))

  pub closes-new : (not (is_in (get_or fds k 0) came) && not (is_in (get_or fds k 0) (take k fds))) ≡ true
      → here ++ Close (get_or fds k 0) ∷ [] ≡ start ++ map Close (closed (k + 1))
  closes-new h = ap (λ w. w ++ Close (get_or fds k 0) ∷ []) was ∙ append_assoc start (map Close (closed k)) (Close (get_or fds k 0) ∷ [])
      ∙ ap (λ w. start ++ w)
      (sym (ap (map Close) (once-next (λ n. not (is_in n came)) fds k lt ∙ ap (λ b. if b then closed k ++ get_or fds k 0 ∷ [] else closed k) h)
      ∙ map-append Close (closed k) (get_or fds k 0 ∷ [])))

  pub closes-old : (not (is_in (get_or fds k 0) came) && not (is_in (get_or fds k 0) (take k fds))) ≡ false → here ≡ start ++ map Close (closed (k + 1))
  closes-old h =
      was ∙ ap (λ w. start ++ map Close w)
      (sym (once-next (λ n. not (is_in n came)) fds k lt ∙ ap (λ b. if b then closed k ++ get_or fds k 0 ∷ [] else closed k) h))

-- what is new beside some is new beside none
pub all-fresh : (came fds : List ℕ) → all_new came fds ≡ true → all_new [] fds ≡ true
all-fresh came [] h = refl
all-fresh came (fd ∷ fds) h =
    let parts = and_parts (not (is_in fd came) && not (is_in fd fds)) (all_new came fds) h in
    rw (apart_from (is_in fd fds) (and_parts (not (is_in fd came)) (not (is_in fd fds)) parts.0).1) (all-fresh came fds parts.1)

pub length-ascending : (xs : List ℕ) → length (ascending xs) ≡ length xs
length-ascending [] = refl
length-ascending (n ∷ more) = let h = length-ascending more in let g = length-put n (ascending more) in omega (arith, h, g)

pub length-opens : (fds : List ℕ) (words : List (List ℕ)) → length (opens_of fds words) ≡ length fds
length-opens [] words = refl
length-opens (fd ∷ fds) [] = let h = length-opens fds [] in omega (arith, h)
length-opens (fd ∷ fds) (w ∷ words) = let h = length-opens fds words in omega (arith, h)

-- no more are turned away than came
pub away-few : (gone : List ℕ → Bool) (fds : List ℕ) (words : List (List ℕ)) → length (ascending (numbers_out gone (opens_of fds words))) ≤ length fds
away-few gone fds words =
    let h = rest-out-length gone (opens_of fds words) in let g = length-opens fds words in let a = length-ascending (numbers_out gone (opens_of fds words)) in
    omega (arith, h, g, a)

pub puts-none : (xs : List ℕ) → put_numbers xs [] ≡ ascending xs
puts-none xs = puts-ascending xs [] ∙ ap ascending (append-nil xs)
