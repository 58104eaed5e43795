-- What each change of the states makes of the counts of descriptors, and what the counts say of what is drained.
use Rattle.std.proofs.Common.{ℕ, zero, suc, Bool, true, false, not, ◌&&◌, ◌||◌, ◌==◌, inl, inr, List, [], ◌∷◌, ◌++◌, ◌≡◌, ◌≢◌, refl, ap, sym, ◌∙◌, subst, arith, ◌<◌, ◌≤◌, ◌+◌, length, map, filter, nat_lt, Option, Some, None, IfSome, slice_index_or, slice_set, drop, get_or, if◌then◌else◌}
use Rattle.std.proofs.lemmas.Bool.{cases_Bool, cases_eq, cases_lt, and_parts, and_from, or_cases, or_left, or_right, eq-eqb, eqb-true, ne_eqb, lt-ltb}
use Rattle.std.proofs.lemmas.List.{drop_more, length-set, get_or-set_same, get_or-set_other, get_or_past}
use Rattle.svc_base.specs.Blocks.{put_by}
use Rattle.svc_base.specs.NumberSets.{is_in, distinct, put_number}
use Rattle.svc_base.proofs.Logic.{clash, apart_from, not_in, false_where, some-inj}
use Rattle.svc_base.proofs.NumberSetLemmas.{any-put, distinct-put}
use Rattle.svc_record.specs.declared.plan.Plan.{Plan}
use Rattle.svc_record.specs.Plans.{service_count, same_address}
use Rattle.svc_record.specs.declared.action.Action.{Action}
use Rattle.svc_record.specs.declared.action.Action.TheVariants.{Close}
use Rattle.svc_endpoints.specs.declared.states.EndpointStatus.{EndpointStatus}
use Rattle.svc_endpoints.specs.declared.states.EndpointStatus.TheVariants.{Idle, Binding, AddressInUse, Adopting, Holding, AdoptionFailed}
use Rattle.svc_endpoints.specs.declared.states.EndpointState.{EndpointState}
use Rattle.svc_endpoints.specs.declared.loops.LoopEnd.{LoopEnd}
use Rattle.svc_endpoints.specs.declared.table.Open.{Open}
use Rattle.svc_endpoints.specs.declared.uses.Share.{Share}
use Rattle.svc_endpoints.specs.declared.uses.UseCount.{UseCount}
use Rattle.svc_endpoints.specs.EndpointsData.{EndpointsData}
use Rattle.svc_endpoints.specs.EndpointsState.{IsEndpointsSized, idle, last_at, failed_at, open_numbers, numbers_of_table, all_new, numbers_with}
use Rattle.svc_endpoints.specs.Effects.{first_of, held_now, put, with_number, put_open, put_opens, put_numbers, opens_of, without_numbers, is_done_for, goes, gone_numbers, cleared, fail_if, loop_ended}
use Rattle.svc_endpoints.specs.Loops.{loop_count}
use Rattle.svc_endpoints.specs.Uses.{uses, is_holder_by, is_user, any_endpoint, is_drained_by}
use Rattle.svc_endpoints.specs.Counts.{AreUsesKept, holder_share, share_of, share_at, row_share, row_size, has_hold, has_use, raised, lowered, unused, counted_numbers, are_few, is_let_go, goes_by, gone_by, left_by, count_to, count_all, is_counted, are_counted, changed_to, put_unused, is_known}
use Rattle.svc_endpoints.proofs.CountLemmas.{all-same, any-counted, hold-is, use-is, counted-as, counted-next, counted-few, none-changed, changed-numbers, let-go-is}
use Rattle.svc_endpoints.proofs.UsesLemmas.{numbers-put}
use Rattle.svc_endpoints.proofs.PutLemmas.{last_at-put}
use Rattle.svc_endpoints.proofs.TableLemmas.{numbers_of-put}
use Rattle.svc_endpoints.proofs.RestLemmas.{part_in, distinct-part}
use Rattle.svc_endpoints.proofs.LoopLemmas.{loop_count-more}
use Rattle.svc_endpoints.proofs.GatherLemmas.{new-more, new-rest}

-- what came stays so as more comes
in_more : (n fd : ℕ) (came : List ℕ) → is_in n came ≡ true → is_in n (put_number fd came) ≡ true
in_more n fd came h = any-put (λ x. x == n) fd came ∙ or_right (fd == n) (is_in n came) h

known_more : (x : EndpointStatus) (fd : ℕ) (came : List ℕ) → is_known x came ≡ true → is_known x (put_number fd came) ≡ true
known_more (Adopting n) fd came h = in_more n fd came h
known_more (Holding n) fd came h = in_more n fd came h
known_more Idle fd came h = refl
known_more Binding fd came h = refl
known_more (AddressInUse at) fd came h = refl
known_more AdoptionFailed fd came h = refl

-- of a descriptor that didn't come no endpoint has a share
no_share : (fd n : ℕ) (came : List ℕ) (b : Bool) → is_in n came ≡ true → is_in fd came ≡ false → (b && n == fd) ≡ false
no_share fd n came b h none = off b (n == fd) (false_where (n == fd) (λ e. clash (is_in fd came) (subst (λ k. is_in k came ≡ true) (eqb-true n fd e) h) none))
  where
    off : (b c : Bool) → c ≡ false → (b && c) ≡ false
    off b c h = grind arith

no_hold : (fd : ℕ) (f g : Bool) (x : EndpointStatus) (came : List ℕ) → is_known x came ≡ true → is_in fd came ≡ false → has_hold fd (share_of f g x) ≡ false
no_hold fd f g (Adopting n) came h none = refl
no_hold fd f g (Holding n) came h none = no_share fd n came (not f) h none
no_hold fd f g Idle came h none = refl
no_hold fd f g Binding came h none = refl
no_hold fd f g (AddressInUse at) came h none = refl
no_hold fd f g AdoptionFailed came h none = refl

no_use : (fd : ℕ) (f g : Bool) (x : EndpointStatus) (came : List ℕ) → is_known x came ≡ true → is_in fd came ≡ false → has_use fd (share_of f g x) ≡ false
no_use fd f g (Adopting n) came h none = no_share fd n came true h none
no_use fd f g (Holding n) came h none = no_share fd n came (not f && not g) h none
no_use fd f g Idle came h none = refl
no_use fd f g Binding came h none = refl
no_use fd f g (AddressInUse at) came h none = refl
no_use fd f g AdoptionFailed came h none = refl

count_none : (n : ℕ) → count_to (λ i. false) n ≡ 0
count_none zero = refl
count_none (suc n) = ap (λ (c : ℕ). 0 + c) (count_none n)

all_none : (size : ℕ → ℕ) (n : ℕ) → count_all size (λ s i. false) n ≡ 0
all_none size zero = refl
all_none size (suc n) = ap (λ (c : ℕ). c + count_all size (λ s i. false) n) (count_none (size n)) ∙ ap (λ (c : ℕ). 0 + c) (all_none size n)

-- counts of one more descriptor, and of fewer
counted_put : (size : ℕ → ℕ) (n : ℕ) (shares : ℕ → ℕ → Option Share) (x : UseCount) (counts : List UseCount) → is_counted size n shares x ≡ true
    → are_counted size n shares counts ≡ true → are_counted size n shares (put_by (λ (u : UseCount). u.fd) x counts) ≡ true
counted_put size n shares x [] here h = and_from (is_counted size n shares x) true here refl
counted_put size n shares x (u ∷ more) here h = elim (cases_Bool (nat_lt x.fd u.fd)) [
  | inl below ↦ rw below (and_from (is_counted size n shares x) (are_counted size n shares (u ∷ more)) here h)
  | inr above ↦ rw above (let parts = and_parts (is_counted size n shares u) (are_counted size n shares more) h in
      and_from (is_counted size n shares u) (are_counted size n shares (put_by (λ (v : UseCount). v.fd) x more)) parts.0
      (counted_put size n shares x more here parts.1))
]

counted_filter : (size : ℕ → ℕ) (n : ℕ) (shares : ℕ → ℕ → Option Share) (f : UseCount → Bool) (counts : List UseCount)
    → are_counted size n shares counts ≡ true → are_counted size n shares (filter f counts) ≡ true
counted_filter size n shares f [] h = refl
counted_filter size n shares f (u ∷ more) h =
    let parts = and_parts (is_counted size n shares u) (are_counted size n shares more) h in
    elim (cases_Bool (f u)) [
      | inl y ↦ rw y (and_from (is_counted size n shares u) (are_counted size n shares (filter f more)) parts.0 (counted_filter size n shares f more parts.1))
      | inr m ↦ rw m (counted_filter size n shares f more parts.1)
    ]

-- the numbers of those that pass a test of the number
numbers_filter : (g : ℕ → Bool) (counts : List UseCount) → counted_numbers (filter (λ (u : UseCount). g u.fd) counts) ≡ filter g (counted_numbers counts)
numbers_filter g [] = refl
numbers_filter g (u ∷ more) = elim (cases_Bool (g u.fd)) [
  | inl y ↦ rw y (ap (λ ns. u.fd ∷ ns) (numbers_filter g more))
  | inr n ↦ rw n (numbers_filter g more)
]

table_filter : (g : ℕ → Bool) (table : List Open) → filter g (numbers_of_table table) ≡ numbers_of_table (filter (λ (o : Open). g o.fd) table)
table_filter g [] = refl
table_filter g (o ∷ more) = elim (cases_Bool (g o.fd)) [
  | inl y ↦ rw y (ap (λ ns. o.fd ∷ ns) (table_filter g more))
  | inr n ↦ rw n (table_filter g more)
]

filter_alike : (f g : ℕ → Bool) (xs : List ℕ) → ((n : ℕ) → is_in n xs ≡ true → f n ≡ g n) → filter f xs ≡ filter g xs
filter_alike f g [] same = refl
filter_alike f g (x ∷ xs) same =
    let more = filter_alike f g xs (λ n there. same n (or_right (x == n) (is_in n xs) there)) in
    let here = same x (or_left (x == x) (is_in x xs) (eq-eqb x x refl)) in
    elim (cases_Bool (g x)) [
      | inl y ↦ rw (here, y) (ap (λ ns. x ∷ ns) more)
      | inr n ↦ rw (here, n) more
    ]

-- of numbers none of which stands twice, those that are among what is left are what is left
left_numbers : (f : Open → Bool) (table : List Open) → distinct (numbers_of_table table) ≡ true
    → filter (λ n. is_in n (numbers_of_table (filter f table))) (numbers_of_table table) ≡ numbers_of_table (filter f table)
left_numbers f [] once = refl
left_numbers f (o ∷ more) once =
    let parts = and_parts (not (is_in o.fd (numbers_of_table more))) (distinct (numbers_of_table more)) once in
    let out = apart_from (is_in o.fd (numbers_of_table more)) parts.0 in
    let rest = left_numbers f more parts.1 in
    elim (cases_Bool (f o)) [
      | inl y ↦ subst (λ ns. filter (λ n. is_in n ns) (o.fd ∷ numbers_of_table more) ≡ ns) (sym (here y)) (rw (eq-eqb o.fd o.fd refl)
          (ap (λ ns. o.fd ∷ ns) (filter_alike (λ n. (o.fd == n) || is_in n (numbers_of_table (filter f more))) (λ n. is_in n (numbers_of_table (filter f more)))
          (numbers_of_table more) (λ n there. passed (o.fd == n) (is_in n (numbers_of_table (filter f more))) (other n out there)) ∙ rest)))
      | inr m ↦ subst (λ ns. filter (λ n. is_in n ns) (o.fd ∷ numbers_of_table more) ≡ ns) (sym (past m))
          (rw (false_where (is_in o.fd (numbers_of_table (filter f more)))
          (λ there. clash (is_in o.fd (numbers_of_table more)) (part_in f o.fd more there) out)) rest)
    ]
  where
    here : f o ≡ true → numbers_of_table (filter f (o ∷ more)) ≡ o.fd ∷ numbers_of_table (filter f more)
    here y = rw y refl

    past : f o ≡ false → numbers_of_table (filter f (o ∷ more)) ≡ numbers_of_table (filter f more)
    past m = rw m refl

    passed : (a b : Bool) → a ≡ false → (a || b) ≡ b
    passed a b h = rw h refl

    other : (n : ℕ) → is_in o.fd (numbers_of_table more) ≡ false → is_in n (numbers_of_table more) ≡ true → (o.fd == n) ≡ false
    other n out there = false_where (o.fd == n)
        (λ e. clash (is_in n (numbers_of_table more)) there (subst (λ k. is_in k (numbers_of_table more) ≡ false) (eqb-true o.fd n e) out))

-- the same sizes count the same
all_sizes : (size next : ℕ → ℕ) (test : ℕ → ℕ → Bool) (n : ℕ) → ((t : ℕ) → next t ≡ size t) → count_all next test n ≡ count_all size test n
all_sizes size next test zero same = refl
all_sizes size next test (suc n) same =
    ap (λ (m : ℕ). count_to (test n) m + count_all next test n) (same n) ∙ ap (λ (c : ℕ). count_to (test n) (size n) + c) (all_sizes size next test n same)

counted_sizes : (size next : ℕ → ℕ) (n m : ℕ) (shares : ℕ → ℕ → Option Share) (counts : List UseCount) → ((t : ℕ) → next t ≡ size t) → m ≡ n
    → are_counted size n shares counts ≡ true → are_counted next m shares counts ≡ true
counted_sizes size next n m shares counts same e h = subst (λ k. are_counted next k shares counts ≡ true) (sym e) (each counts h)
  where
    each : (cs : List UseCount) → are_counted size n shares cs ≡ true → are_counted next n shares cs ≡ true
    each [] h = refl
    each (u ∷ more) h =
        let parts = and_parts (is_counted size n shares u) (are_counted size n shares more) h in
        and_from (is_counted next n shares u) (are_counted next n shares more)
        (ap (λ (c : ℕ). u.holders == c && u.users == count_all next (λ s i. has_use u.fd (shares s i)) n)
        (all_sizes size next (λ s i. has_hold u.fd (shares s i)) n same)
        ∙ ap (λ (c : ℕ). u.holders == count_all size (λ s i. has_hold u.fd (shares s i)) n && u.users == c)
        (all_sizes size next (λ s i. has_use u.fd (shares s i)) n same) ∙ parts.0) (each more parts.1)

module _ (d : EndpointsData) (counts : List UseCount) (kept : AreUsesKept d counts) where
  pub kept-few : length d.rows ≤ 1024 → are_few counts ≡ true
  kept-few small = counted-few (row_size d.rows) (length d.rows) (share_at d) counts kept.few small kept.counted

  -- a number that didn't come isn't live
  pub not-open : (fd : ℕ) → is_in fd d.came ≡ false → is_in fd (open_numbers d) ≡ false
  not-open fd none = false_where (is_in fd (open_numbers d)) (λ there. clash (is_in fd d.came) (kept.open_came fd there) none)

  pub not-counted : (fd : ℕ) → is_in fd d.came ≡ false → is_in fd (counted_numbers counts) ≡ false
  not-counted fd none = ap (is_in fd) kept.numbers ∙ not-open fd none

  -- a number came
  pub kept-number : (fd : ℕ) → AreUsesKept (with_number fd d) counts
  kept-number fd = record {
    few = kept.few;
    numbers = kept.numbers;
    counted = kept.counted;
    known = λ s i. known_more (last_at d s i) fd d.came (kept.known s i);
    once = kept.once;
    open_came = λ n there. in_more n fd d.came (kept.open_came n there);
  }

  -- a descriptor is live
  pub kept-open : (fd : ℕ) (address : Option (List ℕ)) → is_in fd d.came ≡ false
      → AreUsesKept (record d { came = put_number fd d.came; table = put_open (record { fd = fd; address = address }) d.table })
      (put_by (λ (u : UseCount). u.fd) (unused fd) counts)
  kept-open fd address none = record {
    few = kept.few;
    numbers = numbers-put (unused fd) counts ∙ ap (put_number fd) kept.numbers ∙ sym (numbers_of-put (record { fd = fd; address = address }) d.table);
    counted = counted_put (row_size d.rows) (length d.rows) (share_at d) (unused fd) counts
        (and_from (0 == count_all (row_size d.rows) (λ s i. has_hold fd (share_at d s i)) (length d.rows))
        (0 == count_all (row_size d.rows) (λ s i. has_use fd (share_at d s i)) (length d.rows))
        (zero (λ s i. has_hold fd (share_at d s i)) (λ s i. no_hold fd (failed_at d s) (loop_count d.loops s i == d.tasks) (last_at d s i) d.came
        (kept.known s i) none))
        (zero (λ s i. has_use fd (share_at d s i)) (λ s i. no_use fd (failed_at d s) (loop_count d.loops s i == d.tasks) (last_at d s i) d.came
        (kept.known s i) none)))
        kept.counted;
    known = λ s i. known_more (last_at d s i) fd d.came (kept.known s i);
    once = ap distinct (numbers_of-put (record { fd = fd; address = address }) d.table) ∙ distinct-put fd (open_numbers d) (not-open fd none) kept.once;
    open_came = λ n there. any-put (λ x. x == n) fd d.came ∙ came n (sym (any-put (λ x. x == n) fd (open_numbers d))
        ∙ ap (is_in n) (sym (numbers_of-put (record { fd = fd; address = address }) d.table)) ∙ there);
  }
    where
      zero : (test : ℕ → ℕ → Bool) → ((s i : ℕ) → test s i ≡ false) → (0 == count_all (row_size d.rows) test (length d.rows)) ≡ true
      zero test off = eq-eqb 0 (count_all (row_size d.rows) test (length d.rows))
          (sym (all-same (row_size d.rows) (λ s i. false) test (length d.rows) (λ s i lt within. off s i) ∙ all_none (row_size d.rows) (length d.rows)))

      came : (n : ℕ) → ((fd == n) || is_in n (open_numbers d)) ≡ true → ((fd == n) || is_in n d.came) ≡ true
      came n h = elim (or_cases (fd == n) (is_in n (open_numbers d)) h) [
        | inl here ↦ or_left (fd == n) (is_in n d.came) here
        | inr there ↦ or_right (fd == n) (is_in n d.came) (kept.open_came n there)
      ]

  -- descriptors aren't live any more
  pub kept-part : (f : Open → Bool) (g : UseCount → Bool) → counted_numbers (filter g counts) ≡ numbers_of_table (filter f d.table)
      → AreUsesKept (record d { table = filter f d.table }) (filter g counts)
  kept-part f g same = record {
    few = kept.few;
    numbers = same;
    counted = counted_filter (row_size d.rows) (length d.rows) (share_at d) g counts kept.counted;
    known = kept.known;
    once = distinct-part f d.table kept.once;
    open_came = λ n there. kept.open_came n (part_in f n d.table there);
  }

  pub kept-closed : (fd : ℕ)
      → AreUsesKept (record d { table = filter (λ (o : Open). not (o.fd == fd)) d.table }) (filter (λ (u : UseCount). not (u.fd == fd)) counts)
  kept-closed fd = kept-part (λ (o : Open). not (o.fd == fd)) (λ (u : UseCount). not (u.fd == fd))
      (numbers_filter (λ n. not (n == fd)) counts ∙ ap (filter (λ n. not (n == fd))) kept.numbers ∙ table_filter (λ n. not (n == fd)) d.table)

  pub kept-left : (f : Open → Bool)
      → AreUsesKept (record d { table = filter f d.table }) (filter (λ (u : UseCount). is_in u.fd (numbers_of_table (filter f d.table))) counts)
  kept-left f = kept-part f (λ (u : UseCount). is_in u.fd (numbers_of_table (filter f d.table)))
      (numbers_filter (λ n. is_in n (numbers_of_table (filter f d.table))) counts
      ∙ ap (filter (λ n. is_in n (numbers_of_table (filter f d.table)))) kept.numbers
      ∙ left_numbers f d.table kept.once)

  -- an endpoint has another state
  pub kept-put : (s i : ℕ) (x : EndpointState) → s < length d.rows → i < row_size d.rows s → is_known x.last d.came ≡ true
      → AreUsesKept (put d s i x) (map (raised (share_of (failed_at d s) (loop_count d.loops s i == d.tasks) x.last)) (map (lowered (share_at d s i)) counts))
  kept-put s i x inside within known = record {
    few = λ t. (let size = size_same t in let few = kept.few t in omega arith);
    numbers = changed-numbers (share_at d s i) (share_of (failed_at d s) (loop_count d.loops s i == d.tasks) x.last) counts ∙ kept.numbers;
    counted = resized _ counts_next;
    known = λ t k. ap (λ (y : EndpointStatus). is_known y d.came) (last_at-put d s i x inside within t k) ∙ elim (cases_Bool (s == t && i == k)) [
      | inl here ↦ rw here known
      | inr off ↦ rw off (kept.known t k)
    ];
    once = kept.once;
    open_came = kept.open_came;
  }
    where
      row_next : List EndpointState
      row_next = slice_set (slice_index_or d.rows s []) i x

      size_same : (t : ℕ) → row_size (put d s i x).rows t ≡ row_size d.rows t
      size_same t = elim (cases_eq t s) [
        | inl e ↦ subst (λ u. row_size (put d s i x).rows u ≡ row_size d.rows u) (sym e)
            (ap (λ (r : List EndpointState). length r) (get_or-set_same d.rows s (slice_set (slice_index_or d.rows s []) i x) [] inside)
            ∙ length-set (slice_index_or d.rows s []) i x)
        | inr ne ↦ ap (λ (r : List EndpointState). length r) (get_or-set_other d.rows s t (slice_set (slice_index_or d.rows s []) i x) [] ne)
      ]

      share_here : share_at (put d s i x) s i ≡ share_of (failed_at d s) (loop_count d.loops s i == d.tasks) x.last
      share_here = ap (share_of (failed_at d s) (loop_count d.loops s i == d.tasks))
          (last_at-put d s i x inside within s i ∙ (rw (eq-eqb s s refl, eq-eqb i i refl) refl))

      share_other : (t k : ℕ) → ((t ≡ s) → (k ≡ i) → ⊥) → share_at (put d s i x) t k ≡ share_at d t k
      share_other t k ne = ap (share_of (failed_at d t) (loop_count d.loops t k == d.tasks)) (last_at-put d s i x inside within t k ∙ elim (cases_eq s t) [
        | inl e ↦ rw (ne_eqb i k (λ f. ne (sym e) (sym f)), eq-eqb s t e) refl
        | inr nf ↦ rw (ne_eqb s t nf) refl
      ])

      counts_next : are_counted (row_size d.rows) (length d.rows) (share_at (put d s i x))
          (map (raised (share_of (failed_at d s) (loop_count d.loops s i == d.tasks) x.last)) (map (lowered (share_at d s i)) counts)) ≡ true
      counts_next = ap (λ (y : Option Share). are_counted (row_size d.rows) (length d.rows) (share_at (put d s i x)) (map (raised y) (map (lowered
          (share_at d s i)) counts)))
          (sym share_here) ∙ counted-next (row_size d.rows) (length d.rows) (share_at d) (share_at
          (put d s i x)) s i inside within share_other counts kept.counted

      resized : (cs : List UseCount) → are_counted (row_size d.rows) (length d.rows) (share_at (put d s i x)) cs ≡ true
          → are_counted (row_size (put d s i x).rows) (length (put d s i x).rows) (share_at (put d s i x)) cs ≡ true
      resized cs h = counted_sizes (row_size d.rows) (row_size (put d s i x).rows) (length d.rows) (length (put d s i x).rows) (share_at (put d s i x)) cs
          size_same (length-set d.rows s (slice_set (slice_index_or d.rows s []) i x)) h

  -- a loop ends
  pub kept-loop : (s i j : ℕ)
      → AreUsesKept (loop_ended d s i j) (map (raised (share_at (loop_ended d s i j) s i)) (map (lowered (share_at d s i)) counts))
  kept-loop s i j = record {
    few = kept.few;
    numbers = changed-numbers (share_at d s i) (share_at (loop_ended d s i j) s i) counts ∙ kept.numbers;
    counted = elim (cases_lt s (length d.rows)) [
      | inl inside ↦ elim (cases_lt i (row_size d.rows s)) [
        | inl within ↦ counted-next (row_size d.rows) (length d.rows) (share_at d) (share_at (loop_ended d s i j)) s i inside within others counts kept.counted
        | inr past ↦ outside (λ t k lt in_row e f. (let a = ap (row_size d.rows) e in omega arith))
            (ap (λ (x : EndpointState). x.last) (get_or_past (slice_index_or d.rows s []) i idle past))
      ]
      | inr past ↦ outside (λ t k lt in_row e f. omega arith)
          (ap (λ (r : List EndpointState). (slice_index_or r i idle).last) (get_or_past d.rows s [] past))
    ];
    known = kept.known;
    once = kept.once;
    open_came = kept.open_came;
  }
    where
      others : (t k : ℕ) → ((t ≡ s) → (k ≡ i) → ⊥) → share_at (loop_ended d s i j) t k ≡ share_at d t k
      others t k ne = ap (λ (c : ℕ). share_of (failed_at d t) (c == d.tasks) (last_at d t k))
          (loop_count-more d.loops (record { service = s; endpoint = i; number = j }) t k ∙ elim (cases_eq s t) [
            | inl e ↦ rw (ne_eqb i k (λ f. ne (sym e) (sym f)), eq-eqb s t e) refl
            | inr nf ↦ rw (ne_eqb s t nf) refl
          ])

      outside : ((t k : ℕ) → t < length d.rows → k < row_size d.rows t → (t ≡ s) → (k ≡ i) → ⊥) → last_at d s i ≡ Idle
          → are_counted (row_size d.rows) (length d.rows) (share_at (loop_ended d s i j))
          (map (raised (share_at (loop_ended d s i j) s i)) (map (lowered (share_at d s i)) counts)) ≡ true
      outside off none = ap (λ (x : EndpointStatus). are_counted (row_size d.rows) (length d.rows) (share_at (loop_ended d s i j))
          (map (raised (share_of (failed_at d s) (loop_count (loop_ended d s i j).loops s i == d.tasks) x))
          (map (lowered (share_of (failed_at d s) (loop_count d.loops s i == d.tasks) x)) counts))) none
          ∙ ap (are_counted (row_size d.rows) (length d.rows) (share_at (loop_ended d s i j))) (none-changed counts)
          ∙ counted-as (row_size d.rows) (length d.rows) (share_at d) (share_at (loop_ended d s i j)) counts
          (λ t k lt in_row. others t k (off t k lt in_row)) kept.counted

  -- a service fails
  module _ (s : ℕ) (inside : s < length d.rows) where
    abbrev was : ℕ → Option Share
    was = row_share (failed_at d s) d.loops d.tasks s (slice_index_or d.rows s [])

    abbrev is : ℕ → Option Share
    is = row_share true d.loops d.tasks s (slice_index_or d.rows s [])

    -- the first n endpoints of the service hold nothing any more
    abbrev failing : ℕ → ℕ → ℕ → Option Share
    failing n t k = if t == s && nat_lt k n then is k else share_at d t k

    here_fails : (n k : ℕ) → k < n → failing n s k ≡ is k
    here_fails n k lt = rw (eq-eqb s s refl, lt-ltb k n lt) refl

    here_stays : (n k : ℕ) → n ≤ k → failing n s k ≡ share_at d s k
    here_stays n k le = rw (eq-eqb s s refl, not_less k n le) refl
      where
        not_less : (a b : ℕ) → b ≤ a → nat_lt a b ≡ false
        not_less a b le = grind arith

    elsewhere : (n t k : ℕ) → t ≢ s → failing n t k ≡ share_at d t k
    elsewhere n t k ne = rw (ne_eqb t s ne) refl

    step : (n t k : ℕ) → ((t ≡ s) → (k ≡ n) → ⊥) → failing (suc n) t k ≡ failing n t k
    step n t k ne = elim (cases_eq t s) [
      | inl e ↦ subst (λ u. failing (suc n) u k ≡ failing n u k) (sym e) (elim (cases_lt k n) [
        | inl lt ↦ here_fails (suc n) k (omega arith) ∙ sym (here_fails n k lt)
        | inr ge ↦ here_stays (suc n) k (above k n ge (λ f. ne e f)) ∙ sym (here_stays n k ge)
      ])
      | inr nf ↦ elsewhere (suc n) t k nf ∙ sym (elsewhere n t k nf)
    ]
      where
        above : (k n : ℕ) → n ≤ k → ((k ≡ n) → ⊥) → suc n ≤ k
        above k n le ne = elim (cases_eq k n) [ inl e ↦ absurd (ne e) | inr f ↦ omega arith ]

    counted_to : (n : ℕ) → n ≤ row_size d.rows s → are_counted (row_size d.rows) (length d.rows) (failing n) (changed_to was is n counts) ≡ true
    counted_to zero le = counted-as (row_size d.rows) (length d.rows) (share_at d) (failing 0) counts (λ t k lt in_row. first t k) kept.counted
      where
        first : (t k : ℕ) → failing 0 t k ≡ share_at d t k
        first t k = elim (cases_eq t s) [
          | inl e ↦ subst (λ u. failing 0 u k ≡ share_at d u k) (sym e) (here_stays 0 k (omega arith))
          | inr nf ↦ elsewhere 0 t k nf
        ]
    counted_to (suc n) le =
        ap (λ (y : Option Share). are_counted (row_size d.rows) (length d.rows) (failing (suc n)) (map (raised y) (map (lowered (was n))
        (changed_to was is n counts))))
        (sym (here_fails (suc n) n (omega arith)))
        ∙ ap (λ (y : Option Share). are_counted (row_size d.rows) (length d.rows) (failing (suc n))
        (map (raised (failing (suc n) s n)) (map (lowered y) (changed_to was is n counts)))) (sym (here_stays n n (omega arith)))
        ∙ counted-next (row_size d.rows) (length d.rows) (failing n) (failing (suc n)) s n inside (omega arith) (step n) (changed_to was is n counts)
        (counted_to n (omega arith))

    pub failing-few : length d.rows ≤ 1024 → (n : ℕ) → n < row_size d.rows s → are_few (changed_to was is n counts) ≡ true
    failing-few small n lt = counted-few (row_size d.rows) (length d.rows) (failing n) (changed_to was is n counts) kept.few small (counted_to n (omega arith))

    numbers_to : (n : ℕ) → counted_numbers (changed_to was is n counts) ≡ counted_numbers counts
    numbers_to zero = refl
    numbers_to (suc n) = changed-numbers (was n) (is n) (changed_to was is n counts) ∙ numbers_to n

    pub kept-failed : s < length d.failed → AreUsesKept (fail_if true s d) (changed_to was is (row_size d.rows s) counts)
    kept-failed flagged = record {
      few = kept.few;
      numbers = numbers_to (row_size d.rows s) ∙ kept.numbers;
      counted = counted-as (row_size d.rows) (length d.rows) (failing (row_size d.rows s)) (share_at (fail_if true s d)) (changed_to was is
          (row_size d.rows s) counts)
          (λ t k lt in_row. all t k in_row) (counted_to (row_size d.rows s) (omega arith));
      known = kept.known;
      once = kept.once;
      open_came = kept.open_came;
    }
      where
        all : (t k : ℕ) → k < row_size d.rows t → share_at (fail_if true s d) t k ≡ failing (row_size d.rows s) t k
        all t k in_row = elim (cases_eq t s) [
          | inl e ↦ subst (λ u. k < row_size d.rows u → share_at (fail_if true s d) u k ≡ failing (row_size d.rows s) u k) (sym e)
              (λ lt. ap (λ b. share_of b (loop_count d.loops s k == d.tasks) (last_at d s k)) (get_or-set_same d.failed s true false flagged)
              ∙ sym (here_fails (row_size d.rows s) k lt)) in_row
          | inr ne ↦ ap (λ b. share_of b (loop_count d.loops t k == d.tasks) (last_at d t k)) (get_or-set_other d.failed s t true false ne)
              ∙ sym (elsewhere (row_size d.rows s) t k ne)
        ]

  -- a live descriptor is drained where its counts say so
  module _ (p : Plan) (sized : IsEndpointsSized p d) where
    pub drained-counted : (fd : ℕ) → is_in fd (open_numbers d) ≡ true → is_let_go fd counts ≡ is_drained_by p d fd
    drained-counted fd live =
        let-go-is (row_size d.rows) (length d.rows) (share_at d) fd counts kept.counted (ap (is_in fd) kept.numbers ∙ live)
        ∙ ap (λ (c : ℕ). nat_lt 0 c && count_all (row_size d.rows) (λ s i. has_use fd (share_at d s i)) (length d.rows) == 0)
        (all-same (row_size d.rows) (is_holder_by d fd) (λ s i. has_hold fd (share_at d s i)) (length d.rows)
        (λ s i lt within. hold-is fd (failed_at d s) (loop_count d.loops s i == d.tasks) (last_at d s i)))
        ∙ ap (λ (c : ℕ). nat_lt 0 (count_all (row_size d.rows) (is_holder_by d fd) (length d.rows)) && c == 0)
        (all-same (row_size d.rows) (is_user p d fd) (λ s i. has_use fd (share_at d s i)) (length d.rows)
        (λ s i lt within. use-is fd (failed_at d s) (loop_count d.loops s i == d.tasks) (last_at d s i)
        ∙ ap (λ (n : ℕ). uses fd (failed_at d s) (loop_count d.loops s i == n) (last_at d s i)) sized.tasks))
        ∙ ap (λ b. b && count_all (row_size d.rows) (is_user p d fd) (length d.rows) == 0)
        (sym (any-counted p (row_size d.rows) (length d.rows) (is_holder_by d fd) sized.services sized.each))
        ∙ ap (λ b. any_endpoint p (is_holder_by d fd) && b) (none_left (count_all (row_size d.rows) (is_user p d fd) (length d.rows))
        ∙ ap not (sym (any-counted p (row_size d.rows) (length d.rows) (is_user p d fd) sized.services sized.each)))
      where
        none_left : (n : ℕ) → (n == 0) ≡ not (nat_lt 0 n)
        none_left n = grind arith

    -- so what goes by the counts is what goes
    pub goes-counted : (keep : List ℕ) (table : List Open) → ((n : ℕ) → is_in n (numbers_of_table table) ≡ true → is_in n (open_numbers d) ≡ true)
        → (filter (goes_by p d.failed keep counts) table ≡ filter (goes p keep d) table)
        × (filter (λ (o : Open). not (goes_by p d.failed keep counts o)) table ≡ filter (λ (o : Open). not (goes p keep d o)) table)
    goes-counted keep [] live = (refl, refl)
    goes-counted keep (o ∷ more) live =
        let rest = goes-counted keep more (λ n there. live n (or_right (o.fd == n) (is_in n (numbers_of_table more)) there)) in
        let here : goes_by p d.failed keep counts o ≡ goes p keep d o = ap (λ b. is_done_for p d.failed keep o || b)
        (drained-counted o.fd (live o.fd (or_left (o.fd == o.fd) (is_in o.fd (numbers_of_table more)) (eq-eqb o.fd o.fd refl)))) in
        elim (cases_Bool (goes p keep d o)) [
          | inl y ↦ (rw (here, y) (ap (λ (w : List Open). o ∷ w) rest.0), rw (here, y) rest.1)
          | inr n ↦ (rw (here, n) rest.0, rw (here, n) (ap (λ (w : List Open). o ∷ w) rest.1))
        ]

-- descriptors with words came, but for those that are left out
rest_next : (out : List ℕ) (fd : ℕ) (fds : List ℕ) (address : Option (List ℕ)) (rest : List (List ℕ)) (d : EndpointsData) (counts : List UseCount)
    → ((e : EndpointsData) (cs : List UseCount) → AreUsesKept e cs → all_new e.came fds ≡ true
    → AreUsesKept (record e { table = put_opens (without_numbers out (opens_of fds rest)) e.table; came = put_numbers fds e.came })
    (put_unused (filter (λ n. not (is_in n out)) fds) cs))
    → AreUsesKept d counts → all_new d.came (fd ∷ fds) ≡ true
    → AreUsesKept (record d {
      table = put_opens (without_numbers out (record { fd = fd; address = address } ∷ opens_of fds rest)) d.table;
      came = put_numbers fds (put_number fd d.came);
    }) (put_unused (filter (λ n. not (is_in n out)) (fd ∷ fds)) counts)
rest_next out fd fds address rest d counts next kept new = elim (cases_Bool (is_in fd out)) [
  | inl y ↦ rw y (next (with_number fd d) counts (kept-number d counts kept fd) (new-more d.came fd fds new))
  | inr n ↦ rw n (next (record d { came = put_number fd d.came; table = put_open (record { fd = fd; address = address }) d.table })
      (put_by (λ (u : UseCount). u.fd) (unused fd) counts) (kept-open d counts kept fd address none) (new-more d.came fd fds new))
]
  where
    none : is_in fd d.came ≡ false
    none = apart_from (is_in fd d.came) (and_parts (not (is_in fd d.came)) (not (is_in fd fds))
        (and_parts (not (is_in fd d.came) && not (is_in fd fds)) (all_new d.came fds) new).0).0

pub kept-rest : (out fds : List ℕ) (words : List (List ℕ)) (d : EndpointsData) (counts : List UseCount) → AreUsesKept d counts → all_new d.came fds ≡ true
    → AreUsesKept (record d { table = put_opens (without_numbers out (opens_of fds words)) d.table; came = put_numbers fds d.came })
    (put_unused (filter (λ n. not (is_in n out)) fds) counts)
kept-rest out [] words d counts kept new = kept
kept-rest out (fd ∷ fds) [] d counts kept new = rest_next out fd fds None [] d counts (λ e cs k n. kept-rest out fds [] e cs k n) kept new
kept-rest out (fd ∷ fds) (w ∷ words) d counts kept new = rest_next out fd fds (Some w) words d counts (λ e cs k n. kept-rest out fds words e cs k n) kept new

-- one of the numbers is counted, unless it is left out
module _ (fds out : List ℕ) (k : ℕ) (uses : List UseCount) (lt : k < length fds) (new : all_new (counted_numbers uses) (drop k fds) ≡ true) where
  abbrev fd : ℕ
  fd = get_or fds k 0

  abbrev in_rest : ℕ → Bool
  in_rest n = not (is_in n out)

  here_new : all_new (counted_numbers uses) (fd ∷ drop (k + 1) fds) ≡ true
  here_new = ap (all_new (counted_numbers uses)) (sym (drop_more fds k 0 lt)) ∙ new

  pub counts-new : is_in fd (counted_numbers uses) ≡ false
  counts-new = apart_from (is_in fd (counted_numbers uses)) (and_parts (not (is_in fd (counted_numbers uses))) (not (is_in fd (drop (k + 1) fds)))
      (and_parts (not (is_in fd (counted_numbers uses)) && not (is_in fd (drop (k + 1) fds))) (all_new (counted_numbers uses) (drop (k + 1) fds)) here_new).0).0

  pub more-counted : (news : List UseCount) → is_in fd out ≡ false → news ≡ put_by (λ (u : UseCount). u.fd) (unused fd) uses
      → (all_new (counted_numbers news) (drop (k + 1) fds) ≡ true)
      × (put_unused (filter in_rest (drop (k + 1) fds)) news ≡ put_unused (filter in_rest (drop k fds)) uses)
  more-counted news in_list is = (
    ap (λ ns. all_new ns (drop (k + 1) fds)) (ap counted_numbers is ∙ numbers-put (unused fd) uses)
        ∙ new-more (counted_numbers uses) fd (drop (k + 1) fds) here_new,
    ap (put_unused (filter in_rest (drop (k + 1) fds))) is ∙ sym (ap (λ ns. put_unused (filter in_rest ns) uses) (drop_more fds k 0 lt) ∙ (rw in_list refl)),
  )

  pub more-out : is_in fd out ≡ true
      → (all_new (counted_numbers uses) (drop (k + 1) fds) ≡ true)
      × (put_unused (filter in_rest (drop (k + 1) fds)) uses ≡ put_unused (filter in_rest (drop k fds)) uses)
  more-out left = (
    new-rest (counted_numbers uses) fd (drop (k + 1) fds) here_new,
    sym (ap (λ ns. put_unused (filter in_rest ns) uses) (drop_more fds k 0 lt) ∙ (rw left refl)),
  )

-- equal states and counts
pub kept-as : (d e : EndpointsData) (counts news : List UseCount) → e ≡ d → news ≡ counts → AreUsesKept d counts → AreUsesKept e news
kept-as d e counts news same is kept = subst (λ (m : EndpointsData). AreUsesKept m news) (sym same) (subst (λ cs. AreUsesKept d cs) (sym is) kept)

-- the same, as the calls say it
module _ (d : EndpointsData) (counts : List UseCount) (kept : AreUsesKept d counts) where
  pub put-keeps : (s i : ℕ) (x : EndpointState) → s < length d.rows → i < row_size d.rows s → is_known x.last d.came ≡ true
      → (row next : List EndpointState) (failed done : Bool) (old : EndpointState) (was is : Option Share) (news : List UseCount)
      → row ≡ slice_index_or d.rows s [] → next ≡ slice_set row i x → failed ≡ failed_at d s → done ≡ (loop_count d.loops s i == d.tasks)
      → old ≡ slice_index_or row i idle → was ≡ share_of failed done old.last → is ≡ share_of failed done x.last
      → news ≡ map (raised is) (map (lowered was) counts) → AreUsesKept (record d { rows = slice_set d.rows s next }) news
  put-keeps s i x inside within known row next failed done old was is news same set flag ended state had has changed =
      kept-as (put d s i x) (record d { rows = slice_set d.rows s next })
      (map (raised (share_of (failed_at d s) (loop_count d.loops s i == d.tasks) x.last)) (map (lowered (share_at d s i)) counts)) news
      (ap (λ (r : List EndpointState). record d { rows = slice_set d.rows s r }) (set ∙ ap (λ (r : List EndpointState). slice_set r i x) same))
      (changed ∙ ap (λ (y : Option Share). map (raised is) (map (lowered y) counts)) (had ∙ shares old.last
      ∙ ap (λ (o : EndpointState). share_of (failed_at d s) (loop_count d.loops s i == d.tasks) o.last)
      (state ∙ ap (λ (r : List EndpointState). slice_index_or r i idle) same))
      ∙ ap (λ (y : Option Share). map (raised y) (map (lowered (share_at d s i)) counts)) (has ∙ shares x.last))
      (kept-put d counts kept s i x inside within known)
    where
      shares : (y : EndpointStatus) → share_of failed done y ≡ share_of (failed_at d s) (loop_count d.loops s i == d.tasks) y
      shares y = ap (λ b. share_of b done y) flag ∙ ap (λ b. share_of (failed_at d s) b y) ended

  module _ (s : ℕ) (inside : s < length d.rows) (row : List EndpointState) (failed : Bool) (same : row ≡ slice_index_or d.rows s [])
      (flag : failed ≡ failed_at d s) where
    changed_same : (n : ℕ) → changed_to (row_share failed d.loops d.tasks s row) (row_share true d.loops d.tasks s row) n counts
        ≡ changed_to (row_share (failed_at d s) d.loops d.tasks s (slice_index_or d.rows s [])) (row_share true d.loops d.tasks s
        (slice_index_or d.rows s [])) n counts
    changed_same n = ap (λ b. changed_to (row_share b d.loops d.tasks s row) (row_share true d.loops d.tasks s row) n counts) flag
        ∙ ap (λ (r : List EndpointState). changed_to (row_share (failed_at d s) d.loops d.tasks s r) (row_share true d.loops d.tasks s r) n counts) same

    pub failing-fits : length d.rows ≤ 1024 → (n : ℕ) → n < length row
        → are_few (changed_to (row_share failed d.loops d.tasks s row) (row_share true d.loops d.tasks s row) n counts) ≡ true
    failing-fits small n lt = ap are_few (changed_same n)
        ∙ failing-few d counts kept s inside small n (let size = ap (λ (r : List EndpointState). length r) same in omega arith)

    pub failed-keeps : s < length d.failed → (news : List UseCount)
        → news ≡ changed_to (row_share failed d.loops d.tasks s row) (row_share true d.loops d.tasks s row) (length row) counts
        → AreUsesKept (record d { failed = slice_set d.failed s true }) news
    failed-keeps flagged news changed =
        kept-as (fail_if true s d) (record d { failed = slice_set d.failed s true })
        (changed_to (row_share (failed_at d s) d.loops d.tasks s (slice_index_or d.rows s [])) (row_share true d.loops d.tasks s (slice_index_or d.rows s []))
        (row_size d.rows s) counts) news refl
        (changed ∙ changed_same (length row) ∙ ap (λ (n : ℕ). changed_to (row_share (failed_at d s) d.loops d.tasks s (slice_index_or d.rows s []))
        (row_share true d.loops d.tasks s (slice_index_or d.rows s [])) n counts) (ap (λ (r : List EndpointState). length r) same))
        (kept-failed d counts kept s inside flagged)

  pub loop-keeps : (s i j : ℕ) (rows rows2 : List (List EndpointState)) (flags flags2 : List Bool) (loops : List LoopEnd) (was is : Option Share)
      (news : List UseCount) → rows ≡ d.rows → rows2 ≡ d.rows → flags ≡ d.failed → flags2 ≡ d.failed
      → loops ≡ d.loops ++ (record { service = s; endpoint = i; number = j } ∷ [])
      → was ≡ row_share (slice_index_or flags s false) d.loops d.tasks s (slice_index_or rows s []) i
      → is ≡ row_share (slice_index_or flags2 s false) loops d.tasks s (slice_index_or rows2 s []) i
      → news ≡ map (raised is) (map (lowered was) counts) → AreUsesKept (record d { loops = loops }) news
  loop-keeps s i j rows rows2 flags flags2 loops was is news r r2 f f2 more had has changed =
      kept-as (loop_ended d s i j) (record d { loops = loops }) (map (raised (share_at (loop_ended d s i j) s i)) (map (lowered (share_at d s i)) counts)) news
      (ap (λ (l : List LoopEnd). record d { loops = l }) more)
      (changed ∙ ap (λ (y : Option Share). map (raised is) (map (lowered y) counts)) (had ∙ shares d.loops rows flags r f)
      ∙ ap (λ (y : Option Share). map (raised y) (map (lowered (share_at d s i)) counts)) (has ∙ shares loops rows2 flags2 r2 f2
      ∙ ap (λ (l : List LoopEnd). row_share (failed_at d s) l d.tasks s (slice_index_or d.rows s []) i) more))
      (kept-loop d counts kept s i j)
    where
      shares : (l : List LoopEnd) (rs : List (List EndpointState)) (fs : List Bool) → rs ≡ d.rows → fs ≡ d.failed
          → row_share (slice_index_or fs s false) l d.tasks s (slice_index_or rs s []) i ≡ row_share (failed_at d s) l d.tasks s (slice_index_or d.rows s []) i
      shares l rs fs e g = ap (λ (x : List Bool). row_share (slice_index_or x s false) l d.tasks s (slice_index_or rs s []) i) g
          ∙ ap (λ (x : List (List EndpointState)). row_share (failed_at d s) l d.tasks s (slice_index_or x s []) i) e

  pub rest-keeps : (out fds : List ℕ) (words : List (List ℕ)) (table : List Open) (came : List ℕ) (news : List UseCount) → all_new d.came fds ≡ true
      → table ≡ put_opens (without_numbers out (opens_of fds words)) d.table → came ≡ put_numbers fds d.came
      → news ≡ put_unused (filter (λ n. not (is_in n out)) fds) counts → AreUsesKept (record d { table = table; came = came }) news
  rest-keeps out fds words table came news new t n changed =
      kept-as (record d { table = put_opens (without_numbers out (opens_of fds words)) d.table; came = put_numbers fds d.came })
      (record d { table = table; came = came }) (put_unused (filter (λ n. not (is_in n out)) fds) counts) news
      (ap (λ (x : List Open). record d { table = x; came = came }) t
      ∙ ap (λ (x : List ℕ). record d { table = put_opens (without_numbers out (opens_of fds words)) d.table; came = x }) n) changed
      (kept-rest out fds words d counts kept new)

  -- new numbers aren't counted
  pub new-uncounted : (fds : List ℕ) → all_new d.came fds ≡ true → all_new (counted_numbers counts) fds ≡ true
  new-uncounted [] h = refl
  new-uncounted (fd ∷ fds) h =
      let parts = and_parts (not (is_in fd d.came) && not (is_in fd fds)) (all_new d.came fds) h in
      let both = and_parts (not (is_in fd d.came)) (not (is_in fd fds)) parts.0 in
      and_from (not (is_in fd (counted_numbers counts)) && not (is_in fd fds)) (all_new (counted_numbers counts) fds)
      (and_from (not (is_in fd (counted_numbers counts))) (not (is_in fd fds))
      (not_in (is_in fd (counted_numbers counts)) (not-counted d counts kept fd (apart_from (is_in fd d.came) both.0))) both.1) (new-uncounted fds parts.1)

  pub closed-keeps : (fd : ℕ) (table : List Open) (news : List UseCount) → table ≡ filter (λ (o : Open). not (o.fd == fd)) d.table
      → news ≡ filter (λ (u : UseCount). not (u.fd == fd)) counts → AreUsesKept (record d { table = table }) news
  closed-keeps fd table news t changed =
      kept-as (record d { table = filter (λ (o : Open). not (o.fd == fd)) d.table }) (record d { table = table })
      (filter (λ (u : UseCount). not (u.fd == fd)) counts) news (ap (λ (x : List Open). record d { table = x }) t) changed (kept-closed d counts kept fd)

  pub left-keeps : (f : Open → Bool) (table : List Open) (news : List UseCount) → table ≡ filter f d.table
      → news ≡ filter (λ (u : UseCount). is_in u.fd (numbers_of_table table)) counts → AreUsesKept (record d { table = table }) news
  left-keeps f table news t changed =
      kept-as (record d { table = filter f d.table }) (record d { table = table })
      (filter (λ (u : UseCount). is_in u.fd (numbers_of_table (filter f d.table))) counts) news (ap (λ (x : List Open). record d { table = x }) t)
      (changed ∙ ap (λ (x : List Open). filter (λ (u : UseCount). is_in u.fd (numbers_of_table x)) counts) t) (kept-left d counts kept f)

-- what is closed by the counts is what is to be closed
pub flags-sized : (p : Plan) (d : EndpointsData) → IsEndpointsSized p d → (flags : List Bool) → flags ≡ d.failed → length flags ≡ service_count p
flags-sized p d sized flags same = ap (λ (f : List Bool). length f) same ∙ sized.failed

module _ (d : EndpointsData) (counts : List UseCount) (kept : AreUsesKept d counts) (p : Plan) (sized : IsEndpointsSized p d) (keep : List ℕ)
    (flags : List Bool) (same : flags ≡ d.failed) where
  pub cleared-by : (table : List Open) → table ≡ left_by p flags keep counts d.table → record d { table = table } ≡ cleared p keep d
  cleared-by table is = ap (λ (t : List Open). record d { table = t })
      (is ∙ ap (λ (f : List Bool). left_by p f keep counts d.table) same ∙ (goes-counted d counts kept p sized keep d.table (λ n there. there)).1)

  pub told-by : (before after : List Action) → after ≡ before ++ map Close (gone_by p flags keep counts d.table)
      → after ≡ before ++ map Close (gone_numbers p keep d d.table)
  told-by before after is = is ∙ ap (λ (f : List Bool). before ++ map Close (gone_by p f keep counts d.table)) same
      ∙ ap (λ (t : List Open). before ++ map Close (numbers_of_table t)) (goes-counted d counts kept p sized keep d.table (λ n there. there)).0

-- nothing is counted of blank states
pub kept-blank : (d : EndpointsData) → ((s i : ℕ) → last_at d s i ≡ Idle) → ((s : ℕ) → row_size d.rows s ≤ 64) → d.table ≡ [] → AreUsesKept d []
kept-blank d blank few none = record {
  few = few;
  numbers = ap numbers_of_table (sym none);
  counted = refl;
  known = λ s i. ap (λ (x : EndpointStatus). is_known x d.came) (blank s i);
  once = ap (λ (t : List Open). distinct (numbers_of_table t)) none;
  open_came = λ n there. absurd (let nothing : is_in n [] ≡ true = sym (ap (λ (t : List Open). is_in n (numbers_of_table t)) none) ∙ there in cc);
}

-- the first descriptor with an address came
with_in : (n : ℕ) (a : Option (List ℕ)) (table : List Open) → is_in n (numbers_with table a) ≡ true → is_in n (numbers_of_table table) ≡ true
with_in n a [] h = h
with_in n a (o ∷ more) h = elim (cases_Bool (same_address o.address a)) [
  | inl y ↦ elim (or_cases (o.fd == n) (is_in n (numbers_with more a)) (rw y at h)) [
    | inl here ↦ or_left (o.fd == n) (is_in n (numbers_of_table more)) here
    | inr later ↦ or_right (o.fd == n) (is_in n (numbers_of_table more)) (with_in n a more later)
  ]
  | inr m ↦ or_right (o.fd == n) (is_in n (numbers_of_table more)) (with_in n a more (rw m at h))
]

pub found-came : (d : EndpointsData) (counts : List UseCount) → AreUsesKept d counts → (a : Option (List ℕ)) (r : Option ℕ)
    → r ≡ first_of (numbers_with d.table a) → IfSome r (λ fd. is_in fd d.came ≡ true)
found-came d counts kept a None is = tt
found-came d counts kept a (Some fd) is = kept.open_came fd (with_in fd a d.table (first_in (numbers_with d.table a) is))
  where
    first_in : (ns : List ℕ) → Some fd ≡ first_of ns → is_in fd ns ≡ true
    first_in [] e = absurd (cc)
    first_in (n ∷ ns) e = or_left (n == fd) (is_in fd ns) (eq-eqb n fd (some-inj n fd (sym e)))

-- a number that came now came
pub came-now : (fd : ℕ) (came : List ℕ) → is_in fd (put_number fd came) ≡ true
came-now fd came = any-put (λ x. x == fd) fd came ∙ or_left (fd == fd) (is_in fd came) (eq-eqb fd fd refl)

-- what is offered came, so what is held then came
pub known-held : (x : EndpointStatus) (came : List ℕ) → is_known x came ≡ true → is_known (held_now x) came ≡ true
known-held (Adopting n) came h = h
known-held (Holding n) came h = h
known-held Idle came h = refl
known-held Binding came h = refl
known-held (AddressInUse at) came h = refl
known-held AdoptionFailed came h = refl

-- a descriptor is live, and holds the endpoint
pub bound-keeps : (d : EndpointsData) (counts : List UseCount) → AreUsesKept d counts → (s i fd times : ℕ) (address : Option (List ℕ)) → s < length d.rows
    → i < row_size d.rows s → is_in fd d.came ≡ false
    → (row next : List EndpointState) (failed done : Bool) (old : EndpointState) (was : Option Share) (is : Share) (table : List Open) (came : List ℕ)
    → (news : List UseCount) → row ≡ slice_index_or d.rows s [] → next ≡ slice_set row i (record { last = Holding fd; times_in_use = times })
    → failed ≡ failed_at d s → done ≡ (loop_count d.loops s i == d.tasks) → old ≡ slice_index_or row i idle → was ≡ share_of failed done old.last
    → is ≡ holder_share failed done fd → table ≡ put_open (record { fd = fd; address = address }) d.table → came ≡ put_number fd d.came
    → news ≡ map (raised (Some is)) (map (lowered was) (put_by (λ (u : UseCount). u.fd) (unused is.fd) counts))
    → AreUsesKept (record d { rows = slice_set d.rows s next; table = table; came = came }) news
bound-keeps d counts kept s i fd times address inside within none row next failed done old was is table came news same set flag ended state had has t m
    changed =
    let live : EndpointsData = record d { came = put_number fd d.came; table = put_open (record { fd = fd; address = address }) d.table } in
    kept-as (record live { rows = slice_set d.rows s next }) (record d { rows = slice_set d.rows s next; table = table; came = came }) news news
    (ap (λ (x : List Open). record d { rows = slice_set d.rows s next; table = x; came = came }) t
    ∙ ap (λ (x : List ℕ). record live { rows = slice_set d.rows s next; came = x }) m) refl
    (put-keeps live (put_by (λ (u : UseCount). u.fd) (unused fd) counts) (kept-open d counts kept fd address none) s i
    (record { last = Holding fd; times_in_use = times }) inside within (came-now fd d.came) row next failed done old was (Some is) news same set flag ended
    state had (ap Some has)
    (changed ∙ ap (λ (x : Share). map (raised (Some is)) (map (lowered was) (put_by (λ (u : UseCount). u.fd) (unused x.fd) counts))) has))
