-- What a service's endpoints have, and what has their addresses, is among the numbers that are looked at as it fails, and nothing else goes by that.
use Rattle.std.proofs.Common.{ℕ, suc, Bool, true, false, not, ◌||◌, ◌&&◌, ◌==◌, inl, inr, ◌⊎◌, List, [], ◌∷◌, filter, bytes_eq, ◌≡◌, ◌≢◌, refl, ap, sym, ◌∙◌, subst, arith, ◌<◌, ◌≤◌, ◌+◌, ◌*◌, length, Option, Some, None, IfSome, slice_get, slice_index_or, get_or}
use Rattle.std.specs.List.{list_any, list_all}
use Rattle.std.specs.List.Sorted.{IsPermutation}
use Rattle.std.specs.Option.{option_to_list}
use Rattle.std.proofs.lemmas.Bool.{cases_Bool, cases_eq, and_parts, and_from, or_cases, or_parts, or_left, or_right, eq-eqb, eqb-true}
use Rattle.std.proofs.lemmas.List.Folds.{list_any_at}
use Rattle.std.proofs.lemmas.List.Sorted.{list_any-IsPermutation}
use Rattle.svc_base.specs.NumberSets.{is_in}
use Rattle.svc_base.proofs.Logic.{clash}
use Rattle.svc_graph.specs.declared.plan.EndpointPlan.{EndpointPlan}
use Rattle.svc_record.specs.declared.plan.Plan.{Plan}
use Rattle.svc_record.specs.Record.{Record}
use Rattle.svc_record.specs.Plans.{service_count, services, endpoints, address, same_address, names, declares}
use Rattle.svc_endpoints.specs.declared.states.EndpointState.{EndpointState}
use Rattle.svc_endpoints.specs.declared.states.EndpointStatus.{EndpointStatus}
use Rattle.svc_endpoints.specs.declared.states.EndpointStatus.TheVariants.{Idle, Binding, AddressInUse, Adopting, Holding, AdoptionFailed}
use Rattle.svc_endpoints.specs.declared.table.Open.{Open}
use Rattle.svc_endpoints.specs.EndpointsData.{EndpointsData}
use Rattle.svc_endpoints.specs.EndpointsState.{EndpointsStand, AreOnOffer, idle, last_at, failed_at, fd_of, is_done, numbers_of_table, numbers_with, open_numbers}
use Rattle.svc_endpoints.specs.Effects.{first_of, passes, is_abandoned_by, is_done_for, goes, gone_numbers, cleared}
use Rattle.svc_endpoints.specs.Failing.{AreListed, HasOwn, HasOwnLive, goes_among, left_among, gone_among}
use Rattle.svc_endpoints.specs.Sums.{sum_of, is_listed, claims, AreShared}
use Rattle.svc_endpoints.specs.declared.loops.LoopEnd.{LoopEnd}
use Rattle.svc_endpoints.specs.Loops.{loop_count}
use Rattle.svc_endpoints.specs.Uses.{has_held, uses, is_holder_by, is_user, is_drained_by}
use Rattle.svc_endpoints.proofs.ChangeLemmas.{Changed}
use Rattle.svc_endpoints.proofs.ClearLemmas.{none-gone-before}
use Rattle.svc_endpoints.proofs.DrainedLemmas.{filter-live}
use Rattle.svc_endpoints.proofs.LiveLemmas.{same_eq, same_self}
use Rattle.svc_endpoints.proofs.NamedLemmas.{address_at, all-same}
use Rattle.svc_endpoints.proofs.RangeLemmas.{at0, all0}
use Rattle.svc_endpoints.proofs.RestLemmas.{some-passes}
use Rattle.svc_endpoints.proofs.UseLemmas.{drained-grows}

-- what is noted
found_is : (x : ℕ) (found : Option ℕ) (xs : List ℕ) → option_to_list found ≡ xs → is_in x xs ≡ true → found ≡ Some x
found_is x (Some y) xs is h = ap Some (one y x (ap (is_in x) is ∙ h))
  where
    one : (y x : ℕ) → is_in x (y ∷ []) ≡ true → y ≡ x
    one y x h = elim (or_cases (y == x) false h) [
      | inl e ↦ eqb-true y x e
      | inr bad ↦ absurd (cc)
    ]
found_is x None xs is h = absurd (clash (is_in x xs) h (ap (is_in x) (sym is)))

some_holds : (x : ℕ) (found : Option ℕ) (P : ℕ → Type 0) → found ≡ Some x → IfSome found P → P x
some_holds x (Some y) P e h = subst P (same y x e) h
  where
    same : (y x : ℕ) → Some y ≡ Some x → y ≡ x
    same y x e = cc
some_holds x None P e h = absurd (cc)

module _ (p : Plan) (row : List EndpointState) (table : List Open) (s : ℕ) where
  pub listed-more : (i : ℕ) (first next last : List ℕ) (held named : Option ℕ) → AreListed p row table s i first
      → option_to_list held ≡ fd_of (slice_index_or row i idle).last → IfSome held (λ n. slice_index_or next (2 * i + 1) 0 ≡ n)
      → ((k : ℕ) → k ≢ 2 * i + 1 → slice_index_or next k 0 ≡ slice_index_or first k 0)
      → named ≡ first_of (numbers_with table (address p s i)) → IfSome named (λ n. slice_index_or last (2 * i + 2) 0 ≡ n)
      → ((k : ℕ) → k ≢ 2 * i + 2 → slice_index_or last k 0 ≡ slice_index_or next k 0)
      → AreListed p row table s (i + 1) last
  listed-more i first next last held named was has here others is there same = record {
    held = λ k x lt h. elim (cases_eq k i) [
      | inl e ↦ subst (λ j. slice_index_or last (2 * j + 1) 0 ≡ x) (sym e)
          (same (2 * i + 1) (λ f. omega arith)
          ∙ some_holds x held (λ n. slice_index_or next (2 * i + 1) 0 ≡ n)
          (found_is x held (fd_of (slice_index_or row i idle).last) has (subst (λ j. is_in x (fd_of (slice_index_or row j idle).last) ≡ true) e h)) here)
      | inr ne ↦ same (2 * k + 1) (λ f. omega arith) ∙ others (2 * k + 1) (λ f. omega arith) ∙ was.held k x (omega arith) h
    ];
    named = λ k x lt h. elim (cases_eq k i) [
      | inl e ↦ subst (λ j. slice_index_or last (2 * j + 2) 0 ≡ x) (sym e)
          (some_holds x named (λ n. slice_index_or last (2 * i + 2) 0 ≡ n)
          (is ∙ subst (λ j. first_of (numbers_with table (address p s j)) ≡ Some x) e h) there)
      | inr ne ↦ same (2 * k + 2) (λ f. omega arith) ∙ others (2 * k + 2) (λ f. omega arith) ∙ was.named k x (omega arith) h
    ];
  }

  -- in whatever order the numbers stand
  pub has-own : (offered : Option ℕ) (numbers noted sorted : List ℕ) → length row ≤ 64 → length noted ≡ 129
      → IfSome offered (λ n. slice_index_or numbers 0 0 ≡ n) → slice_index_or noted 0 0 ≡ slice_index_or numbers 0 0
      → AreListed p row table s (length row) noted → IsPermutation noted sorted → HasOwn p row table s offered sorted
  has-own offered numbers noted sorted few len given first was moved = record {
    offer = λ x h. there x 0 (omega arith)
        (first ∙ some_holds x offered (λ n. slice_index_or numbers 0 0 ≡ n) (found_is x offered (option_to_list offered) refl h) given);
    held = λ k x lt h. there x (2 * k + 1) (omega arith) (was.held k x lt h);
    named = λ k x lt h. there x (2 * k + 2) (omega arith) (was.named k x lt h);
  }
    where
      there : (x k : ℕ) → k < length noted → slice_index_or noted k 0 ≡ x → is_in x sorted ≡ true
      there x k lt e = sym (list_any-IsPermutation (λ m. m == x) noted sorted moved)
          ∙ list_any_at (λ m. m == x) noted k 0 lt (eq-eqb (get_or noted k 0) x e)

-- of live descriptors
pub own-live : (p : Plan) (d : EndpointsData) (s : ℕ) (offered : Option ℕ) (row : List EndpointState) (numbers : List ℕ) → row ≡ slice_index_or d.rows s []
    → length row ≡ length (endpoints p s) → ((a : List ℕ) → claims p s a ≡ false) → HasOwn p row d.table s offered numbers → HasOwnLive p d s offered numbers
own-live p d s offered row numbers is size none has = record {
  claimed = λ a y. absurd (clash (claims p s a) y (none a));
  offer = λ x live h. has.offer x h;
  held = λ k x lt live h. has.held k x (omega arith) (ap (λ (r : List EndpointState). is_in x (fd_of (slice_index_or r k idle).last)) is ∙ h);
  named = λ k x lt live h. has.named k x (omega arith) h;
}

pub all-live : (p : Plan) (d : EndpointsData) (s : ℕ) (offered : Option ℕ) → HasOwnLive p d s offered (open_numbers d)
all-live p d s offered = record {
  claimed = λ a y x live. live;
  offer = λ x live h. live;
  held = λ k x lt live h. live;
  named = λ k x lt live h. live;
}

-- an endpoint that has the address
find_named : (xs : List EndpointPlan) (a : List ℕ) → list_any (λ (x : EndpointPlan). bytes_eq x.address a) xs ≡ true
    → (k : ℕ) × (k < length xs) × (address_at (slice_get xs k) ≡ Some a)
find_named [] a h = absurd (cc)
find_named (x ∷ xs) a h = elim (or_cases (bytes_eq x.address a) (list_any (λ (y : EndpointPlan). bytes_eq y.address a) xs) h) [
  | inl here ↦ (0, omega arith, same_eq (Some x.address) (Some a) here)
  | inr later ↦ (let more = find_named xs a later in (suc more.0, omega (arith, more.1), more.2))
]

pub find-address : (p : Plan) (s : ℕ) (a : List ℕ) → list_any (λ (x : EndpointPlan). bytes_eq x.address a) (endpoints p s) ≡ true
    → (k : ℕ) × (k < length (endpoints p s)) × (address p s k ≡ Some a)
find-address p s a h = find_named (endpoints p s) a h

-- a service that names an address has an endpoint with it, or claims it
named_how : (p : Plan) (s : ℕ) (a : List ℕ) → names p s a ≡ true → (is_listed (endpoints p s) a ≡ true) ⊎ (claims p s a ≡ true)
named_how p s a h = elim (cases_Bool (is_listed (endpoints p s) a)) [
  | inl y ↦ inl y
  | inr n ↦ elim (or_cases (declares p s a) (is_listed (endpoints p s) a) h) [
    | inl d ↦ inr (and_from (declares p s a) (not (is_listed (endpoints p s) a)) d (ap not n))
    | inr y ↦ absurd (clash (is_listed (endpoints p s) a) y n)
  ]
]

-- where a service has failed that alone has an endpoint with the address, and no other claims it, the address is abandoned
module _ (p : Plan) (d : EndpointsData) (s : ℕ) (a : List ℕ) (shared : AreShared p d.shared) (inside : s < service_count p)
    (bad : failed_at d s ≡ true) (alone : is_in (sum_of a) d.shared ≡ false)
    (named : list_any (λ (x : EndpointPlan). bytes_eq x.address a) (endpoints p s) ≡ true) where
  here : (k : ℕ) × (k < length (endpoints p s)) × (address p s k ≡ Some a)
  here = find-address p s a named

  elsewhere : (t : ℕ) → t < service_count p → t ≢ s → names p t a ≡ true → is_in (sum_of a) d.shared ≡ true
  elsewhere t lt ne y = elim (named_how p t a y) [
    | inl has ↦ (let there = find-address p t a has in
        shared.apart t there.0 s here.0 a (λ e. absurd (ne e)) (record { inside = lt; within = there.1; named = there.2 })
        (record { inside = inside; within = here.1; named = here.2 }))
    | inr claimed ↦ shared.claimed t a lt claimed
  ]

  unnamed : (t : ℕ) → t < service_count p → t ≢ s → names p t a ≡ false
  unnamed t lt ne = elim (cases_Bool (names p t a)) [
    | inl y ↦ absurd (clash (is_in (sum_of a) d.shared) (elsewhere t lt ne y) alone)
    | inr n ↦ n
  ]

  done_with : (t : ℕ) → t < service_count p → (not (names p t a) || failed_at d t) ≡ true
  done_with t lt = elim (cases_eq t s) [
    | inl e ↦ or_right (not (names p t a)) (failed_at d t) (subst (λ u. failed_at d u ≡ true) (sym e) bad)
    | inr ne ↦ or_left (not (names p t a)) (failed_at d t) (ap not (unnamed t lt ne))
  ]

  pub alone-left : is_abandoned_by p d.failed a ≡ true
  alone-left = and_from (list_any (λ t. names p t a) (services p)) (list_all (λ t. not (names p t a) || failed_at d t) (services p))
      (at0 (λ t. names p t a) (service_count p) s inside
      (or_right (declares p s a) (list_any (λ (x : EndpointPlan). bytes_eq x.address a) (endpoints p s)) named))
      (all0 (λ t. not (names p t a) || failed_at d t) (service_count p) done_with)

-- what stands in a table: its number does, where its address is known it is one of those with it, and where it passes it is one of those that do
record Stands (f : Open → Bool) (t : List Open) (o : Open) : Type 0 where
  pub live : is_in o.fd (numbers_of_table t) ≡ true
  pub with : (a : List ℕ) → o.address ≡ Some a → is_in o.fd (numbers_with t (Some a)) ≡ true
  pub picked : f o ≡ true → is_in o.fd (numbers_of_table (filter f t)) ≡ true

stands_first : (f : Open → Bool) (o : Open) (t : List Open) → Stands f (o ∷ t) o
stands_first f o t = record {
  live = or_left (o.fd == o.fd) (is_in o.fd (numbers_of_table t)) (eq-eqb o.fd o.fd refl);
  with = λ a e. rw (subst (λ b. same_address b (Some a) ≡ true) (sym e) (same_self a))
      (or_left (o.fd == o.fd) (is_in o.fd (numbers_with t (Some a))) (eq-eqb o.fd o.fd refl));
  picked = λ y. rw y (or_left (o.fd == o.fd) (is_in o.fd (numbers_of_table (filter f t))) (eq-eqb o.fd o.fd refl));
}

stands_later : (f : Open → Bool) (x : Open) (t : List Open) (o : Open) → Stands f t o → Stands f (x ∷ t) o
stands_later f x t o s = record {
  live = or_right (x.fd == o.fd) (is_in o.fd (numbers_of_table t)) s.live;
  with = λ a e. elim (cases_Bool (same_address x.address (Some a))) [
    | inl y ↦ rw y (or_right (x.fd == o.fd) (is_in o.fd (numbers_with t (Some a))) (s.with a e))
    | inr n ↦ rw n (s.with a e)
  ];
  picked = λ y. elim (cases_Bool (f x)) [
    | inl z ↦ rw z (or_right (x.fd == o.fd) (is_in o.fd (numbers_of_table (filter f t))) (s.picked y))
    | inr n ↦ rw n (s.picked y)
  ];
}

same_picks : (f g h : Open → Bool) (t : List Open) → ((o : Open) → Stands f t o → g o ≡ h o) → filter g t ≡ filter h t
same_picks f g h [] same = refl
same_picks f g h (o ∷ t) same =
    let more = same_picks f g h t (λ x s. same x (stands_later f o t x s)) in
    let here = same o (stands_first f o t) in
    elim (cases_Bool (h o)) [
      | inl y ↦ rw (here, y) (ap (λ (w : List Open). o ∷ w) more)
      | inr n ↦ rw (here, n) more
    ]

-- the one of some numbers, where there is one at most
only_first : (x : ℕ) (xs : List ℕ) → length xs ≤ 1 → is_in x xs ≡ true → first_of xs ≡ Some x
only_first x [] le h = absurd (cc)
only_first x (y ∷ []) le h = elim (or_cases (y == x) false h) [
  | inl e ↦ ap Some (eqb-true y x e)
  | inr bad ↦ absurd (cc)
]
only_first x (y ∷ z ∷ xs) le h = absurd (omega arith)

-- what is used is held or offered
used_has : (fd : ℕ) (f done : Bool) (x : EndpointStatus) → uses fd f done x ≡ true → is_in fd (fd_of x) ≡ true
used_has fd f done (Adopting n) h = or_left (n == fd) false h
used_has fd f done (Holding n) h = or_left (n == fd) false (and_parts (not f && not done) (n == fd) h).1
used_has fd f done Idle h = absurd (cc)
used_has fd f done Binding h = absurd (cc)
used_has fd f done (AddressInUse at) h = absurd (cc)
used_has fd f done AdoptionFailed h = absurd (cc)

-- as a service fails, nothing but its own goes
module _ (p : Plan) (d d2 : EndpointsData) (s i : ℕ) (offered : Option ℕ) (keep own : List ℕ) (is : Changed p d d2 s i) (bad : failed_at d2 s ≡ true)
    (table : d2.table ≡ d.table) (offers : (x : ℕ) → is_in x (fd_of (last_at d s i)) ≡ true → is_in x (option_to_list offered) ≡ true)
    (has : HasOwnLive p d2 s offered own) (q : Record) (offer : AreOnOffer p keep q) (stand : EndpointsStand p d q) where
  flags_same : (a : List ℕ) → names p s a ≡ false → is_abandoned_by p d2.failed a ≡ is_abandoned_by p d.failed a
  flags_same a none = ap (λ b. list_any (λ t. names p t a) (services p) && b)
      (all-same (λ t. not (names p t a) || failed_at d2 t) (λ t. not (names p t a) || failed_at d t) 0 (service_count p) (λ t lt. elim (cases_eq t s) [
        | inl e ↦ (let off : names p t a ≡ false = subst (λ u. names p u a ≡ false) (sym e) none in rw off refl)
        | inr ne ↦ ap (λ b. not (names p t a) || b) (is.failed t ne)
      ]))

  -- its address is abandoned now
  left_now : (o : Open) → Stands (goes p keep d) d.table o → is_done_for p d2.failed keep o ≡ true → is_done_for p d.failed keep o ≡ false
      → is_in o.fd own ≡ true
  left_now o stands now before =
      let parts = and_parts (passes (is_abandoned_by p d2.failed) o.address) (not (is_in o.fd keep)) now in
      let some = some-passes (is_abandoned_by p d2.failed) o.address parts.0 in
      let live : is_in o.fd (open_numbers d2) ≡ true = ap (λ (t : List Open). is_in o.fd (numbers_of_table t)) table ∙ stands.live in
      elim (cases_Bool (names p s some.0)) [
        | inr none ↦ absurd (clash (is_done_for p d.failed keep o)
            (and_from (passes (is_abandoned_by p d.failed) o.address) (not (is_in o.fd keep))
            (ap (passes (is_abandoned_by p d.failed)) some.1 ∙ sym (flags_same some.0 none) ∙ some.2) parts.1) before)
        | inl named ↦ elim (named_how p s some.0 named) [
          | inr claimed ↦ has.claimed some.0 claimed o.fd live
          | inl there ↦ (let at = find-address p s some.0 there in
              has.named at.0 o.fd at.1 live
              (ap (λ (a : Option (List ℕ)). first_of (numbers_with d2.table a)) at.2
              ∙ ap (λ (t : List Open). first_of (numbers_with t (Some some.0))) table
              ∙ only_first o.fd (numbers_with d.table (Some some.0)) (stand.kept.one (Some some.0)) (stands.with some.0 some.1)))
        ]
      ]

  -- it is drained now
  drained_now : (fd : ℕ) → is_in fd (open_numbers d2) ≡ true → is_drained_by p d2 fd ≡ true → is_drained_by p d fd ≡ false → is_in fd own ≡ true
  drained_now fd live now before = elim (cases_Bool (is_in fd own)) [
    | inl y ↦ y
    | inr none ↦ absurd (clash (is_drained_by p d fd) (drained-grows p d2 d fd (holds none) (used none) now) before)
  ]
    where
      away : (t k : ℕ) → t ≢ s → (is_holder_by d2 fd t k ≡ is_holder_by d fd t k) × (is_user p d2 fd t k ≡ is_user p d fd t k)
      away t k ne = (
        ap (λ b. not b && has_held fd (last_at d2 t k)) (is.failed t ne)
            ∙ ap (λ (x : EndpointStatus). not (failed_at d t) && has_held fd x) (is.last t k (λ e f. ne e)),
        ap (λ b. uses fd b (is_done p d2 t k) (last_at d2 t k)) (is.failed t ne)
            ∙ ap (λ b. uses fd (failed_at d t) b (last_at d2 t k)) (done_same t k)
            ∙ ap (λ (x : EndpointStatus). uses fd (failed_at d t) (is_done p d t k) x) (is.last t k (λ e f. ne e)),
      )
        where
          done_same : (t k : ℕ) → is_done p d2 t k ≡ is_done p d t k
          done_same t k = ap (λ (l : List LoopEnd). loop_count l t k == p.tasks) is.loops

      holds : is_in fd own ≡ false → (t k : ℕ) → is_holder_by d2 fd t k ≡ true → is_done p d2 t k ≡ true → is_holder_by d fd t k ≡ true
      holds none t k h done = elim (cases_eq t s) [
        | inl e ↦ absurd (let b : failed_at d2 t ≡ true = subst (λ u. failed_at d2 u ≡ true) (sym e) bad in let no = rw b at h in cc)
        | inr ne ↦ sym (away t k ne).0 ∙ h
      ]

      own_used : is_in fd own ≡ false → (k : ℕ) → k < length (endpoints p s) → is_user p d fd s k ≡ true → ⊥
      own_used none k lt u =
          let there = used_has fd (failed_at d s) (is_done p d s k) (last_at d s k) u in
          elim (cases_eq k i) [
            | inl e ↦ clash (is_in fd own) (has.offer fd live (offers fd (subst (λ j. is_in fd (fd_of (last_at d s j)) ≡ true) e there))) none
            | inr ne ↦ clash (is_in fd own)
                (has.held k fd lt live (ap (λ (x : EndpointStatus). is_in fd (fd_of x)) (is.last s k (λ e f. ne f)) ∙ there)) none
          ]

      used : is_in fd own ≡ false → (t k : ℕ) → t < service_count p → k < length (endpoints p t) → is_user p d fd t k ≡ true → is_user p d2 fd t k ≡ true
      used none t k inside within u = elim (cases_eq t s) [
        | inl e ↦ absurd (own_used none k (subst (λ v. k < length (endpoints p v)) e within) (subst (λ v. is_user p d fd v k ≡ true) e u))
        | inr ne ↦ (away t k ne).1 ∙ u
      ]

  goes_own : (o : Open) → Stands (goes p keep d) d.table o → goes p keep d2 o ≡ true → is_in o.fd own ≡ true
  goes_own o stands now =
      let before = none_before (goes p keep d o)
      (λ y. clash (is_in o.fd (gone_numbers p keep d d.table)) (stands.picked y) (none-gone-before p d q stand keep offer o.fd)) in
      let parts = or_parts (is_done_for p d.failed keep o) (is_drained_by p d o.fd) before in
      let live : is_in o.fd (open_numbers d2) ≡ true = ap (λ (t : List Open). is_in o.fd (numbers_of_table t)) table ∙ stands.live in
      elim (or_cases (is_done_for p d2.failed keep o) (is_drained_by p d2 o.fd) now) [
        | inl left ↦ left_now o stands left parts.0
        | inr drained ↦ drained_now o.fd live drained parts.1
      ]
    where
      none_before : (b : Bool) → (b ≡ true → ⊥) → b ≡ false
      none_before true f = absurd (f refl)
      none_before false f = refl

  same_goes : (o : Open) → Stands (goes p keep d) d.table o → goes p keep d2 o ≡ goes_among p keep d2 own o
  same_goes o stands = elim (cases_Bool (goes p keep d2 o)) [
    | inl y ↦ rw (y, goes_own o stands y) refl
    | inr n ↦ rw n (none (is_in o.fd own))
  ]
    where
      none : (b : Bool) → false ≡ (b && false)
      none b = grind arith

  pub own-left : cleared p keep d2 ≡ left_among p keep own d2
  own-left = ap (λ (t : List Open). record d2 { table = t })
      (subst (λ (t : List Open). filter (λ (o : Open). not (goes p keep d2 o)) t ≡ filter (λ (o : Open). not (goes_among p keep d2 own o)) t) (sym table)
      (same_picks (goes p keep d) (λ (o : Open). not (goes p keep d2 o)) (λ (o : Open). not (goes_among p keep d2 own o)) d.table
      (λ o stands. ap not (same_goes o stands))))

  pub own-gone : gone_numbers p keep d2 d2.table ≡ gone_among p keep own d2
  own-gone = ap numbers_of_table
      (subst (λ (t : List Open). filter (goes p keep d2) t ≡ filter (goes_among p keep d2 own) t) (sym table)
      (same_picks (goes p keep d) (goes p keep d2) (goes_among p keep d2 own) d.table same_goes))

-- all that is live is among the live
pub live-left : (p : Plan) (keep : List ℕ) (d : EndpointsData) → cleared p keep d ≡ left_among p keep (open_numbers d) d
live-left p keep d = ap (λ (t : List Open). record d { table = t })
    (filter-live (λ (o : Open). not (goes p keep d o)) (λ (o : Open). not (goes_among p keep d (open_numbers d) o)) d.table (λ o live. rw live refl))

pub live-gone : (p : Plan) (keep : List ℕ) (d : EndpointsData) → gone_numbers p keep d d.table ≡ gone_among p keep (open_numbers d) d
live-gone p keep d = ap numbers_of_table (filter-live (goes p keep d) (goes_among p keep d (open_numbers d)) d.table (λ o live. rw live refl))
