-- The sums of addresses that several endpoints have are found, and tell that another one has none of them.
use Rattle.std.proofs.Common.{ℕ, suc, Bool, true, false, ◌&&◌, ◌==◌, inl, inr, ◌⊎◌, List, [], ◌∷◌, bytes_eq, ◌≡◌, ◌≢◌, refl, ap, sym, ◌∙◌, subst, arith, ◌+◌, ◌<◌, length, Some, get_or}
use Rattle.std.proofs.lemmas.Bool.{cases_Bool, cases_lt, eq-eqb, or_cases, or_left, or_right}
use Rattle.svc_base.specs.NumberSets.{is_in, put_number}
use Rattle.svc_base.proofs.Logic.{clash}
use Rattle.svc_base.proofs.NumberSetLemmas.{any-put}
use Rattle.svc_record.specs.declared.plan.Plan.{Plan}
use Rattle.svc_record.specs.Plans.{service_count, endpoints, address, same_address, is_among, any_with}
use Rattle.svc_endpoints.specs.Sums.{sum_of, claims, HasAddress, AreShared, IsBefore, AreNoted, Grows}
use Rattle.svc_endpoints.specs.Rests.{IsAlone}
use Rattle.svc_endpoints.proofs.LiveLemmas.{same_eq}
use Rattle.svc_endpoints.proofs.RangeLemmas.{none0}

-- a set with one more
pub put-here : (n : ℕ) (old : List ℕ) → is_in n (put_number n old) ≡ true
put-here n old = any-put (λ m. m == n) n old ∙ or_left (n == n) (is_in n old) (eq-eqb n n refl)

pub put-grows : (n : ℕ) (old : List ℕ) → Grows old (put_number n old)
put-grows n old m h = any-put (λ x. x == m) n old ∙ or_right (n == m) (is_in m old) h

-- a text of a list has a place there
find_text : (xs : List (List ℕ)) (a : List ℕ) → is_among a xs ≡ true → (k : ℕ) × (k < length xs) × (get_or xs k [] ≡ a)
find_text [] a h = absurd (cc)
find_text (x ∷ xs) a h = elim (or_cases (bytes_eq x a) (is_among a xs) h) [
  | inl here ↦ (0, omega arith, (let e = same_eq (Some x) (Some a) here in cc))
  | inr later ↦ (let more = find_text xs a later in (suc more.0, omega (arith, more.1), more.2))
]

-- what holds of each place's text holds of each text
pub each-text : (xs : List (List ℕ)) (P : List ℕ → Type 0) → ((k : ℕ) → k < length xs → P (get_or xs k [])) → (a : List ℕ) → is_among a xs ≡ true → P a
each-text xs P each a h = let at = find_text xs a h in subst P at.2 (each at.0 at.1)

-- which stand before the next one, or before the next service's first
before_next : (t k s i : ℕ) → IsBefore t k s (i + 1) → IsBefore t k s i ⊎ ((t ≡ s) × (k ≡ i))
before_next t k s i (inl less) = inl (inl less)
before_next t k s i (inr h) = elim (cases_lt k i) [
  | inl less ↦ inl (inr (h.0, less))
  | inr past ↦ (let last = h.1 in inr (h.0, omega arith))
]

module _ (p : Plan) where
  before_row : (t k s : ℕ) (a : List ℕ) → IsBefore t k (s + 1) 0 → HasAddress p t k a → IsBefore t k s (length (endpoints p s))
  before_row t k s a (inl most) h = elim (cases_lt t s) [
    | inl less ↦ inl less
    | inr past ↦ (let same : t ≡ s = omega arith in inr (same, subst (λ u. k < length (endpoints p u)) same h.within))
  ]
  before_row t k s a (inr h) g = absurd (let none = h.1 in omega arith)

  pub noted-none : (seen shared : List ℕ) → AreNoted p 0 0 seen shared
  noted-none seen shared = record {
    each = λ t k a before h. absurd (nothing t k before);
    twice = λ t k u j a before last h g. absurd (nothing u j last);
    claimed = λ t a lt h. absurd (omega arith);
  }
    where
      nothing : (t k : ℕ) → IsBefore t k 0 0 → ⊥
      nothing t k (inl less) = omega arith
      nothing t k (inr h) = let none = h.1 in omega arith

  -- one endpoint more
  pub noted-next : (s i n : ℕ) (b seen shared seen2 shared2 : List ℕ) → n ≡ sum_of b → Some b ≡ address p s i → is_in n seen2 ≡ true
      → (is_in n seen ≡ true → is_in n shared2 ≡ true)
      → Grows seen seen2 → Grows shared shared2 → AreNoted p s i seen shared → AreNoted p s (i + 1) seen2 shared2
  noted-next s i n b seen shared seen2 shared2 sum named here twice more others was = record {
    each = λ t k a before h. elim (before_next t k s i before) [
      | inl earlier ↦ more (sum_of a) (was.each t k a earlier h)
      | inr at ↦ subst (λ m. is_in m seen2 ≡ true) (own t k a at h) here
    ];
    twice = λ t k u j a before last h g. elim (before_next u j s i last) [
      | inl earlier ↦ others (sum_of a) (was.twice t k u j a before earlier h g)
      | inr at ↦ subst (λ m. is_in m shared2 ≡ true) (own u j a at g)
          (twice (subst (λ m. is_in m seen ≡ true) (sym (own u j a at g))
          (was.each t k a (subst (λ x. IsBefore t k x i) at.0 (subst (λ x. IsBefore t k u x) at.1 before)) h)))
    ];
    claimed = λ t a lt h. others (sum_of a) (was.claimed t a lt h);
  }
    where
      own : (t k : ℕ) (a : List ℕ) → ((t ≡ s) × (k ≡ i)) → HasAddress p t k a → n ≡ sum_of a
      own t k a at h =
          let there : address p s i ≡ Some a = subst (λ x. address p x i ≡ Some a) at.0 (subst (λ x. address p t x ≡ Some a) at.1 h.named) in
          let both : Some b ≡ Some a = named ∙ there in
          let same : b ≡ a = cc in
          sum ∙ ap sum_of same

  -- all of a service's, and what it claims
  pub noted-row : (s : ℕ) (seen shared shared2 : List ℕ) → ((a : List ℕ) → claims p s a ≡ true → is_in (sum_of a) shared2 ≡ true) → Grows shared shared2
      → AreNoted p s (length (endpoints p s)) seen shared → AreNoted p (s + 1) 0 seen shared2
  noted-row s seen shared shared2 own others was = record {
    each = λ t k a before h. was.each t k a (before_row t k s a before h) h;
    twice = λ t k u j a before last h g. others (sum_of a) (was.twice t k u j a before (before_row u j s a last g) h g);
    claimed = λ t a lt h. elim (cases_lt t s) [
      | inl less ↦ others (sum_of a) (was.claimed t a less h)
      | inr past ↦ (let same : t ≡ s = omega arith in own a (subst (λ u. claims p u a ≡ true) same h))
    ];
  }

  -- so in the end they are those of all addresses that several have
  apart_all : (seen shared : List ℕ) → AreNoted p (service_count p) 0 seen shared
      → (t k s i : ℕ) (a : List ℕ) → (t ≡ s → k ≢ i) → HasAddress p t k a → HasAddress p s i a → is_in (sum_of a) shared ≡ true
  apart_all seen shared was t k s i a apart h g = elim (cases_lt t s) [
    | inl less ↦ was.twice t k s i a (inl less) (inl g.inside) h g
    | inr past ↦ elim (cases_lt s t) [
      | inl less ↦ was.twice s i t k a (inl less) (inl h.inside) g h
      | inr least ↦ (let same : t ≡ s = omega arith in elim (cases_lt k i) [
        | inl less ↦ was.twice t k s i a (inr (same, less)) (inl g.inside) h g
        | inr over ↦ elim (cases_lt i k) [
          | inl less ↦ was.twice s i t k a (inr (sym same, less)) (inl h.inside) g h
          | inr under ↦ absurd (apart same (omega arith))
        ]
      ])
    ]
  ]

  pub shared-all : (seen shared : List ℕ) → AreNoted p (service_count p) 0 seen shared → AreShared p shared
  shared-all seen shared was = record { apart = apart_all seen shared was; claimed = was.claimed }

  -- where an endpoint's sum isn't among them, no other service has its address
  pub alone-is : (shared : List ℕ) → AreShared p shared → (s i : ℕ) (a : List ℕ) → HasAddress p s i a → is_in (sum_of a) shared ≡ false → IsAlone p s i
  alone-is shared are s i a one alone t k inside within ne = elim (cases_Bool (same_address (address p s i) (address p t k))) [
    | inl same ↦
        let named : address p t k ≡ Some a = sym (same_eq (address p s i) (address p t k) same) ∙ one.named in
        absurd
        (clash (is_in (sum_of a) shared)
        (are.apart t k s i a (λ e. absurd (ne e)) (record { inside = inside; within = within; named = named }) one) alone)
    | inr n ↦ n
  ]

  -- and no other endpoint has it
  module _ (shared : List ℕ) (are : AreShared p shared) (s i : ℕ) (a : List ℕ) (one : HasAddress p s i a) (alone : is_in (sum_of a) shared ≡ false)
      (test : ℕ → ℕ → Bool) (off : test s i ≡ false) where
    other : (t k : ℕ) → test t k ≡ true → t ≡ s → k ≡ i → ⊥
    other t k on service endpoint = clash (test s i) (subst (λ x. test x i ≡ true) service (subst (λ x. test t x ≡ true) endpoint on)) off

    none_at : (t k : ℕ) → t < service_count p → k < length (endpoints p t) → (same_address (address p t k) (Some a) && test t k) ≡ false
    none_at t k inside within = elim (cases_Bool (same_address (address p t k) (Some a))) [
      | inl same ↦ elim (cases_Bool (test t k)) [
        | inl on ↦ absurd
            (clash (is_in (sum_of a) shared)
            (are.apart t k s i a (other t k on) (record { inside = inside; within = within; named = same_eq (address p t k) (Some a) same }) one) alone)
        | inr n ↦ rw (same, n) refl
      ]
      | inr n ↦ rw n refl
    ]

    pub none-other : any_with p (Some a) test ≡ false
    none-other = none0 _ (service_count p) (λ t inside. none0 _ (length (endpoints p t)) (λ k within. none_at t k inside within))
