-- Counts of endpoints: what a change at one of them makes of the count, and what a count says.
use Rattle.std.proofs.Common.{ℕ, zero, suc, Bool, true, false, not, ◌&&◌, ◌==◌, inl, inr, List, [], ◌∷◌, ◌≡◌, ◌≢◌, refl, ap, sym, ◌∙◌, subst, arith, ◌<◌, ◌≤◌, ◌+◌, ◌*◌, ◌-◌, length, map, nat_lt, nat_le, Option, None}
use Rattle.std.proofs.lemmas.Bool.{cases_Bool, cases_eq, cases_lt, and_parts, and_from, or_cases, or_left, or_right, eq-eqb, eqb-true, lt-ltb, ltb-true, le-leb}
use Rattle.svc_base.proofs.Logic.{bool_same}
use Rattle.svc_base.specs.NumberSets.{is_in}
use Rattle.svc_record.specs.declared.plan.Plan.{Plan}
use Rattle.svc_record.specs.Plans.{service_count, endpoints}
use Rattle.svc_endpoints.specs.declared.states.EndpointStatus.{EndpointStatus}
use Rattle.svc_endpoints.specs.declared.states.EndpointStatus.TheVariants.{Idle, Binding, AddressInUse, Adopting, Holding, AdoptionFailed}
use Rattle.svc_endpoints.specs.declared.uses.Share.{Share}
use Rattle.svc_endpoints.specs.declared.uses.UseCount.{UseCount}
use Rattle.svc_endpoints.specs.Uses.{has_held, uses, any_of, any_endpoint}
use Rattle.svc_endpoints.specs.Counts.{share_of, has_hold, has_use, one, raised, lowered, counted_numbers, are_few, is_unused, is_let_go, count_to, count_all, is_counted, are_counted}
use Rattle.svc_endpoints.proofs.RangeLemmas.{at0, any-get}

-- the same tests count the same
pub count-same : (f g : ℕ → Bool) (n : ℕ) → ((k : ℕ) → k < n → g k ≡ f k) → count_to g n ≡ count_to f n
count-same f g zero h = refl
count-same f g (suc n) h =
    ap (λ b. one b + count_to g n) (h n (omega arith)) ∙ ap (λ (c : ℕ). one (f n) + c) (count-same f g n (λ k lt. h k (omega arith)))

-- a change at one place
pub count-one : (f g : ℕ → Bool) (n i : ℕ) → i < n → ((k : ℕ) → k ≢ i → g k ≡ f k) → count_to g n + one (f i) ≡ count_to f n + one (g i)
count-one f g zero i lt h = absurd (omega arith)
count-one f g (suc n) i lt h = elim (cases_eq n i) [
  | inl e ↦ (let same : count_to g n ≡ count_to f n = count-same f g n (λ k below. h k (λ x. omega arith)) in
      let a : one (f n) ≡ one (f i) = ap (λ k. one (f k)) e in
      let b : one (g n) ≡ one (g i) = ap (λ k. one (g k)) e in
      joined (one (f n)) (one (g n)) (one (f i)) (one (g i)) (count_to f n) (count_to g n) same a b)
  | inr ne ↦ further (one (f n)) (one (g n)) (one (f i)) (one (g i)) (count_to f n) (count_to g n) (ap one (h n ne)) (count-one f g n i (omega arith) h)
]
  where
    joined : (fn gn fi gi cf cg : ℕ) → cg ≡ cf → fn ≡ fi → gn ≡ gi → (gn + cg) + fi ≡ (fn + cf) + gi
    joined fn gn fi gi cf cg same a b = omega arith

    further : (fn gn fi gi cf cg : ℕ) → gn ≡ fn → cg + fi ≡ cf + gi → (gn + cg) + fi ≡ (fn + cf) + gi
    further fn gn fi gi cf cg same a = omega arith

pub count-least : (f : ℕ → Bool) (n i : ℕ) → i < n → one (f i) ≤ count_to f n
count-least f zero i lt = absurd (omega arith)
count-least f (suc n) i lt = elim (cases_eq n i) [
  | inl e ↦ (let a : one (f n) ≡ one (f i) = ap (λ k. one (f k)) e in here (one (f n)) (one (f i)) (count_to f n) a)
  | inr ne ↦ more (one (f n)) (one (f i)) (count_to f n) (count-least f n i (omega arith))
]
  where
    here : (fn fi c : ℕ) → fn ≡ fi → fi ≤ fn + c
    here fn fi c e = omega arith

    more : (fn fi c : ℕ) → fi ≤ c → fi ≤ fn + c
    more fn fi c le = omega arith

one-most : (b : Bool) → one b ≤ 1
one-most true = omega arith
one-most false = omega arith

pub count-most : (f : ℕ → Bool) (n : ℕ) → count_to f n ≤ n
count-most f zero = omega arith
count-most f (suc n) = next (one (f n)) (count_to f n) n (one-most (f n)) (count-most f n)
  where
    next : (o c n : ℕ) → o ≤ 1 → c ≤ n → o + c ≤ suc n
    next o c n a b = omega arith

pub count-found : (f : ℕ → Bool) (n : ℕ) → 0 < count_to f n → (k : ℕ) × (k < n) × (f k ≡ true)
count-found f zero h = absurd (omega arith)
count-found f (suc n) h = elim (cases_Bool (f n)) [
  | inl y ↦ (n, omega arith, y)
  | inr m ↦ (let r = count-found f n (rest (one (f n)) (count_to f n) h (ap one m)) in (r.0, omega (arith, r.1), r.2))
]
  where
    rest : (o c : ℕ) → 0 < o + c → o ≡ 0 → 0 < c
    rest o c h e = omega arith

-- the same over the endpoints of services
module _ (size : ℕ → ℕ) where
  pub all-same : (f g : ℕ → ℕ → Bool) (n : ℕ) → ((s i : ℕ) → s < n → i < size s → g s i ≡ f s i) → count_all size g n ≡ count_all size f n
  all-same f g zero h = refl
  all-same f g (suc n) h =
      ap (λ (c : ℕ). c + count_all size g n) (count-same (f n) (g n) (size n) (λ i lt. h n i (omega arith) lt))
      ∙ ap (λ (c : ℕ). count_to (f n) (size n) + c) (all-same f g n (λ s i lt within. h s i (omega arith) within))

  pub all-one : (f g : ℕ → ℕ → Bool) (n s i : ℕ) → s < n → i < size s → ((t k : ℕ) → ((t ≡ s) → (k ≡ i) → ⊥) → g t k ≡ f t k)
      → count_all size g n + one (f s i) ≡ count_all size f n + one (g s i)
  all-one f g zero s i inside within h = absurd (omega arith)
  all-one f g (suc n) s i inside within h = elim (cases_eq n s) [
    | inl e ↦ (let same : count_all size g n ≡ count_all size f n = all-same f g n (λ t k lt in_row. h t k (λ x y. omega arith)) in
        let row : count_to (g s) (size s) + one (f s i) ≡ count_to (f s) (size s) + one (g s i) =
        count-one (f s) (g s) (size s) i within (λ k ne. h s k (λ x y. ne y)) in
        let a : count_to (f n) (size n) ≡ count_to (f s) (size s) = ap (λ t. count_to (f t) (size t)) e in
        let b : count_to (g n) (size n) ≡ count_to (g s) (size s) = ap (λ t. count_to (g t) (size t)) e in
        here (count_to (f n) (size n)) (count_to (g n) (size n)) (count_to (f s) (size s)) (count_to (g s) (size s)) (one (f s i)) (one (g s i))
        (count_all size f n) (count_all size g n) a b row same)
    | inr ne ↦ more (count_to (f n) (size n)) (count_to (g n) (size n)) (one (f s i)) (one (g s i)) (count_all size f n) (count_all size g n)
        (count-same (f n) (g n) (size n) (λ k lt. h n k (λ x y. ne x))) (all-one f g n s i (omega arith) within h)
  ]
    where
      here : (fn gn fs gs fi gi cf cg : ℕ) → fn ≡ fs → gn ≡ gs → gs + fi ≡ fs + gi → cg ≡ cf → (gn + cg) + fi ≡ (fn + cf) + gi
      here fn gn fs gs fi gi cf cg a b row same = omega arith

      more : (fn gn fi gi cf cg : ℕ) → gn ≡ fn → cg + fi ≡ cf + gi → (gn + cg) + fi ≡ (fn + cf) + gi
      more fn gn fi gi cf cg same a = omega arith

  pub all-least : (f : ℕ → ℕ → Bool) (n s i : ℕ) → s < n → i < size s → one (f s i) ≤ count_all size f n
  all-least f zero s i inside within = absurd (omega arith)
  all-least f (suc n) s i inside within = elim (cases_eq n s) [
    | inl e ↦ (let a : count_to (f n) (size n) ≡ count_to (f s) (size s) = ap (λ t. count_to (f t) (size t)) e in
        here (count_to (f n) (size n)) (count_to (f s) (size s)) (one (f s i)) (count_all size f n) a (count-least (f s) (size s) i within))
    | inr ne ↦ more (count_to (f n) (size n)) (one (f s i)) (count_all size f n) (all-least f n s i (omega arith) within)
  ]
    where
      here : (fn fs o c : ℕ) → fn ≡ fs → o ≤ fs → o ≤ fn + c
      here fn fs o c e le = omega arith

      more : (fn o c : ℕ) → o ≤ c → o ≤ fn + c
      more fn o c le = omega arith

  pub all-most : (f : ℕ → ℕ → Bool) (n : ℕ) → ((s : ℕ) → size s ≤ 64) → count_all size f n ≤ 64 * n
  all-most f zero few = omega arith
  all-most f (suc n) few = next (count_to (f n) (size n)) (count_all size f n) (size n) n (count-most (f n) (size n)) (few n) (all-most f n few)
    where
      next : (c d m n : ℕ) → c ≤ m → m ≤ 64 → d ≤ 64 * n → c + d ≤ 64 * suc n
      next c d m n a b e = omega arith

  pub all-found : (f : ℕ → ℕ → Bool) (n : ℕ) → 0 < count_all size f n → (s i : ℕ) × (s < n) × (i < size s) × (f s i ≡ true)
  all-found f zero h = absurd (omega arith)
  all-found f (suc n) h = elim (cases_lt 0 (count_to (f n) (size n))) [
    | inl some ↦ (let r = count-found (f n) (size n) some in (n, r.0, omega arith, r.1, r.2))
    | inr none ↦ (let r = all-found f n (rest (count_to (f n) (size n)) (count_all size f n) h none) in (r.0, r.1, omega (arith, r.2), r.3, r.4))
  ]
    where
      rest : (c d : ℕ) → 0 < c + d → c ≤ 0 → 0 < d
      rest c d a b = omega arith

-- some endpoint passes the test where their count is above 0
pub any-counted : (p : Plan) (size : ℕ → ℕ) (n : ℕ) (test : ℕ → ℕ → Bool) → n ≡ service_count p → ((s : ℕ) → s < service_count p
    → size s ≡ length (endpoints p s))
    → any_endpoint p test ≡ nat_lt 0 (count_all size test n)
any-counted p size n test same sizes = bool_same (any_endpoint p test) (nat_lt 0 (count_all size test n)) counts found
  where
    counts : any_endpoint p test ≡ true → nat_lt 0 (count_all size test n) ≡ true
    counts h =
        let r = any-get (any_of p test) 0 (service_count p) h in
        let k = any-get (test r.0) 0 (length (endpoints p r.0)) r.3 in
        let inside : r.0 < service_count p = omega (arith, r.2) in
        let fits = sizes r.0 inside in
        let least : one (test r.0 k.0) ≤ count_all size test n = all-least size test n r.0 k.0 (omega (arith, same, inside)) (omega (arith, fits, k.2)) in
        let here : 1 ≤ count_all size test n = subst (λ b. one b ≤ count_all size test n) k.3 least in
        lt-ltb 0 (count_all size test n) (omega (arith, here))

    found : nat_lt 0 (count_all size test n) ≡ true → any_endpoint p test ≡ true
    found h =
        let r = all-found size test n (ltb-true 0 (count_all size test n) h) in
        let inside : r.0 < service_count p = omega (arith, same, r.2) in
        let fits = sizes r.0 inside in
        at0 (any_of p test) (service_count p) r.0 inside (at0 (test r.0) (length (endpoints p r.0)) r.1 (omega (arith, fits, r.3)) r.4)

-- what an endpoint has, by its state
pub hold-is : (fd : ℕ) (f g : Bool) (x : EndpointStatus) → has_hold fd (share_of f g x) ≡ (not f && has_held fd x)
hold-is fd f g (Holding n) = refl
hold-is fd true g (Adopting n) = refl
hold-is fd false g (Adopting n) = refl
hold-is fd true g Idle = refl
hold-is fd false g Idle = refl
hold-is fd true g Binding = refl
hold-is fd false g Binding = refl
hold-is fd true g (AddressInUse at) = refl
hold-is fd false g (AddressInUse at) = refl
hold-is fd true g AdoptionFailed = refl
hold-is fd false g AdoptionFailed = refl

pub use-is : (fd : ℕ) (f g : Bool) (x : EndpointStatus) → has_use fd (share_of f g x) ≡ uses fd f g x
use-is fd f g (Holding n) = refl
use-is fd f g (Adopting n) = refl
use-is fd f g Idle = refl
use-is fd f g Binding = refl
use-is fd f g (AddressInUse at) = refl
use-is fd f g AdoptionFailed = refl

-- a change of what one endpoint has changes the counts
module _ (size : ℕ → ℕ) (n : ℕ) (shares next : ℕ → ℕ → Option Share) where
  pub counted-as : (counts : List UseCount) → ((t k : ℕ) → t < n → k < size t → next t k ≡ shares t k) → are_counted size n shares counts ≡ true
      → are_counted size n next counts ≡ true
  counted-as [] same h = refl
  counted-as (u ∷ more) same h =
      let parts = and_parts (is_counted size n shares u) (are_counted size n shares more) h in
      let holds : count_all size (λ t k. has_hold u.fd (next t k)) n ≡ count_all size (λ t k. has_hold u.fd (shares t k)) n =
      all-same size (λ t k. has_hold u.fd (shares t k)) (λ t k. has_hold u.fd (next t k)) n (λ t k lt within. ap (has_hold u.fd) (same t k lt within)) in
      let has : count_all size (λ t k. has_use u.fd (next t k)) n ≡ count_all size (λ t k. has_use u.fd (shares t k)) n =
      all-same size (λ t k. has_use u.fd (shares t k)) (λ t k. has_use u.fd (next t k)) n (λ t k lt within. ap (has_use u.fd) (same t k lt within)) in
      and_from (is_counted size n next u) (are_counted size n next more)
      (ap (λ (c : ℕ). u.holders == c && u.users == count_all size (λ t k. has_use u.fd (next t k)) n) holds
      ∙ ap (λ (c : ℕ). u.holders == count_all size (λ t k. has_hold u.fd (shares t k)) n && u.users == c) has ∙ parts.0)
      (counted-as more same parts.1)

  module _ (s i : ℕ) (inside : s < n) (within : i < size s) (others : (t k : ℕ) → ((t ≡ s) → (k ≡ i) → ⊥) → next t k ≡ shares t k) where
    counted_next : (u : UseCount) → is_counted size n shares u ≡ true → is_counted size n next (raised (next s i) (lowered (shares s i) u)) ≡ true
    counted_next u h =
        let parts = and_parts (u.holders == count_all size (λ t k. has_hold u.fd (shares t k)) n)
        (u.users == count_all size (λ t k. has_use u.fd (shares t k)) n) h in
        and_from ((u.holders - one (has_hold u.fd (shares s i))) + one (has_hold u.fd (next s i)) == count_all size (λ t k. has_hold u.fd (next t k)) n)
        ((u.users - one (has_use u.fd (shares s i))) + one (has_use u.fd (next s i)) == count_all size (λ t k. has_use u.fd (next t k)) n)
        (moved (has_hold u.fd) u.holders (eqb-true u.holders (count_all size (λ t k. has_hold u.fd (shares t k)) n) parts.0))
        (moved (has_use u.fd) u.users (eqb-true u.users (count_all size (λ t k. has_use u.fd (shares t k)) n) parts.1))
      where
        plain : (c o w a b : ℕ) → c ≡ o → w + a ≡ o + b → a ≤ o → (c - a) + b ≡ w
        plain c o w a b e f le = omega arith

        moved : (test : Option Share → Bool) (c : ℕ) → c ≡ count_all size (λ t k. test (shares t k)) n
            → ((c - one (test (shares s i))) + one (test (next s i)) == count_all size (λ t k. test (next t k)) n) ≡ true
        moved test c e = eq-eqb ((c - one (test (shares s i))) + one (test (next s i))) (count_all size (λ t k. test (next t k)) n)
            (plain c (count_all size (λ t k. test (shares t k)) n) (count_all size (λ t k. test (next t k)) n) (one (test (shares s i))) (one (test
            (next s i))) e
            (all-one size (λ t k. test (shares t k)) (λ t k. test (next t k)) n s i inside within (λ t k ne. ap test (others t k ne)))
            (all-least size (λ t k. test (shares t k)) n s i inside within))

    pub counted-next : (counts : List UseCount) → are_counted size n shares counts ≡ true
        → are_counted size n next (map (raised (next s i)) (map (lowered (shares s i)) counts)) ≡ true
    counted-next [] h = refl
    counted-next (u ∷ more) h =
        let parts = and_parts (is_counted size n shares u) (are_counted size n shares more) h in
        and_from (is_counted size n next (raised (next s i) (lowered (shares s i) u)))
        (are_counted size n next (map (raised (next s i)) (map (lowered (shares s i)) more))) (counted_next u parts.0) (counted-next more parts.1)

-- the counts are small
pub counted-few : (size : ℕ → ℕ) (n : ℕ) (shares : ℕ → ℕ → Option Share) (counts : List UseCount) → ((s : ℕ) → size s ≤ 64) → n ≤ 1024
    → are_counted size n shares counts ≡ true → are_few counts ≡ true
counted-few size n shares [] few small h = refl
counted-few size n shares (u ∷ more) few small h =
    let parts = and_parts (is_counted size n shares u) (are_counted size n shares more) h in
    let both = and_parts (u.holders == count_all size (λ t k. has_hold u.fd (shares t k)) n)
    (u.users == count_all size (λ t k. has_use u.fd (shares t k)) n) parts.0 in
    and_from (nat_le u.holders 65536 && nat_le u.users 65536) (are_few more)
    (and_from (nat_le u.holders 65536) (nat_le u.users 65536)
    (below u.holders (count_all size (λ t k. has_hold u.fd (shares t k)) n)
    (eqb-true u.holders (count_all size (λ t k. has_hold u.fd (shares t k)) n) both.0) (all-most size (λ t k. has_hold u.fd (shares t k)) n few))
    (below u.users (count_all size (λ t k. has_use u.fd (shares t k)) n)
    (eqb-true u.users (count_all size (λ t k. has_use u.fd (shares t k)) n) both.1) (all-most size (λ t k. has_use u.fd (shares t k)) n few)))
    (counted-few size n shares more few small parts.1)
  where
    below : (c o : ℕ) → c ≡ o → o ≤ 64 * n → nat_le c 65536 ≡ true
    below c o e le = le-leb c 65536 (omega arith)

-- where nothing changes, the counts stay
pub none-changed : (counts : List UseCount) → map (raised None) (map (lowered None) counts) ≡ counts
none-changed [] = refl
none-changed (u ∷ more) =
    ap (λ (k : ℕ). record { fd = u.fd; holders = k; users = (u.users - 0) + 0 } ∷ map (raised None) (map (lowered None) more)) (plain u.holders)
    ∙ ap (λ (k : ℕ). record { fd = u.fd; holders = u.holders; users = k } ∷ map (raised None) (map (lowered None) more)) (plain u.users)
    ∙ ap (λ (w : List UseCount). u ∷ w) (none-changed more)
  where
    plain : (k : ℕ) → (k - 0) + 0 ≡ k
    plain k = omega arith

-- the descriptors stay, whatever is counted of them
pub changed-numbers : (was is : Option Share) (counts : List UseCount)
    → counted_numbers (map (raised is) (map (lowered was) counts)) ≡ counted_numbers counts
changed-numbers was is [] = refl
changed-numbers was is (u ∷ more) = ap (λ w. u.fd ∷ w) (changed-numbers was is more)

-- a counted descriptor is let go where endpoints hold it and none uses it
module _ (size : ℕ → ℕ) (n : ℕ) (shares : ℕ → ℕ → Option Share) (fd : ℕ) where
  abbrev holders : ℕ
  holders = count_all size (λ t k. has_hold fd (shares t k)) n

  abbrev users : ℕ
  users = count_all size (λ t k. has_use fd (shares t k)) n

  unused_is : (u : UseCount) → u.fd ≡ fd → is_counted size n shares u ≡ true → is_unused u ≡ (nat_lt 0 holders && users == 0)
  unused_is u e h =
      let g : is_counted size n shares (record { fd = fd; holders = u.holders; users = u.users }) ≡ true =
      subst (λ (x : ℕ). is_counted size n shares (record { fd = x; holders = u.holders; users = u.users }) ≡ true) e h in
      let parts = and_parts (u.holders == holders) (u.users == users) g in
      ap (λ (c : ℕ). nat_lt 0 c && u.users == 0) (eqb-true u.holders holders parts.0)
      ∙ ap (λ (c : ℕ). nat_lt 0 holders && c == 0) (eqb-true u.users users parts.1)

  let_go_means : (counts : List UseCount) → are_counted size n shares counts ≡ true → is_let_go fd counts ≡ true → (nat_lt 0 holders && users == 0) ≡ true
  let_go_means [] h g = absurd (cc)
  let_go_means (u ∷ more) h g =
      let parts = and_parts (is_counted size n shares u) (are_counted size n shares more) h in
      elim (or_cases (u.fd == fd && is_unused u) (is_let_go fd more) g) [
        | inl here ↦ (let both = and_parts (u.fd == fd) (is_unused u) here in sym (unused_is u (eqb-true u.fd fd both.0) parts.0) ∙ both.1)
        | inr later ↦ let_go_means more parts.1 later
      ]

  let_go_from : (counts : List UseCount) → are_counted size n shares counts ≡ true → is_in fd (counted_numbers counts) ≡ true
      → (nat_lt 0 holders && users == 0) ≡ true → is_let_go fd counts ≡ true
  let_go_from [] h there g = absurd (cc)
  let_go_from (u ∷ more) h there g =
      let parts = and_parts (is_counted size n shares u) (are_counted size n shares more) h in
      elim (or_cases (u.fd == fd) (is_in fd (counted_numbers more)) there) [
        | inl here ↦ or_left (u.fd == fd && is_unused u) (is_let_go fd more)
            (and_from (u.fd == fd) (is_unused u) here (unused_is u (eqb-true u.fd fd here) parts.0 ∙ g))
        | inr later ↦ or_right (u.fd == fd && is_unused u) (is_let_go fd more) (let_go_from more parts.1 later g)
      ]

  pub let-go-is : (counts : List UseCount) → are_counted size n shares counts ≡ true → is_in fd (counted_numbers counts) ≡ true
      → is_let_go fd counts ≡ (nat_lt 0 holders && users == 0)
  let-go-is counts h there = bool_same (is_let_go fd counts) (nat_lt 0 holders && users == 0) (let_go_means counts h) (let_go_from counts h there)
