-- The descriptors that go are closed one after the other, in ascending number.
use Rattle.std.proofs.Common.{ℕ, suc, Bool, true, false, not, ◌||◌, ◌&&◌, ◌==◌, inl, inr, List, [], ◌∷◌, ◌++◌, filter, map, ◌≡◌, ◌≢◌, refl, ap, sym, ◌∙◌, subst, arith, ◌<◌, ◌≤◌, ◌+◌, length, nat_le, get_or, drop}
use Rattle.std.specs.List.{list_any, list_all}
use Rattle.std.specs.List.Sorted.{IsNonDecreasing}
use Rattle.std.proofs.lemmas.Bool.{cases_Bool, cases_eq, and_parts, and_from, or_cases, or_parts, or_left, or_right, eq-eqb, ne_eqb, eqb-true, leb-true, le-leb}
use Rattle.std.proofs.lemmas.List.{append-nil, append_assoc, drop_all, drop_more, map-append}
use Rattle.std.proofs.lemmas.List.Sorted.{IsNonDecreasingBy-drop}
use Rattle.svc_base.specs.Blocks.{rises_by, has_key, StandsIn}
use Rattle.svc_base.specs.NumberSets.{is_in, distinct}
use Rattle.svc_base.proofs.Logic.{clash, apart_from}
use Rattle.svc_record.specs.declared.action.Action.{Action}
use Rattle.svc_record.specs.declared.action.Action.TheVariants.{Close}
use Rattle.svc_record.specs.declared.plan.Plan.{Plan}
use Rattle.svc_endpoints.specs.declared.table.Open.{Open}
use Rattle.svc_endpoints.specs.EndpointsData.{EndpointsData}
use Rattle.svc_endpoints.specs.EndpointsState.{IsEndpointsSized, numbers_of_table}
use Rattle.svc_endpoints.specs.Effects.{goes, passes, is_abandoned_by, numbers_like, without_number}
use Rattle.svc_endpoints.specs.Uses.{is_drained_by}
use Rattle.svc_endpoints.specs.Failing.{goes_among, left_among, gone_among}
use Rattle.svc_endpoints.proofs.DrainedLemmas.{filter-live, filter-by}
use Rattle.svc_endpoints.proofs.FoundLemmas.{number}

-- it has this number, and passes the test
abbrev picks : ℕ → (Open → Bool) → Open → Bool
picks x g o = is_in o.fd (x ∷ []) && g o

twice : (f g : Open → Bool) (t : List Open) → filter f (filter g t) ≡ filter (λ o. g o && f o) t
twice f g [] = refl
twice f g (o ∷ t) = elim (cases_Bool (g o)) [
  | inl y ↦ elim (cases_Bool (f o)) [
    | inl z ↦ rw (y, z) (ap (λ (w : List Open). o ∷ w) (twice f g t))
    | inr m ↦ rw (y, m) (twice f g t)
  ]
  | inr n ↦ rw n (twice f g t)
]

-- those that are left, first without one number and then without the others
left_twice : (x : ℕ) (rest : List ℕ) (g : Open → Bool) (t : List Open)
    → filter (λ o. not (is_in o.fd rest && g o)) (filter (λ o. not (picks x g o)) t) ≡ filter (λ o. not (is_in o.fd (x ∷ rest) && g o)) t
left_twice x rest g t = twice (λ o. not (is_in o.fd rest && g o)) (λ o. not (picks x g o)) t
    ∙ filter-by (λ o. not (picks x g o) && not (is_in o.fd rest && g o)) (λ o. not (is_in o.fd (x ∷ rest) && g o)) t
    (λ o. apart (x == o.fd) (is_in o.fd rest) (g o))
  where
    apart : (a b c : Bool) → (not ((a || false) && c) && not (b && c)) ≡ not ((a || b) && c)
    apart a b c = grind arith

-- no later one has a number that is less than the first
none_less : (x n : ℕ) (g : Open → Bool) (t : List Open) → x < n → list_all (λ o. nat_le n (number o)) t ≡ true → filter (picks x g) t ≡ []
none_less x n g [] lt h = refl
none_less x n g (o ∷ t) lt h =
    let parts = and_parts (nat_le n o.fd) (list_all (λ y. nat_le n (number y)) t) h in
    let most = leb-true n o.fd parts.0 in
    rw (ne_eqb x o.fd (λ e. omega arith)) (none_less x n g t lt parts.1)

all_over : (x n : ℕ) (xs : List ℕ) → list_all (λ y. nat_le x y) xs ≡ true → is_in n xs ≡ true → x ≤ n
all_over x n [] h there = absurd (cc)
all_over x n (y ∷ xs) h there =
    let parts = and_parts (nat_le x y) (list_all (λ z. nat_le x z) xs) h in
    elim (or_cases (y == n) (is_in n xs) there) [
      | inl here ↦ (let most = leb-true x y parts.0 in let is = eqb-true y n here in omega (arith, most, is))
      | inr later ↦ all_over x n xs parts.1 later
    ]

-- those that go, first that with the least number and then the others
split : (x : ℕ) (rest : List ℕ) (g : Open → Bool) → list_all (λ y. nat_le x y) rest ≡ true → (t : List Open) → rises_by number t ≡ true
    → filter (λ o. is_in o.fd (x ∷ rest) && g o) t
    ≡ filter (picks x g) t ++ filter (λ o. is_in o.fd rest && g o) (filter (λ o. not (picks x g o)) t)
split x rest g over [] rise = refl
split x rest g over (o ∷ t) rise =
    let parts = and_parts (list_all (λ y. nat_le o.fd (number y)) t) (rises_by number t) rise in
    let ih = split x rest g over t parts.1 in
    elim (cases_Bool (x == o.fd)) [
      | inl here ↦ elim (cases_Bool (g o)) [
        | inl y ↦ rw (here, y) (ap (λ (w : List Open). o ∷ w) ih)
        | inr n ↦ elim (cases_Bool (is_in o.fd rest)) [
          | inl i ↦ rw (here, n, i, n) ih
          | inr m ↦ rw (here, n, m) ih
        ]
      ]
      | inr away ↦ elim (cases_Bool (is_in o.fd rest)) [
        | inr m ↦ rw (away, m) ih
        | inl i ↦ elim (cases_Bool (g o)) [
          | inr n ↦ rw (away, i, n) ih
          | inl y ↦
              let later : List Open = filter (λ z. is_in z.fd rest && g z) (filter (λ z. not (picks x g z)) t) in
              let none : filter (picks x g) t ≡ [] = none_less x o.fd g t (less o.fd (all_over x o.fd rest over i) away) parts.0 in
              rw (away, i, y)
              (ap (λ (w : List Open). o ∷ w) (ih ∙ ap (λ (w : List Open). w ++ later) none) ∙ sym (ap (λ (w : List Open). w ++ (o ∷ later)) none))
        ]
      ]
    ]
  where
    less : (n : ℕ) → x ≤ n → (x == n) ≡ false → x < n
    less n le ne = elim (cases_eq x n) [
      | inl e ↦ absurd (clash (x == n) (eq-eqb x n e) ne)
      | inr far ↦ omega arith
    ]

-- where one with the number passes, it is the only one with the number
has_number : (x : ℕ) (g : Open → Bool) (t : List Open) → list_any (picks x g) t ≡ true → is_in x (numbers_of_table t) ≡ true
has_number x g [] h = h
has_number x g (o ∷ t) h = elim (cases_eq o.fd x) [
  | inl e ↦ or_left (o.fd == x) (is_in x (numbers_of_table t)) (eq-eqb o.fd x e)
  | inr ne ↦ or_right (o.fd == x) (is_in x (numbers_of_table t)) (has_number x g t (rw (ne_eqb x o.fd (λ e. ne (sym e))) at h))
]

away_from : (x n : ℕ) (g : Open → Bool) (t : List Open) → x ≡ n → is_in n (numbers_of_table t) ≡ false
    → (filter (λ o. not (o.fd == x)) t ≡ filter (λ o. not (picks x g o)) t) × (filter (λ o. o.fd == x) t ≡ filter (picks x g) t)
away_from x n g t e none = (
  filter-live (λ o. not (o.fd == x)) (λ o. not (picks x g o)) t (λ o live. rw (left o live, right o live) refl),
  filter-live (λ o. o.fd == x) (picks x g) t (λ o live. rw (left o live, right o live) refl),
)
  where
    other : (o : Open) → is_in o.fd (numbers_of_table t) ≡ true → o.fd ≢ x
    other o live f = clash (is_in n (numbers_of_table t)) (subst (λ m. is_in m (numbers_of_table t) ≡ true) (f ∙ e) live) none

    left : (o : Open) → is_in o.fd (numbers_of_table t) ≡ true → (o.fd == x) ≡ false
    left o live = ne_eqb o.fd x (other o live)

    right : (o : Open) → is_in o.fd (numbers_of_table t) ≡ true → (x == o.fd) ≡ false
    right o live = ne_eqb x o.fd (λ f. other o live (sym f))

only_one : (x : ℕ) (g : Open → Bool) (t : List Open) → distinct (numbers_of_table t) ≡ true → list_any (picks x g) t ≡ true
    → (filter (λ o. not (o.fd == x)) t ≡ filter (λ o. not (picks x g o)) t) × (filter (λ o. o.fd == x) t ≡ filter (picks x g) t)
only_one x g [] apart h = absurd (cc)
only_one x g (o ∷ t) apart h =
    let parts = and_parts (not (is_in o.fd (numbers_of_table t))) (distinct (numbers_of_table t)) apart in
    let none = apart_from (is_in o.fd (numbers_of_table t)) parts.0 in
    elim (cases_eq x o.fd) [
      | inl e ↦ elim (cases_Bool (g o)) [
        | inl y ↦ (let more = away_from x o.fd g t e none in rw (eq-eqb x o.fd e, eq-eqb o.fd x (sym e), y) (more.0, ap (λ (w : List Open). o ∷ w) more.1))
        | inr n ↦ absurd
            (clash (is_in o.fd (numbers_of_table t))
            (subst (λ m. is_in m (numbers_of_table t) ≡ true) e (has_number x g t (rw (eq-eqb x o.fd e, n) at h))) none)
      ]
      | inr ne ↦ (let more = only_one x g t parts.1 (rw (ne_eqb x o.fd ne) at h) in
          rw (ne_eqb x o.fd ne, ne_eqb o.fd x (λ e. ne (sym e))) (ap (λ (w : List Open). o ∷ w) more.0, more.1))
    ]

-- where none passes, all are left
none_picked : (f : Open → Bool) (t : List Open) → list_any f t ≡ false → (t ≡ filter (λ o. not (f o)) t) × ([] ≡ filter f t)
none_picked f [] h = (refl, refl)
none_picked f (o ∷ t) h =
    let parts = or_parts (f o) (list_any f t) h in
    let more = none_picked f t parts.1 in
    rw parts.0 (ap (λ (w : List Open). o ∷ w) more.0, more.1)

module _ (p : Plan) (keep : List ℕ) (d : EndpointsData) where
  -- a close of what has the number and goes, and none where nothing does
  pub one-left : (x : ℕ) → distinct (numbers_of_table d.table) ≡ true → list_any (goes_among p keep d (x ∷ [])) d.table ≡ true
      → without_number x d ≡ left_among p keep (x ∷ []) d
  one-left x apart h = ap (λ (t : List Open). record d { table = t }) (only_one x (goes p keep d) d.table apart h).0

  pub one-gone : (x : ℕ) → distinct (numbers_of_table d.table) ≡ true → list_any (goes_among p keep d (x ∷ [])) d.table ≡ true
      → numbers_like x d.table ≡ gone_among p keep (x ∷ []) d
  one-gone x apart h = ap numbers_of_table (only_one x (goes p keep d) d.table apart h).1

  pub none-left : (x : ℕ) → list_any (goes_among p keep d (x ∷ [])) d.table ≡ false → d ≡ left_among p keep (x ∷ []) d
  none-left x h = ap (λ (t : List Open). record d { table = t }) (none_picked (goes_among p keep d (x ∷ [])) d.table h).0

  pub none-gone : (x : ℕ) → list_any (goes_among p keep d (x ∷ [])) d.table ≡ false → [] ≡ gone_among p keep (x ∷ []) d
  none-gone x h = ap numbers_of_table (none_picked (goes_among p keep d (x ∷ [])) d.table h).1

  -- one more of the numbers
  pub more-left : (x : ℕ) (rest : List ℕ) → left_among p keep rest (left_among p keep (x ∷ []) d) ≡ left_among p keep (x ∷ rest) d
  more-left x rest = ap (λ (t : List Open). record d { table = t }) (left_twice x rest (goes p keep d) d.table)

  pub more-gone : (x : ℕ) (rest : List ℕ) → list_all (λ y. nat_le x y) rest ≡ true → rises_by number d.table ≡ true
      → gone_among p keep (x ∷ rest) d ≡ gone_among p keep (x ∷ []) d ++ gone_among p keep rest (left_among p keep (x ∷ []) d)
  more-gone x rest over rise = ap numbers_of_table (split x rest (goes p keep d) over d.table rise)
      ∙ map-append number (filter (picks x (goes p keep d)) d.table) _

  -- the parts fit the plan still
  pub left-sized : (own : List ℕ) → IsEndpointsSized p d → IsEndpointsSized p (left_among p keep own d)
  left-sized own sized = record {
    services = sized.services;
    failed = sized.failed;
    each = sized.each;
    few = sized.few;
    shared = sized.shared;
    tasks = sized.tasks;
  }

-- of numbers that rise none is below the first
pub first-least : (x : ℕ) (rest : List ℕ) → IsNonDecreasing (x ∷ rest) → list_all (λ y. nat_le x y) rest ≡ true
first-least x rest rising = each rest (λ k lt. rising 0 (suc k) 0 (omega arith) (omega arith))
  where
    each : (ys : List ℕ) → ((k : ℕ) → k < length ys → x ≤ get_or ys k 0) → list_all (λ y. nat_le x y) ys ≡ true
    each [] h = refl
    each (y ∷ ys) h = and_from (nat_le x y) (list_all (λ z. nat_le x z) ys) (le-leb x y (h 0 (omega arith))) (each ys (λ k lt. h (suc k) (omega arith)))

-- an entry with a number that none other has passes, or none does
pub any-there : (fd : ℕ) (g : Open → Bool) (t : List Open) (o : Open) → StandsIn number fd t o → distinct (numbers_of_table t) ≡ true
    → list_any (picks fd g) t ≡ g o
any-there fd g t o s apart = ap (list_any (picks fd g)) s.is ∙ mid s.front (subst (λ (l : List Open). distinct (numbers_of_table l) ≡ true) s.is apart)
  where
    none_later : (ys : List Open) → is_in o.fd (numbers_of_table ys) ≡ false → list_any (picks fd g) ys ≡ false
    none_later ys h = elim (cases_Bool (list_any (picks fd g) ys)) [
      | inl y ↦ absurd (clash (is_in o.fd (numbers_of_table ys)) (subst (λ m. is_in m (numbers_of_table ys) ≡ true) (sym s.has) (has_number fd g ys y)) h)
      | inr n ↦ n
    ]

    or_none : (b : Bool) → (b || false) ≡ b
    or_none b = grind arith

    there : (front : List Open) → is_in o.fd (numbers_of_table (front ++ o ∷ s.back)) ≡ true
    there [] = or_left (o.fd == o.fd) (is_in o.fd (numbers_of_table s.back)) (eq-eqb o.fd o.fd refl)
    there (x ∷ front) = or_right (x.fd == o.fd) (is_in o.fd (numbers_of_table (front ++ o ∷ s.back))) (there front)

    mid : (front : List Open) → distinct (numbers_of_table (front ++ o ∷ s.back)) ≡ true → list_any (picks fd g) (front ++ o ∷ s.back) ≡ g o
    mid [] h =
        let parts = and_parts (not (is_in o.fd (numbers_of_table s.back))) (distinct (numbers_of_table s.back)) h in
        rw (eq-eqb fd o.fd (sym s.has), none_later s.back (apart_from (is_in o.fd (numbers_of_table s.back)) parts.0)) (or_none (g o))
    mid (x ∷ front) h =
        let parts = and_parts (not (is_in x.fd (numbers_of_table (front ++ o ∷ s.back)))) (distinct (numbers_of_table (front ++ o ∷ s.back))) h in
        let off : (fd == x.fd) ≡ false = ne_eqb fd x.fd
        (λ e. clash (is_in x.fd (numbers_of_table (front ++ o ∷ s.back)))
        (subst (λ m. is_in m (numbers_of_table (front ++ o ∷ s.back)) ≡ true) (s.has ∙ e) (there front))
        (apart_from (is_in x.fd (numbers_of_table (front ++ o ∷ s.back))) parts.0)) in
        rw off (mid front parts.1)

pub none-there : (fd : ℕ) (g : Open → Bool) (t : List Open) → has_key number fd t ≡ false → list_any (picks fd g) t ≡ false
none-there fd g [] h = refl
none-there fd g (o ∷ t) h =
    let parts = or_parts (o.fd == fd) (has_key number fd t) h in
    let off : (fd == o.fd) ≡ false = ne_eqb fd o.fd (λ e. clash (o.fd == fd) (eq-eqb o.fd fd (sym e)) parts.0) in
    rw off (none-there fd g t parts.1)

-- what is left, and what is told, as the numbers from one on are gone through
module _ (p : Plan) (keep own : List ℕ) (rising : IsNonDecreasing own) (i : ℕ) (d mid new : EndpointsData) where
  abbrev here : ℕ
  here = get_or own i 0

  over_rest : i < length own → list_all (λ y. nat_le here y) (drop (i + 1) own) ≡ true
  over_rest lt = first-least here (drop (i + 1) own)
      (subst (λ xs. IsNonDecreasing xs) (drop_more own i 0 lt) (IsNonDecreasingBy-drop (λ n. n) i own rising))

  pub closes-next-left : i < length own → left_among p keep (drop i own) mid ≡ left_among p keep own d → new ≡ left_among p keep (here ∷ []) mid
      → left_among p keep (drop (i + 1) own) new ≡ left_among p keep own d
  closes-next-left lt was next = ap (left_among p keep (drop (i + 1) own)) next ∙ more-left p keep mid here (drop (i + 1) own)
      ∙ ap (λ xs. left_among p keep xs mid) (sym (drop_more own i 0 lt)) ∙ was

  pub closes-next-told : (before after told : List Action) → i < length own → rises_by number mid.table ≡ true
      → before ++ map Close (gone_among p keep (drop i own) mid) ≡ told → after ≡ before ++ map Close (gone_among p keep (here ∷ []) mid)
      → new ≡ left_among p keep (here ∷ []) mid → after ++ map Close (gone_among p keep (drop (i + 1) own) new) ≡ told
  closes-next-told before after told lt rise was next left =
      let one = gone_among p keep (here ∷ []) mid in
      let others = gone_among p keep (drop (i + 1) own) (left_among p keep (here ∷ []) mid) in
      ap (λ (m : EndpointsData). after ++ map Close (gone_among p keep (drop (i + 1) own) m)) left
      ∙ ap (λ l. l ++ map Close others) next ∙ append_assoc before (map Close one) (map Close others)
      ∙ ap (λ l. before ++ l)
      (sym (map-append Close one others)
      ∙ ap (map Close)
      (sym (more-gone p keep mid here (drop (i + 1) own) (over_rest lt) rise)
      ∙ ap (λ xs. gone_among p keep xs mid) (sym (drop_more own i 0 lt))))
      ∙ was

  -- after the last
  none_among : (t : List Open) → t ≡ filter (λ o. not (goes_among p keep mid [] o)) t
  none_among [] = refl
  none_among (o ∷ t) = ap (λ (w : List Open). o ∷ w) (none_among t)

  none_gone : (t : List Open) → filter (goes_among p keep mid []) t ≡ []
  none_gone [] = refl
  none_gone (o ∷ t) = none_gone t

  pub closes-end-left : length own ≤ i → left_among p keep (drop i own) mid ≡ left_among p keep own d → mid ≡ left_among p keep own d
  closes-end-left le was = ap (λ (t : List Open). record mid { table = t }) (none_among mid.table)
      ∙ ap (λ xs. left_among p keep xs mid) (sym (drop_all i own le)) ∙ was

  pub closes-end-told : (before told : List Action) → length own ≤ i → before ++ map Close (gone_among p keep (drop i own) mid) ≡ told → before ≡ told
  closes-end-told before told le was = sym (append-nil before)
      ∙ ap (λ (t : List Open). before ++ map Close (numbers_of_table t)) (sym (none_gone mid.table))
      ∙ ap (λ xs. before ++ map Close (gone_among p keep xs mid)) (sym (drop_all i own le)) ∙ was

-- what stands in the table is live
pub stands-live : (fd : ℕ) (t : List Open) (o : Open) → StandsIn number fd t o → is_in fd (numbers_of_table t) ≡ true
stands-live fd t o s = ap (λ (l : List Open). is_in fd (numbers_of_table l)) s.is ∙ there s.front
  where
    there : (front : List Open) → is_in fd (numbers_of_table (front ++ o ∷ s.back)) ≡ true
    there [] = or_left (o.fd == fd) (is_in fd (numbers_of_table s.back)) (eq-eqb o.fd fd s.has)
    there (x ∷ front) = or_right (x.fd == fd) (is_in fd (numbers_of_table (front ++ o ∷ s.back))) (there front)

-- whether one goes that has a number that none other has
pub goes-is : (p : Plan) (keep : List ℕ) (d : EndpointsData) (fd : ℕ) (o : Open) → StandsIn number fd d.table o → distinct (numbers_of_table d.table) ≡ true
    → (left drained : Bool) → left ≡ passes (is_abandoned_by p d.failed) o.address
    → (is_in fd (numbers_of_table d.table) ≡ true → drained ≡ is_drained_by p d fd)
    → ((left && not (is_in fd keep)) || drained) ≡ list_any (goes_among p keep d (fd ∷ [])) d.table
goes-is p keep d fd o s apart left drained l by =
    ap (λ b. (b && not (is_in fd keep)) || drained) l
    ∙ ap (λ b. (passes (is_abandoned_by p d.failed) o.address && not (is_in fd keep)) || b) (by (stands-live fd d.table o s))
    ∙ ap (λ n. (passes (is_abandoned_by p d.failed) o.address && not (is_in n keep)) || is_drained_by p d n) (sym s.has)
    ∙ sym (any-there fd (goes p keep d) d.table o s apart)
