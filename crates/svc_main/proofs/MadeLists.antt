-- Where an event stands among those of the generator, and what stands before it.
use Rattle.std.proofs.Common.{◌≡◌, ◌⊎◌, ℕ, zero, suc, ◌+◌, ◌*◌, ◌<◌, ◌≤◌, Bool, true, false, ◌||◌, ◌==◌, cond, List, [], ◌∷◌, ◌++◌, refl, sym, ap, ◌∙◌, inl, inr, arith, add-zero, zero-add, add-one, append-nil, append_assoc}
use Rattle.std.specs.Prelude.{count_by}
use Rattle.std.specs.List.{list_any, list_all, flat_map, range_with_len}
use Rattle.std.proofs.lemmas.Bool.{and_parts, or_parts, or_from, or_left, or_right, ne_eqb, eq-eqb, cases_lt, cases_eq}
use Rattle.std.proofs.lemmas.List.Folds.{list_any-append, list_all-append}
use Rattle.std.proofs.lemmas.List.Sums.{sum_by-append}
use Rattle.svc_record.specs.declared.event.Event.{Event}
use Rattle.svc_record.specs.declared.event.Event.TheVariants.{Moment, Ready, Bound, InUse, Arrived, Set, Shaken, Finished, Signal}
use Rattle.svc_record.specs.declared.event.ShutdownSignal.TheVariants.{FastShutdown}
use Rattle.svc_socket.specs.declared.peer.Peer.TheVariants.{Unknown}
use Rattle.svc_record.specs.declared.entry.Entry.TheVariants.{Got}
use Rattle.svc_record.specs.Starts.{is_ready_event}
use Rattle.svc_main.specs.Generator.{is_even, made_moment, made_connection, made_word, made_start, made_connections, made_events_of, made_events_to, made_events}
use Rattle.svc_main.proofs.GeneratorLemmas.{events_more}
use Rattle.svc_main.proofs.MadeRecords.{now_in, now_in-append, is_signal_event}

-- ---- cuts

-- an element stands in the first list, or behind it in the second
pub split : {A : Type 0} (ps zs xs : List A) (e : A) (more : List A) → xs ++ e ∷ more ≡ ps ++ zs
    → ((back : List A) × (ps ≡ xs ++ e ∷ back)) ⊎ ((rest : List A) × (xs ≡ ps ++ rest) × (rest ++ e ∷ more ≡ zs))
split [] zs xs e more h = inr (xs, refl, h)
split (p ∷ ps) zs [] e more h = let same : p ≡ e = cc in inl (ps, ap (λ x. x ∷ ps) same)
split (p ∷ ps) zs (x ∷ xs) e more h =
    let tail : xs ++ e ∷ more ≡ ps ++ zs = cc in
    let head : p ≡ x = cc in
    elim (split ps zs xs e more tail) [
      | inl found ↦ inl (found.0, ap (λ y. y ∷ ps) head ∙ ap (λ ys. x ∷ ys) found.1)
      | inr later ↦ inr (later.0, ap (λ y. y ∷ xs) (sym head) ∙ ap (λ ys. p ∷ ys) later.1, later.2)
    ]

-- an element of blocks that stand behind each other
pub record InBlock {A : Type 0} (f : ℕ → List A) (a m : ℕ) (xs : List A) (e : A) : Type 0 where
  pub place : ℕ
  pub below : place < m
  pub front : List A
  pub back : List A
  pub cut : xs ≡ flat_map f (range_with_len a place) ++ front
  pub block : f (a + place) ≡ front ++ e ∷ back

pub split_flat : {A : Type 0} (f : ℕ → List A) (a m : ℕ) (zs xs : List A) (e : A) (more : List A) → xs ++ e ∷ more ≡ flat_map f (range_with_len a m) ++ zs
    → InBlock f a m xs e ⊎ ((rest : List A) × (xs ≡ flat_map f (range_with_len a m) ++ rest) × (rest ++ e ∷ more ≡ zs))
split_flat f a zero zs xs e more h = inr (xs, refl, h)
split_flat f a (suc m) zs xs e more h =
    elim (split (f a) (flat_map f (range_with_len (a + 1) m) ++ zs) xs e more (h ∙ append_assoc (f a) (flat_map f (range_with_len (a + 1) m)) zs)) [
      | inl found ↦ inl (record { place = 0; below = omega arith; front = xs; back = found.0; cut = refl; block = ap f (add-zero a) ∙ found.1 })
      | inr later ↦
          elim (split_flat f (a + 1) m zs later.0 e more later.2) [
            | inl b ↦
                let at : a + suc b.place ≡ (a + 1) + b.place = omega arith in
                inl (record {
                  place = suc b.place;
                  below = let lt = b.below in omega arith;
                  front = b.front;
                  back = b.back;
                  cut = later.1 ∙ ap (λ ys. f a ++ ys) b.cut ∙ sym (append_assoc (f a) (flat_map f (range_with_len (a + 1) b.place)) b.front);
                  block = ap f at ∙ b.block;
                })
            | inr r ↦ inr (r.0, later.1 ∙ ap (λ ys. f a ++ ys) r.1 ∙ sym (append_assoc (f a) (flat_map f (range_with_len (a + 1) m)) r.0), r.2)
          ]
    ]

-- an element of four, and what stands before it
abbrev pub Four : {A : Type 0} → A → A → A → A → List A → A → Type 0
Four a b c d xs e = ((xs ≡ []) × (e ≡ a)) ⊎ (((xs ≡ a ∷ []) × (e ≡ b)) ⊎ (((xs ≡ a ∷ b ∷ []) × (e ≡ c)) ⊎ ((xs ≡ a ∷ b ∷ c ∷ []) × (e ≡ d))))

none_more : {A : Type 0} (xs : List A) (e : A) (back : List A) → [] ≡ xs ++ e ∷ back → ⊥
none_more [] e back h = absurd cc
none_more (x ∷ xs) e back h = absurd cc

pub four : {A : Type 0} (a b c d e : A) (xs back : List A) → a ∷ b ∷ c ∷ d ∷ [] ≡ xs ++ e ∷ back → Four a b c d xs e
four a b c d e [] back h = inl (refl, cc)
four a b c d e (x ∷ []) back h = let f : x ≡ a = cc in inr (inl (ap (λ y. y ∷ []) f, cc))
four a b c d e (x ∷ y ∷ []) back h = let f : x ≡ a = cc in let g : y ≡ b = cc in inr (inr (inl (ap (λ z. z ∷ y ∷ []) f ∙ ap (λ z. a ∷ z ∷ []) g, cc)))
four a b c d e (x ∷ y ∷ z ∷ []) back h =
    let f : x ≡ a = cc in
    let g : y ≡ b = cc in
    let k : z ≡ c = cc in
    inr (inr (inr (ap (λ w. w ∷ y ∷ z ∷ []) f ∙ ap (λ w. a ∷ w ∷ z ∷ []) g ∙ ap (λ w. a ∷ b ∷ w ∷ []) k, cc)))
four a b c d e (x ∷ y ∷ z ∷ w ∷ xs) back h = absurd (none_more xs e back (let tail : [] ≡ xs ++ e ∷ back = cc in tail))

-- ---- what the generator's events are

-- none that tells a failure, but an address in use, and none of a handover or a fork
abbrev pub is_usual : Event → Bool
is_usual (Moment ms) = true
is_usual (Ready s) = true
is_usual (InUse s i) = true
is_usual (Bound s i fd) = true
is_usual (Arrived s i c peer) = true
is_usual (Set c ok) = ok
is_usual (Shaken c ok) = ok
is_usual (Finished c) = true
is_usual (Signal kind) = true
is_usual _ = false

-- the event is of the service's endpoint, or its word
abbrev pub is_on : ℕ → Event → Bool
is_on k (InUse s i) = s == k
is_on k (Bound s i fd) = s == k
is_on k (Ready s) = s == k
is_on k _ = false

-- the event is of the connection
abbrev pub is_of : ℕ → Event → Bool
is_of c (Arrived s i n peer) = n == c
is_of c (Set n ok) = n == c
is_of c (Shaken n ok) = n == c
is_of c (Finished n) = n == c
is_of c _ = false

-- the address of the service was in use
abbrev pub is_in_use_of : ℕ → Event → Bool
is_in_use_of k (InUse s i) = s == k
is_in_use_of k _ = false

pub word-test : (t : Event → Bool) (b r : Bool) (k ms : ℕ) → t (Moment ms) ≡ r → t (Ready k) ≡ r → t (cond b (Moment ms) (Ready k)) ≡ r
word-test t true r k ms m w = m
word-test t false r k ms m w = w

pub usual-of : (k : ℕ) → list_all is_usual (made_events_of k) ≡ true
usual-of k = rw (word-test is_usual (is_even k) true k (made_moment k) refl refl) refl

pub on-other : (k j : ℕ) → (j ≡ k → ⊥) → list_any (is_on k) (made_events_of j) ≡ false
on-other k j ne = rw (word-test (is_on k) (is_even j) false j (made_moment j) refl (ne_eqb j k ne), ne_eqb j k ne) refl

pub of-other : (c j : ℕ) → 4 * j + 5 ≤ c → list_any (is_of c) (made_events_of j) ≡ false
of-other c j lt =
    rw (
      word-test (is_of c) (is_even j) false j (made_moment j) refl refl,
      ne_eqb (4 * j + 1) c (omega arith),
      ne_eqb ((4 * j + 1) + 1) c (omega arith),
      ne_eqb
          ((4 * j + 1) + 2) c (omega arith),
      ne_eqb ((4 * j + 1) + 3) c (omega arith),
    ) refl

pub in-use-one : (k j : ℕ) → count_by (is_in_use_of k) (made_events_of j) ≡ cond (j == k) 1 0
in-use-one k j = rw (word-test (is_in_use_of k) (is_even j) false j (made_moment j) refl refl) (omega arith)

-- ---- the events of the first services

pub to-more : (k : ℕ) → made_events_to (suc k) ≡ made_events_to k ++ made_events_of k
to-more k = ap made_events_to (sym (add-one k)) ∙ events_more k

pub usual-to : (k : ℕ) → list_all is_usual (made_events_to k) ≡ true
usual-to zero = refl
usual-to (suc k) = ap (list_all is_usual) (to-more k) ∙ list_all-append is_usual (made_events_to k) (made_events_of k) ∙ rw (usual-to k, usual-of k) refl

-- what no earlier service has
pub none-to : (t : Event → Bool) (k : ℕ) → ((j : ℕ) → j < k → list_any t (made_events_of j) ≡ false) → list_any t (made_events_to k) ≡ false
none-to t zero h = refl
none-to t (suc k) h =
    ap (list_any t) (to-more k) ∙ list_any-append t (made_events_to k) (made_events_of k)
    ∙ or_from _ _ (none-to t k (λ j lt. h j (omega arith))) (h k (omega arith))

-- what one of them has
pub some-to : (t : Event → Bool) (k j : ℕ) → j < k → list_any t (made_events_of j) ≡ true → list_any t (made_events_to k) ≡ true
some-to t zero j lt h = absurd (omega arith)
some-to t (suc k) j lt h =
    ap (list_any t) (to-more k) ∙ list_any-append t (made_events_to k) (made_events_of k) ∙ by (cases_lt j k) (some-to t k j)
  where
    by : (j < k) ⊎ (k ≤ j) → (j < k → list_any t (made_events_of j) ≡ true → list_any t (made_events_to k) ≡ true)
        → (list_any t (made_events_to k) || list_any t (made_events_of k)) ≡ true
    by (inl before) later = or_left _ _ (later before h)
    by (inr here) later = or_right _ _ (let same : k ≡ j = omega arith in ap (λ (i : ℕ). list_any t (made_events_of i)) same ∙ h)

pub count-append : {X : Type 0} (p : X → Bool) (xs ys : List X) → count_by p (xs ++ ys) ≡ count_by p xs + count_by p ys
count-append p xs ys = sum_by-append (λ x. cond (p x) 1 0) xs ys

in-use-before : (s k : ℕ) → k ≤ s → count_by (is_in_use_of s) (made_events_to k) ≡ 0
in-use-before s zero le = refl
in-use-before s (suc k) le =
    let none : (k == s) ≡ false = ne_eqb k s (omega arith) in
    let here : count_by (is_in_use_of s) (made_events_of k) ≡ 0 = in-use-one s k ∙ ap (λ (b : Bool). cond b 1 0) none in
    omega (
      arith,
      ap (count_by (is_in_use_of s)) (to-more k),
      count-append (is_in_use_of s) (made_events_to k) (made_events_of k),
      here,
      in-use-before s k
          (omega arith),
    )

at_most : (b : Bool) → cond b 1 0 ≤ 1
at_most true = omega arith
at_most false = omega arith

-- an address is in use at most once
pub in-use-to : (s k : ℕ) → count_by (is_in_use_of s) (made_events_to k) ≤ 1
in-use-to s zero = omega arith
in-use-to s (suc k) = by (cases_eq k s) (in-use-to s k)
  where
    all : count_by (is_in_use_of s) (made_events_to (suc k)) ≡ count_by (is_in_use_of s) (made_events_to k) + count_by (is_in_use_of s) (made_events_of k)
    all = ap (count_by (is_in_use_of s)) (to-more k) ∙ count-append (is_in_use_of s) (made_events_to k) (made_events_of k)

    by : (k ≡ s) ⊎ (k ≡ s → ⊥) → count_by (is_in_use_of s) (made_events_to k) ≤ 1 → count_by (is_in_use_of s) (made_events_to (suc k)) ≤ 1
    by (inl same) h = omega (arith, all, in-use-before s k (omega arith), in-use-one s k, at_most (k == s))
    by (inr other) h =
        let here : count_by (is_in_use_of s) (made_events_of k) ≡ 0 = in-use-one s k ∙ ap (λ (b : Bool). cond b 1 0) (ne_eqb k s other) in
        omega (arith, all, here, h)

-- each that says so was ready
pub ready-of : (j : ℕ) → is_even j ≡ false → list_any (λ e. is_ready_event j (Got e)) (made_events_of j) ≡ true
ready-of j odd = rw (odd, eq-eqb j j refl) refl

pub now-of : (m k : ℕ) → now_in m (made_events_of k) ≡ made_moment k
now-of m k = by (is_even k)
  where
    by : (b : Bool) → now_in (made_moment k) (cond b (Moment (made_moment k)) (Ready k) ∷ made_connections k (4 * k + 1)) ≡ made_moment k
    by true = refl
    by false = refl

pub now-to : (k : ℕ) → now_in 0 (made_events_to k) ≡ 1000 * k
now-to zero = refl
now-to (suc k) = ap (now_in 0) (to-more k) ∙ now_in-append 0 (made_events_to k) (made_events_of k) ∙ now-of (now_in 0 (made_events_to k)) k ∙ omega arith

-- ---- where an event stands

-- among the first four events of service k, behind those of the services before
pub record InStart (n : ℕ) (xs : List Event) (e : Event) : Type 0 where
  pub service : ℕ
  pub below : service < n
  pub front : List Event
  pub cut : xs ≡ made_events_to service ++ front
  pub place : Four (InUse service 0) (Moment (made_moment service)) (Bound service 0 (service + 1)) (made_word service) front e

-- among those of connection c of service k
pub record InConnection (n : ℕ) (xs : List Event) (e : Event) : Type 0 where
  pub service : ℕ
  pub below : service < n
  pub number : ℕ
  pub late : 4 * service + 1 ≤ number
  pub earlier : List Event
  pub fresh : list_any (is_of number) earlier ≡ false
  pub front : List Event
  pub cut : xs ≡ made_events_to service ++ (made_start service ++ (earlier ++ front))
  pub place : Four (Arrived service 0 number Unknown) (Set number true) (Shaken number true) (Finished number) front e

in_connection : (n k c : ℕ) (e : Event) (xs earlier front back : List Event) → k < n → 4 * k + 1 ≤ c → list_any (is_of c) earlier ≡ false
    → xs ≡ made_events_to k ++ (made_start k ++ (earlier ++ front)) → made_connection k c ≡ front ++ e ∷ back
    → InConnection n xs e
in_connection n k c e xs earlier front back lt late fresh cut h = record {
  service = k;
  below = lt;
  number = c;
  late = late;
  earlier = earlier;
  fresh = fresh;
  front = front;
  cut = cut;
  place = four (Arrived k 0 c Unknown) (Set c true) (Shaken c true) (Finished c) e front back h;
}

-- one of the connections, or one of those that follow
next : (n k c : ℕ) (e : Event) (xs earlier rest back zs : List Event) → k < n → 4 * k + 1 ≤ c → list_any (is_of c) earlier ≡ false
    → xs ≡ made_events_to k ++ (made_start k ++ (earlier ++ rest)) → rest ++ e ∷ back ≡ made_connection k c ++ zs
    → InConnection n xs e ⊎ ((r : List Event) × (rest ≡ made_connection k c ++ r) × (r ++ e ∷ back ≡ zs))
next n k c e xs earlier rest back zs lt late fresh cut h =
    elim (split (made_connection k c) zs rest e back h) [
      | inl found ↦ inl (in_connection n k c e xs earlier rest found.0 lt late fresh cut found.1)
      | inr later ↦ inr later
    ]

in_connections : (n k c : ℕ) (e : Event) (xs rest back : List Event) → k < n → c ≡ 4 * k + 1 → xs ≡ made_events_to k ++ (made_start k ++ rest)
    → rest ++ e ∷ back ≡ made_connections k c → InConnection n xs e
in_connections n k c e xs rest back lt is cut h =
    elim (next n k c e xs [] rest back (made_connection k (c + 1) ++ (made_connection k (c + 2) ++ made_connection k (c + 3))) lt (omega arith) refl cut h) [
      | inl found ↦ found
      | inr a ↦
          let cut1 : xs ≡ made_events_to k ++ (made_start k ++ (made_connection k c ++ a.0)) =
          cut ∙ ap (λ (ys : List Event). made_events_to k ++ (made_start k ++ ys)) a.1 in
          elim (next n k (c + 1) e xs (made_connection k c) a.0 back (made_connection k (c + 2) ++ made_connection k (c + 3)) lt (omega arith)
          (rw (ne_eqb c (c + 1) (omega arith)) refl) cut1 a.2) [
            | inl found ↦ found
            | inr b ↦
                let two : List Event = made_connection k c ++ made_connection k (c + 1) in
                let cut2 : xs ≡ made_events_to k ++ (made_start k ++ (two ++ b.0)) =
                cut1 ∙ ap (λ (ys : List Event). made_events_to k ++ (made_start k ++ (made_connection k c ++ ys))) b.1 in
                elim (next n k (c + 2) e xs two b.0 back (made_connection k (c + 3)) lt (omega arith)
                (rw (ne_eqb c (c + 2) (omega arith), ne_eqb (c + 1) (c + 2) (omega arith)) refl) cut2 b.2) [
                  | inl found ↦ found
                  | inr d ↦
                      let three : List Event = made_connection k c ++ (made_connection k (c + 1) ++ made_connection k (c + 2)) in
                      let cut3 : xs ≡ made_events_to k ++ (made_start k ++ (three ++ d.0)) =
                      cut2 ∙ ap (λ (ys : List Event). made_events_to k ++ (made_start k ++ (two ++ ys))) d.1 in
                      in_connection n k (c + 3) e xs three d.0 back lt (omega arith)
                      (rw (ne_eqb c (c + 3) (omega arith), ne_eqb (c + 1) (c + 3) (omega arith), ne_eqb (c + 2) (c + 3) (omega arith)) refl) cut3 (sym d.2)
                ]
          ]
    ]

in_service : (n k : ℕ) (e : Event) (xs front back : List Event) → k < n → xs ≡ made_events_to k ++ front → made_events_of k ≡ front ++ e ∷ back
    → InStart n xs e ⊎ InConnection n xs e
in_service n k e xs front back lt cut h =
    elim (split (made_start k) (made_connections k (4 * k + 1)) front e back (sym h)) [
      | inl found ↦
          inl (record {
            service = k;
            below = lt;
            front = front;
            cut = cut;
            place = four (InUse k 0) (Moment (made_moment k)) (Bound k 0 (k + 1)) (made_word k) e front found.0 found.1;
          })
      | inr later ↦ inr (in_connections n k (4 * k + 1) e xs later.0 back lt refl (cut ∙ ap (λ (ys : List Event). made_events_to k ++ ys) later.1) later.2)
    ]

-- the events before the signal alone
pub record InEnd (n : ℕ) (xs : List Event) (e : Event) : Type 0 where
  pub cut : xs ≡ made_events_to n
  pub is : e ≡ Signal FastShutdown

last_one : (xs : List Event) (e f : Event) (more : List Event) → xs ++ e ∷ more ≡ f ∷ [] → (xs ≡ []) × (e ≡ f)
last_one [] e f more h = (refl, cc)
last_one (x ∷ xs) e f more h = absurd (none_more xs e more (let tail : [] ≡ xs ++ e ∷ more = cc in tail))

-- each event stands in one of these places
pub place-of : (n : ℕ) (xs : List Event) (e : Event) (more : List Event) → xs ++ e ∷ more ≡ made_events n
    → InStart n xs e ⊎ (InConnection n xs e ⊎ InEnd n xs e)
place-of n xs e more h =
    elim (split_flat made_events_of 0 n (Signal FastShutdown ∷ []) xs e more h) [
      | inl b ↦
          elim (in_service n b.place e xs b.front b.back b.below b.cut (ap made_events_of (sym (zero-add b.place)) ∙ b.block)) [
            | inl start ↦ inl start
            | inr connection ↦ inr (inl connection)
          ]
      | inr r ↦
          let last = last_one r.0 e (Signal FastShutdown) more r.2 in
          inr (inr (record { cut = r.1 ∙ ap (λ (ys : List Event). made_events_to n ++ ys) last.0 ∙ append-nil (made_events_to n); is = last.1 }))
    ]

-- what stands before an event is a front of the events before the signal
pub front-of : (n : ℕ) (xs : List Event) (e : Event) (more : List Event) → xs ++ e ∷ more ≡ made_events n
    → (back : List Event) × (made_events_to n ≡ xs ++ back)
front-of n xs e more h =
    elim (split (made_events_to n) (Signal FastShutdown ∷ []) xs e more h) [
      | inl found ↦ (e ∷ found.0, found.1)
      | inr later ↦
          let last = last_one later.0 e (Signal FastShutdown) more later.2 in
          let whole : xs ≡ made_events_to n = later.1 ∙ ap (λ (ys : List Event). made_events_to n ++ ys) last.0 ∙ append-nil (made_events_to n) in
          ([], sym whole ∙ sym (append-nil xs))
    ]

-- none of them is a signal
signal-none : (j : ℕ) → list_any is_signal_event (made_events_of j) ≡ false
signal-none j = rw (word-test is_signal_event (is_even j) false j (made_moment j) refl refl) refl

pub front-unsigned : (n : ℕ) (xs back : List Event) → made_events_to n ≡ xs ++ back → list_any is_signal_event xs ≡ false
front-unsigned n xs back h =
    (or_parts (list_any is_signal_event xs) (list_any is_signal_event back)
    (sym (list_any-append is_signal_event xs back) ∙ ap (list_any is_signal_event) (sym h) ∙ none-to is_signal_event n (λ j lt. signal-none j))).0

-- a front of all events is one of those before the signal, or all
pub front-or-all : (n : ℕ) (xs more : List Event) → made_events n ≡ xs ++ more → ((back : List Event) × (made_events_to n ≡ xs ++ back)) ⊎ (xs ≡ made_events n)
front-or-all n xs [] h = inr (sym (append-nil xs) ∙ sym h)
front-or-all n xs (e ∷ more) h = inl (front-of n xs e more (sym h))

pub all-usual : (n : ℕ) (xs more : List Event) → made_events n ≡ xs ++ more → list_all is_usual xs ≡ true
all-usual n xs more h =
    let whole : list_all is_usual (made_events n) ≡ true = list_all-append is_usual (made_events_to n) (Signal FastShutdown ∷ []) ∙ rw (usual-to n) refl in
    (and_parts (list_all is_usual xs) (list_all is_usual more) (sym (list_all-append is_usual xs more) ∙ ap (list_all is_usual) (sym h) ∙ whole)).0

-- its events are usual, and each address was in use at most once
pub front-usual : (n : ℕ) (xs back : List Event) → made_events_to n ≡ xs ++ back → list_all is_usual xs ≡ true
front-usual n xs back h =
    (and_parts (list_all is_usual xs) (list_all is_usual back) (sym (list_all-append is_usual xs back) ∙ ap (list_all is_usual) (sym h) ∙ usual-to n)).0

pub front-in-use : (n s : ℕ) (xs back : List Event) → made_events_to n ≡ xs ++ back → count_by (is_in_use_of s) xs ≤ 1
front-in-use n s xs back h = omega (arith, in-use-to s n, ap (count_by (is_in_use_of s)) h, count-append (is_in_use_of s) xs back)
