-- The services and events of the generator are those of a script that a server can be made of.
use Rattle.std.proofs.Common.{◌≡◌, ℕ, zero, suc, ◌+◌, ◌-◌, ◌*◌, ◌<◌, ◌≤◌, Bool, true, false, ◌||◌, ◌==◌, ltb, cond, List, [], ◌∷◌, ◌++◌, length, map, get_or, codes, All, Option, Some, None, unwrap_or, OnOk, Ok, Err, refl, sym, ap, subst, ◌∙◌, inl, inr, arith, add-zero, zero-add, add-one, append-nil, append_assoc}
use Rattle.std.specs.Prelude.{Result}
use Rattle.std.specs.List.{range_with_len, flat_map, list_any}
use Rattle.std.specs.Option.{option_and_then}
use Rattle.std.specs.Fmt.{decimal}
use Rattle.std.proofs.lemmas.Bool.{and_parts, and_from, or_cases, ltb-true, eqb-true, eq-eqb, ne_eqb, lt-ltb, le-leb, cases_lt, both_ways}
use Rattle.std.proofs.lemmas.Fmt.{length-decimal-le}
use Rattle.std.proofs.lemmas.List.{length-append, map-append}
use Rattle.std.proofs.lemmas.List.Concat.{flat_map-append}
use Rattle.std.proofs.lemmas.List.FromFn.{map-range_with_len_more, length-map-range_with_len, get_or-map-range_with_len}
use Rattle.std.proofs.lemmas.Option.{slice_get-get_or}
use Rattle.svc_graph.specs.Paths.{IsChain}
use Rattle.svc_graph.specs.declared.plan.Kind.TheVariants.{Plain, Notifying}
use Rattle.svc_record.specs.declared.entry.Entry.TheVariants.{Got}
use Rattle.svc_record.specs.declared.event.Event.{Event}
use Rattle.svc_record.specs.declared.event.Event.TheVariants as events
use Rattle.svc_record.specs.declared.event.ShutdownSignal.TheVariants.{FastShutdown}
use Rattle.svc_record.specs.declared.item.Item.{Item}
use Rattle.svc_record.specs.declared.item.Item.TheVariants as items
use Rattle.svc_record.specs.Descriptors.{numbers_of}
use Rattle.svc_text.specs.declared.service.EndpointLine.{EndpointLine}
use Rattle.svc_text.specs.declared.service.ServiceLine.{ServiceLine}
use Rattle.svc_text.specs.Accepted.{after_at, IsAccepted, AreAccepted, BringsFew}
use Rattle.svc_text.specs.Dependencies.{edges_up_to, RefusesNone}
use Rattle.svc_text.specs.ServiceLines.{boots, is_address}
use Rattle.svc_main.specs.Generator.{is_even, made_after, made_port, made_service, made_services, made_connection, made_word, made_start, made_connections, made_events_of, made_events_to, made_events}

-- ---- one more of each

range_push : (a k : ℕ) → range_with_len a (suc k) ≡ range_with_len a k ++ (a + k) ∷ []
range_push a zero = ap (λ (x : ℕ). x ∷ []) (sym (add-zero a))
range_push a (suc k) =
    let e : (a + 1) + k ≡ a + suc k = omega arith in
    ap (λ (xs : List ℕ). a ∷ xs) (range_push (a + 1) k ∙ ap (λ (x : ℕ). range_with_len (a + 1) k ++ x ∷ []) e)

range_more : (k : ℕ) → range_with_len 0 (k + 1) ≡ range_with_len 0 k ++ k ∷ []
range_more k = ap (range_with_len 0) (add-one k) ∙ range_push 0 k ∙ ap (λ (x : ℕ). range_with_len 0 k ++ x ∷ []) (zero-add k)

pub services_more : (k : ℕ) → made_services (k + 1) ≡ made_services k ++ made_service k ∷ []
services_more k = map-range_with_len_more made_service 0 k k (zero-add k)

-- a list with one more service
pub services_push : (k : ℕ) (xs ys : List ServiceLine) (x : ServiceLine) → xs ≡ made_services k → x ≡ made_service k → ys ≡ xs ++ x ∷ []
    → ys ≡ made_services (k + 1)
services_push k xs ys x before is pushed =
    pushed ∙ ap (λ (zs : List ServiceLine). zs ++ x ∷ []) before ∙ ap (λ (y : ServiceLine). made_services k ++ y ∷ []) is ∙ sym (services_more k)

pub events_more : (k : ℕ) → made_events_to (k + 1) ≡ made_events_to k ++ made_events_of k
events_more k =
    ap (flat_map made_events_of) (range_more k)
    ∙ flat_map-append made_events_of (range_with_len 0 k) (k ∷ [])
    ∙ ap (λ (es : List Event). made_events_to k ++ es) (append-nil (made_events_of k))

-- a list with the events of one more service
pub events_push : (k : ℕ) (xs ys : List Item) → xs ≡ map items.Event (made_events_to k) → ys ≡ xs ++ map items.Event (made_events_of k)
    → ys ≡ map items.Event (made_events_to (k + 1))
events_push k xs ys before pushed =
    pushed ∙ ap (λ (zs : List Item). zs ++ map items.Event (made_events_of k)) before ∙ sym (map-append items.Event (made_events_to k) (made_events_of k))
    ∙ ap (map items.Event) (sym (events_more k))

-- and with the signal
pub events_end : (n k : ℕ) (xs ys : List Item) → k ≡ n → xs ≡ map items.Event (made_events_to k) → ys ≡ xs ++ items.Event (events.Signal FastShutdown) ∷ []
    → ys ≡ map items.Event (made_events n)
events_end n k xs ys all first pushed =
    let before : xs ≡ map items.Event (made_events_to n) = first ∙ ap (λ (m : ℕ). map items.Event (made_events_to m)) all in
    pushed ∙ ap (λ (zs : List Item). zs ++ items.Event (events.Signal FastShutdown) ∷ []) before
    ∙ sym (map-append items.Event (made_events_to n) (events.Signal FastShutdown ∷ []))

-- two pieces behind each other, and four
pub push_two : {X A E : Type 0} (xs ys zs p q : List X) (r : Result A E) → ys ≡ xs ++ p → OnOk r (zs ≡ ys ++ q) → OnOk r (zs ≡ xs ++ (p ++ q))
push_two xs ys zs p q (Err e) h k = tt
push_two xs ys zs p q (Ok a) h k = k ∙ ap (λ ws. ws ++ q) h ∙ append_assoc xs p q

pub push_four : {X A E : Type 0} (xs a b c d p q s t : List X) (r : Result A E) → a ≡ xs ++ p → b ≡ a ++ q → c ≡ b ++ s → OnOk r (d ≡ c ++ t)
    → OnOk r (d ≡ xs ++ (p ++ (q ++ (s ++ t))))
push_four xs a b c d p q s t r h i j k = push_two xs a d p (q ++ (s ++ t)) r h (push_two a b d q (s ++ t) r i (push_two b c d s t r j k))

-- ---- no event brings many descriptors

record AreSmall (es : List Event) : Type 0 where
  each : All BringsFew (map items.Event es)

small_none : AreSmall []
small_none = record { each = λ k d lt. absurd (omega arith) }

small_more : (e : Event) (es : List Event) → length (numbers_of (Got e)) ≤ 32 → AreSmall es → AreSmall (e ∷ es)
small_more e es h more = record { each = all }
  where
    all : All BringsFew (map items.Event (e ∷ es))
    all zero d lt = h
    all (suc k) d lt = more.each k d (omega arith)

small_append : (xs ys : List Event) → AreSmall xs → AreSmall ys → AreSmall (xs ++ ys)
small_append [] ys h k = k
small_append (x ∷ xs) ys h k =
    small_more x (xs ++ ys) (h.each 0 (items.Event x) (omega arith)) (small_append xs ys (record { each = λ i d lt. h.each (suc i) d (omega arith) }) k)

small_connection : (k c : ℕ) → AreSmall (made_connection k c)
small_connection k c = small_more _ _ (omega arith) (small_more _ _ (omega arith) (small_more _ _ (omega arith) (small_more _ _ (omega arith) small_none)))

small_word : (b : Bool) (k ms : ℕ) → length (numbers_of (Got (cond b (events.Moment ms) (events.Ready k)))) ≤ 32
small_word true k ms = omega arith
small_word false k ms = omega arith

small_start : (k : ℕ) → AreSmall (made_start k)
small_start k =
    small_more _ _ (omega arith)
    (small_more _ _ (omega arith) (small_more _ _ (omega arith) (small_more (made_word k) [] (small_word (is_even k) k _) small_none)))

small_of : (k : ℕ) → AreSmall (made_events_of k)
small_of k =
    small_append (made_start k) (made_connections k (4 * k + 1)) (small_start k)
    (small_append _ _ (small_connection k _) (small_append _ _ (small_connection k _) (small_append _ _ (small_connection k _) (small_connection k _))))

small_flat : (ks : List ℕ) → AreSmall (flat_map made_events_of ks)
small_flat [] = small_none
small_flat (k ∷ ks) = small_append (made_events_of k) (flat_map made_events_of ks) (small_of k) (small_flat ks)

pub events_few : (n : ℕ) → All BringsFew (map items.Event (made_events n))
events_few n =
    (small_append (made_events_to n) (events.Signal FastShutdown ∷ []) (small_flat (range_with_len 0 n)) (small_more _ _ (omega arith) small_none)).each

-- ---- the services are accepted

boots_not : (b : Bool) → boots (cond b Plain Notifying) ≡ false
boots_not true = refl
boots_not false = refl

good_port : (p : ℕ) → p < 100000 → is_address (codes "127.0.0.1:" ++ decimal p) ≡ true
good_port p lt =
    let short : length (decimal p) ≤ 5 = length-decimal-le 5 p (omega arith) (omega arith) (omega arith) in
    let count = length-append (codes "127.0.0.1:") (decimal p) in
    let some : 0 < length (codes "127.0.0.1:" ++ decimal p) = omega (arith, count) in
    let few : length (codes "127.0.0.1:" ++ decimal p) ≤ 4096 = omega (arith, count, short) in
    and_from _ _ (lt-ltb 0 _ some) (le-leb _ 4096 few)

accepted_one : (k : ℕ) → k < 1024 → IsAccepted (made_service k)
accepted_one k lt = record {
  boots_alone = λ b. absurd (both_ways _ (boots_not (is_even k)) b);
  few_endpoints = omega arith;
  addresses = one;
  claims = λ i d none. absurd (omega arith);
}
  where
    one : All (λ (e : EndpointLine). is_address e.address ≡ true) (made_service k).endpoints
    one zero d below = good_port (made_port k) (omega arith)
    one (suc i) d below = absurd (omega arith)

pub services_length : (n : ℕ) → length (made_services n) ≡ n
services_length n = length-map-range_with_len made_service 0 n

pub services_at : (n k : ℕ) (d : ServiceLine) → k < n → get_or (made_services n) k d ≡ made_service k
services_at n k d lt = get_or-map-range_with_len made_service 0 n k k d lt (zero-add k)

pub services_accepted : (n : ℕ) → n ≤ 1024 → AreAccepted (made_services n)
services_accepted n few = record {
  few = omega (arith, services_length n);
  each = λ k d lt. subst IsAccepted (sym (services_at n k d (omega (arith, services_length n)))) (accepted_one k (omega (arith, services_length n)));
}

-- ---- each depends on the one before it

after_is : (n a : ℕ) → a < n → after_at (made_services n) a ≡ unwrap_or (made_after a) []
after_is n a lt =
    ap (λ (o : Option ServiceLine). unwrap_or (option_and_then (λ (s : ServiceLine). s.after) o) [])
    (slice_get-get_or (made_services n) a (made_service a) (omega (arith, services_length n)) ∙ ap Some (services_at n a (made_service a) lt))

made_after_none : (a : ℕ) → a ≤ 0 → made_after a ≡ None
made_after_none a le = rw (eq-eqb a 0 (omega arith)) refl

made_after_some : (a : ℕ) → 0 < a → made_after a ≡ Some ((a - 1) ∷ [])
made_after_some a lt = rw (ne_eqb a 0 (omega arith)) refl

-- a listed dependency is the service before
after_before : (a b : ℕ) → list_any (λ x. x == b) (unwrap_or (made_after a) []) ≡ true → b + 1 ≡ a
after_before a b h =
    elim (cases_lt 0 a) [
      | inl some ↦
          let listed : ((a - 1 == b) || false) ≡ true =
          ap (λ (o : Option (List ℕ)). list_any (λ x. x == b) (unwrap_or o [])) (sym (made_after_some a some)) ∙ h in
          elim (or_cases (a - 1 == b) false listed) [
            | inl same ↦ let e : a - 1 ≡ b = eqb-true (a - 1) b same in omega arith
            | inr never ↦ absurd (both_ways false refl never)
          ]
      | inr none ↦ absurd (both_ways false refl (ap (λ (o : Option (List ℕ)). list_any (λ x. x == b) (unwrap_or o [])) (sym (made_after_none a none)) ∙ h))
    ]

one_below : (n m : ℕ) → m < n → All (λ b. b < n) (m ∷ [])
one_below n m lt zero d below = lt
one_below n m lt (suc k) d below = absurd (omega arith)

none_below : (n : ℕ) → All (λ b. b < n) []
none_below n k d below = absurd (omega arith)

known_after : (n a : ℕ) → a < n → All (λ b. b < n) (unwrap_or (made_after a) [])
known_after n a lt =
    elim (cases_lt 0 a) [
      | inl some ↦ subst (λ (o : Option (List ℕ)). All (λ b. b < n) (unwrap_or o [])) (sym (made_after_some a some)) (one_below n (a - 1) (omega arith))
      | inr none ↦ subst (λ (o : Option (List ℕ)). All (λ b. b < n) (unwrap_or o [])) (sym (made_after_none a none)) (none_below n)
    ]

pub edge_before_one : (n m a b : ℕ) → m ≡ n → edges_up_to (made_services n) m a b ≡ true → b + 1 ≡ a
edge_before_one n m a b count h =
    let p = and_parts (ltb a m) _ h in
    let lt : a < m = ltb-true a m p.0 in
    after_before a b (ap (list_any (λ x. x == b)) (sym (after_is n a (omega arith))) ∙ p.1)

chain_before : (n m a : ℕ) (via : List ℕ) (b : ℕ) → m ≡ n → IsChain (edges_up_to (made_services n) m) a via b → b < a
chain_before n m a [] b count c = let one : b + 1 ≡ a = edge_before_one n m a b count c in omega arith
chain_before n m a (x ∷ via) b count c =
    let first : x + 1 ≡ a = edge_before_one n m a x count c.0 in let rest : b < x = chain_before n m x via b count c.1 in omega arith

pub services_sound : (n : ℕ) → RefusesNone (made_services n)
services_sound n = record {
  known = λ a lt.
      let count : length (made_services n) ≡ n = services_length n in
      subst (λ (m : ℕ). All (λ b. b < m) (after_at (made_services n) a)) (sym count)
      (subst (All (λ b. b < n)) (sym (after_is n a (omega arith))) (known_after n a (omega arith)));
  acyclic = λ a path. let less : a < a = chain_before n (length (made_services n)) a path.0 a (services_length n) path.1 in omega arith;
}
