-- After a message, and the closes that follow it, the endpoints stand for the longer record.
use Rattle.std.proofs.Common.{ℕ, Bool, true, false, ◌||◌, ◌&&◌, ◌==◌, not, ◌⊎◌, inl, inr, List, [], ◌∷◌, ◌++◌, ◌≡◌, refl, ap, sym, ◌∙◌, subst, arith, ◌<◌, ◌≤◌, ◌+◌, length, append-nil, map, filter, Option, Some, None, if◌then◌else◌}
use Rattle.std.specs.List.{list_any}
use Rattle.std.proofs.lemmas.Bool.{cases_Bool, or_cases, or_parts, or_left}
use Rattle.std.proofs.lemmas.List.{map-append}
use Rattle.std.proofs.lemmas.List.Elements.{filter-append}
use Rattle.std.proofs.lemmas.List.Folds.{list_any-append}
use Rattle.svc_record.specs.declared.plan.Plan.{Plan}
use Rattle.svc_record.specs.declared.entry.Entry.TheVariants.{Got}
use Rattle.svc_record.specs.declared.action.Action.TheVariants.{Close}
use Rattle.svc_record.specs.declared.event.Event.TheVariants.{Received}
use Rattle.svc_record.specs.Record.{Record, has, tell, EachEntry}
use Rattle.svc_record.specs.Message.{decode}
use Rattle.svc_record.specs.Plans.{service_count, endpoints, address, same_address, is_unclaimed}
use Rattle.svc_record.specs.Descriptors.{Descriptor, words_or_none, descriptors_of, opened_descriptors, live_descriptors, live_numbers_with, has_live, is_opened, is_close, is_doubled, address_of, has_number, brings}
use Rattle.svc_record.specs.Drain.{live_numbers}
use Rattle.svc_base.specs.NumberSets.{ascending, is_in, distinct}
use Rattle.svc_record.specs.Failed.{has_failed, in_use_count}
use Rattle.svc_record.specs.AskRules.{FailsRight, ask_due, ask_known}
use Rattle.svc_record.specs.Closes.{is_gone, is_drained, is_received, is_address_unclaimed, is_address_abandoned, close_once}
use Rattle.svc_record.specs.Fits.{is_new}
use Rattle.svc_record.specs.Offer.{is_held_back}
use Rattle.svc_record.specs.Tail.{numbers_in}
use Rattle.svc_record.proofs.ClosesOnce.{closed_once}
use Rattle.svc_endpoints.specs.declared.states.EndpointStatus.{EndpointStatus}
use Rattle.svc_endpoints.specs.declared.states.EndpointStatus.TheVariants.{Idle, Binding, AddressInUse, Adopting, Holding, AdoptionFailed}
use Rattle.svc_endpoints.specs.declared.table.Open.{Open}
use Rattle.svc_endpoints.specs.EndpointsData.{EndpointsData}
use Rattle.svc_endpoints.specs.EndpointsState.{LoopsStand, StatesKept, StatesStand, StandsAt, EndpointsStand, all_new, numbers_with, numbers_of_table, open_numbers, last_at, failed_at, times_in_use_at, has_fd, fd_of}
use Rattle.svc_endpoints.specs.Effects.{passes, has_open, not_empty, is_abandoned_by, turns_away, opens_of, numbers_out, without_numbers, put_numbers, turned_away, received}
use Rattle.svc_base.proofs.NumberSetLemmas.{any-ascending, distinct-ascending}
use Rattle.svc_base.proofs.Logic.{apart_from, not_in, clash, false_where, neither}
use Rattle.svc_endpoints.proofs.GoneLemmas.{is_turned, is_gone_now, loops-got, loops-closes, loops-table, closed-is, drained-opened}
use Rattle.svc_endpoints.proofs.OfferLemmas.{held-opened}
use Rattle.svc_endpoints.proofs.CloseLemmas.{along-closes, closed-tell, opened-tell, with-tell, numbers-tell, once-tell, left_out}
use Rattle.svc_endpoints.proofs.GrowLemmas.{gone-same, address-same}
use Rattle.svc_endpoints.proofs.RestLemmas.{rest, rest-gone, rest-stays, left-none, with-None, part_in, part-by-number, distinct-part, numbers-without, with-without}
use Rattle.svc_endpoints.proofs.OpenedLemmas.{brings-in, opened-in, live-opened, live-address, doubled-opened, first_address, opened-numbers}
use Rattle.svc_endpoints.proofs.StatesLemmas.{has_open-is}
use Rattle.svc_endpoints.proofs.NamedLemmas.{abandoned-is}
use Rattle.svc_endpoints.proofs.OneLiveLemmas.{one_live-is}
use Rattle.svc_endpoints.proofs.GatherLemmas.{puts-ascending, numbers-puts, with-puts, numbers-opens}
use Rattle.svc_endpoints.proofs.DecodeLemmas.{read-apart}
use Rattle.svc_endpoints.proofs.ReceivedLists.{as_received, words-descriptors, numbers-received, with-received, open-received, none-received, none-listed, first-later, some-received, one-received, out-received, words-one, without-same, new-in, new-apart, new-distinct, new-same}

fd_one : (x : EndpointStatus) → has_fd x ≡ true → length (fd_of x) ≡ 1
fd_one (Adopting fd) h = refl
fd_one (Holding fd) h = refl
fd_one Idle h = absurd (cc)
fd_one Binding h = absurd (cc)
fd_one (AddressInUse at) h = absurd (cc)
fd_one AdoptionFailed h = absurd (cc)

none_before : (xs ys : List ℕ) → length (xs ++ ys) ≤ 1 → length ys ≡ 1 → xs ≡ []
none_before [] ys h e = refl
none_before (x ∷ xs) ys h e = absurd (let g = length_append xs ys in omega (arith, h, e, g))
  where
    length_append : (xs ys : List ℕ) → length (xs ++ ys) ≡ length xs + length ys
    length_append [] ys = omega arith
    length_append (x ∷ xs) ys = let g = length_append xs ys in omega (arith, g)

no_live : (p : Plan) (q : Record) → has_live p q None ≡ false
no_live p q = none_same (live_descriptors p q)
  where
    none_address : (a : Option (List ℕ)) → same_address a None ≡ false
    none_address (Some w) = refl
    none_address None = refl

    none_same : (xs : List Descriptor) → list_any (λ (x : Descriptor). same_address x.address None) xs ≡ false
    none_same [] = refl
    none_same (x ∷ xs) = rw (none_address x.address) (none_same xs)

module _ (p : Plan) (d : EndpointsData) (q : Record) (bytes fds : List ℕ) (fresh : all_new d.came fds ≡ true) (stand : EndpointsStand p d q) where
  abbrev ws : List (List ℕ)
  ws = words_or_none (decode bytes (length fds))

  abbrev os : List Open
  os = opens_of fds ws

  abbrev gone : List ℕ → Bool
  gone a = turns_away p d a

  abbrev ns : List ℕ
  ns = turned_away p d ws fds

  abbrev kept : List Open
  kept = without_numbers ns os

  abbrev q1 : Record
  q1 = Got (Received bytes fds) ∷ q

  abbrev r : Record
  r = tell q1 (map Close ns)

  abbrev e : EndpointsData
  e = received p d ws fds

  in_ns : (g : ℕ) → is_in g ns ≡ is_in g (numbers_out gone os)
  in_ns g = any-ascending (λ n. n == g) (numbers_out gone os)

  numbers_os : numbers_of_table os ≡ fds
  numbers_os = numbers-opens fds ws

  apart_os : distinct (numbers_of_table os) ≡ true
  apart_os = ap distinct numbers_os ∙ new-apart d.came fds fresh

  ns_came : (g : ℕ) → is_in g ns ≡ true → is_in g fds ≡ true
  ns_came g h = ap (is_in g) (sym numbers_os) ∙ part_in (λ (o : Open). passes gone o.address) g os (sym (in_ns g) ∙ h)

  ns_old : (g : ℕ) → is_in g fds ≡ false → is_in g ns ≡ false
  ns_old g h = false_where (is_in g ns) (λ y. clash (is_in g fds) (ns_came g y) h)

  -- what is new didn't come before
  came_is : (g : ℕ) → is_in g d.came ≡ is_in g (numbers_in q)
  came_is g = ap (is_in g) stand.came_are ∙ any-ascending (λ n. n == g) (numbers_in q)

  not_came : (g : ℕ) → is_in g fds ≡ true → is_in g (numbers_in q) ≡ false
  not_came g h = sym (came_is g) ∙ new-in d.came fds g fresh h

  not_opened : (g : ℕ) → is_in g fds ≡ true → is_opened p q g ≡ false
  not_opened g h = opened-in p q g ∙ not_came g h

  not_closed : (g : ℕ) → is_in g fds ≡ true → has (is_close g) q ≡ false
  not_closed g h = stand.states.closed_came g (not_in (has (brings g) q) (brings-in q g ∙ not_came g h))

  opened_now : descriptors_of p (Got (Received bytes fds)) ≡ map as_received os
  opened_now = words-descriptors fds ws

  opened1 : opened_descriptors p q1 ≡ map as_received os ++ opened_descriptors p q
  opened1 = ap (λ w. w ++ opened_descriptors p q) opened_now

  live1 : live_descriptors p q1 ≡ map as_received os ++ live_descriptors p q
  live1 = ap (filter (λ (x : Descriptor). not (has (is_close x.number) q))) opened1
      ∙ filter-append (λ (x : Descriptor). not (has (is_close x.number) q)) (map as_received os) (opened_descriptors p q)
      ∙ ap (λ w. w ++ live_descriptors p q) (open-received q os (λ g there. not_closed g (ap (is_in g) (sym numbers_os) ∙ there)))

  with1 : (a : Option (List ℕ)) → live_numbers_with p q1 a ≡ numbers_with os a ++ live_numbers_with p q a
  with1 a = ap (λ w. map (λ (x : Descriptor). x.number) (filter (λ (x : Descriptor). same_address x.address a) w)) live1
      ∙ ap (map (λ (x : Descriptor). x.number)) (filter-append (λ (x : Descriptor). same_address x.address a) (map as_received os) (live_descriptors p q))
      ∙ map-append (λ (x : Descriptor). x.number) (filter (λ (x : Descriptor). same_address x.address a) (map as_received os))
      (filter (λ (x : Descriptor). same_address x.address a) (live_descriptors p q))
      ∙ ap (λ w. w ++ live_numbers_with p q a) (with-received os a)

  numbers1 : live_numbers p q1 ≡ fds ++ live_numbers p q
  numbers1 = ap (map (λ (x : Descriptor). x.number)) live1 ∙ map-append (λ (x : Descriptor). x.number) (map as_received os) (live_descriptors p q)
      ∙ ap (λ w. w ++ live_numbers p q) (numbers-received os ∙ numbers_os)

  -- a live one isn't among the new
  old_with : (g : ℕ) (a : Option (List ℕ)) → is_in g (live_numbers_with p q a) ≡ true → is_in g ns ≡ false
  old_with g a h = ns_old g (false_where (is_in g fds) (λ y. clash (is_opened p q g) (live-opened p q g a h) (not_opened g y)))

  with_then : (a : Option (List ℕ)) → live_numbers_with p r a ≡ left_out ns (numbers_with os a) ++ live_numbers_with p q a
  with_then a = with-tell p q1 ns a ∙ ap (left_out ns) (with1 a) ∙ filter-append (λ n. not (is_in n ns)) (numbers_with os a) (live_numbers_with p q a)
      ∙ ap (λ w. left_out ns (numbers_with os a) ++ w) (left-none ns (live_numbers_with p q a) (λ g there. old_with g a there))

  kept_is : kept ≡ rest gone os
  kept_is = without-same (numbers_out gone os) ns os in_ns ∙ part-by-number (λ (o : Open). passes gone o.address) os apart_os

  -- no address has two
  open_gone : (w : List ℕ) (x : ℕ) (more : List ℕ) → numbers_with d.table (Some w) ≡ x ∷ more → gone w ≡ true
  open_gone w x more h =
      or_left (has_open d.table (Some w) || is_unclaimed p w) (is_abandoned_by p d.failed w)
      (or_left (has_open d.table (Some w)) (is_unclaimed p w) (ap not_empty h))

  one_of : (w : List ℕ) (xs : List ℕ) → numbers_with d.table (Some w) ≡ xs → length (numbers_with (rest gone os) (Some w) ++ numbers_with d.table (Some w)) ≤ 1
  one_of w (x ∷ more) h = let none = rest-gone gone w (open_gone w x more h) os in let few = stand.kept.one (Some w) in
      subst (λ (v : List ℕ). length (v ++ numbers_with d.table (Some w)) ≤ 1) (sym none) few
  one_of w [] h = subst (λ (v : List ℕ). length (numbers_with (rest gone os) (Some w) ++ v) ≤ 1) (sym h)
      (subst (λ (v : List ℕ). length v ≤ 1) (sym (append-nil (numbers_with (rest gone os) (Some w)))) (few_of (cases_Bool (gone w))))
    where
      few_of : ((gone w ≡ true) ⊎ (gone w ≡ false)) → length (numbers_with (rest gone os) (Some w)) ≤ 1
      few_of (inl y) = subst (λ (v : List ℕ). length v ≤ 1) (sym (rest-gone gone w y os)) (omega arith)
      few_of (inr n) = subst (λ (v : List ℕ). length v ≤ 1) (sym (rest-stays gone w n os)) (words-one fds ws w (read-apart bytes (length fds)))

  one_kept : (a : Option (List ℕ)) → length (numbers_with kept a ++ numbers_with d.table a) ≤ 1
  one_kept (Some w) =
      subst (λ (t : List Open). length (numbers_with t (Some w) ++ numbers_with d.table (Some w)) ≤ 1) (sym kept_is)
      (one_of w (numbers_with d.table (Some w)) refl)
  one_kept None = rw (with-None kept, with-None d.table) (omega arith)

  table_with : (a : Option (List ℕ)) → numbers_with e.table a ≡ numbers_with kept a ++ numbers_with d.table a
  table_with a = with-puts kept d.table one_kept a

  with_is : (a : Option (List ℕ)) → numbers_with e.table a ≡ live_numbers_with p r a
  with_is a = table_with a ∙ ap (λ w. w ++ numbers_with d.table a) (with-without ns os a)
      ∙ ap (λ w. left_out ns (numbers_with os a) ++ w) (stand.states.with_is a) ∙ sym (with_then a)

  new_parts : (g : ℕ) → is_new r g ≡ true → (is_in g fds ≡ false) × (is_new q g ≡ true)
  new_parts g h =
      let now : is_new q1 g ≡ true = along-closes (λ x. is_new x g ≡ true → is_new q1 g ≡ true) (λ x n k. k) q1 ns (λ k. k) h in
      let parts = or_parts (is_in g fds) (has (brings g) q) (apart_from (is_in g fds || has (brings g) q) now) in
      (parts.0, not_in (has (brings g) q) parts.1)

  states : StatesStand p e r
  states = record {
    each = along-closes (λ x. (s i : ℕ) → s < service_count p → i < length (endpoints p s) → StandsAt p (last_at d s i) x s i)
        (λ x n h. h) q1 ns stand.states.each;
    counts = along-closes
        (λ x. (s i : ℕ) → s < service_count p → i < length (endpoints p s) → failed_at d s ≡ false → times_in_use_at d s i ≡ in_use_count p x s i)
        (λ x n h. h) q1 ns stand.states.counts;
    failed_is = along-closes (λ x. (s : ℕ) → s < service_count p → failed_at d s ≡ has_failed p x s) (λ x n h. h) q1 ns stand.states.failed_is;
    with_is = with_is;
    lost = stand.states.lost;
    closed_came =
        λ g new. (let parts = new_parts g new in closed-tell q1 ns g
        ∙ neither (has (is_close g) q) (is_in g ns) (stand.states.closed_came g parts.1) (ns_old g parts.0));
  }

  came_then : numbers_in r ≡ fds ++ numbers_in q
  came_then = along-closes (λ x. numbers_in x ≡ fds ++ numbers_in q) (λ x n h. h) q1 ns refl

  apart_then : distinct (numbers_in r) ≡ true
  apart_then = ap distinct came_then ∙ new-distinct (numbers_in q) fds (sym (new-same d.came (numbers_in q) fds came_is) ∙ fresh) stand.came_apart

  states_kept : StatesKept p e
  states_kept = record {
    asking_free = stand.kept.asking_free;
    turn = stand.kept.turn;
    live = λ early s i free h. (let was = stand.kept.live early s i free h in let a = address p s i in
        let none = none_before (numbers_with kept a) (numbers_with d.table a) (one_kept a) (ap length was ∙ fd_one (last_at d s i) h) in
        table_with a ∙ ap (λ w. w ++ numbers_with d.table a) none ∙ was);
    one = λ a. subst (λ (w : List ℕ). length w ≤ 1) (sym (table_with a)) (one_kept a);
    distinct = λ a b fd h k. sym (live-address p r fd a apart_then (ap (is_in fd) (sym (with_is a)) ∙ h))
        ∙ live-address p r fd b apart_then (ap (is_in fd) (sym (with_is b)) ∙ k);
  }

  -- what is gone of the new
  gone_by : (a : Option (List ℕ)) → ((is_address_unclaimed p a || has_live p q a) || is_address_abandoned p q a) ≡ passes gone a
  gone_by (Some w) = ap (λ b. (is_unclaimed p w || has_live p q (Some w)) || b) (sym (abandoned-is p d q stand.states w))
      ∙ ap (λ b. (is_unclaimed p w || b) || is_abandoned_by p d.failed w) (sym (has_open-is p d q stand.states (Some w)))
      ∙ ap (λ b. b || is_abandoned_by p d.failed w) (or_swap (is_unclaimed p w) (has_open d.table (Some w)))
    where
      or_swap : (a b : Bool) → (a || b) ≡ (b || a)
      or_swap a b = grind arith
  gone_by None = ap (λ b. (false || b) || false) (no_live p q)

  place1 : (fd : ℕ) → address_of p q1 fd ≡ first_address fd (map as_received os ++ opened_descriptors p q)
  place1 fd = ap (first_address fd) opened1

  doubled1 : (fd : ℕ) → is_doubled p q1 fd ≡ (list_any (λ (x : Descriptor). x.number == fd && has_live p q x.address) (map as_received os) || is_doubled p q fd)
  doubled1 fd = ap (λ w. list_any (λ (x : Descriptor). x.number == fd && has_live p q x.address) w || is_doubled p q fd) opened_now

  received1 : (fd : ℕ) → is_received p q1 fd ≡ list_any (λ (x : Descriptor). x.number == fd && x.received) (map as_received os ++ opened_descriptors p q)
  received1 fd = ap (list_any (λ (x : Descriptor). x.number == fd && x.received)) opened1

  in_os : (fd : ℕ) (b : Bool) → is_in fd fds ≡ b → is_in fd (numbers_of_table os) ≡ b
  in_os fd b h = ap (is_in fd) numbers_os ∙ h

  new_gone_now : (fd : ℕ) → is_in fd fds ≡ true → is_gone_now p q1 fd ≡ is_in fd ns
  new_gone_now fd h =
      let a = first_address fd (map as_received os ++ opened_descriptors p q) in
      let here = in_os fd true h in
      let rec : is_received p q1 fd ≡ true = received1 fd ∙ some-received fd os (opened_descriptors p q) here in
      let old : is_doubled p q fd ≡ false = false_where (is_doubled p q fd) (λ y. clash (is_opened p q fd) (doubled-opened p q fd y) (not_opened fd h)) in
      let dou : is_doubled p q1 fd ≡ has_live p q a =
      doubled1 fd ∙ or_first (list_any (λ (x : Descriptor). x.number == fd && has_live p q x.address) (map as_received os)) old
      ∙ one-received (has_live p q) fd os (opened_descriptors p q) apart_os here in
      let aba : is_address_abandoned p q1 (address_of p q1 fd) ≡ is_address_abandoned p q a =
      ap (is_address_abandoned p q1) (place1 fd) ∙ address-same p q q1 (λ t. refl) a in
      let free : is_held_back p q1 fd ≡ false = false_where (is_held_back p q fd) (λ y. clash (is_opened p q fd) (held-opened p q fd y) (not_opened fd h)) in
      unheld (is_turned p q1 fd) (is_address_abandoned p q1 (address_of p q1 fd)) (is_held_back p q1 fd) free
      ∙ ap (λ b. ((b && is_address_unclaimed p (address_of p q1 fd)) || is_doubled p q1 fd) || is_address_abandoned p q1 (address_of p q1 fd)) rec
      ∙ ap (λ b. (is_address_unclaimed p b || is_doubled p q1 fd) || is_address_abandoned p q1 (address_of p q1 fd)) (place1 fd)
      ∙ ap (λ b. (is_address_unclaimed p a || b) || is_address_abandoned p q1 (address_of p q1 fd)) dou
      ∙ ap (λ b. (is_address_unclaimed p a || has_live p q a) || b) aba
      ∙ gone_by a
      ∙ sym (in_ns fd ∙ out-received gone fd os ∙ one-received (passes gone) fd os (opened_descriptors p q) apart_os here)
    where
      unheld : (a b h : Bool) → h ≡ false → (a || (b && not h)) ≡ (a || b)
      unheld a b h e = grind (arith, e)

      or_first : (x : Bool) {y : Bool} → y ≡ false → (x || y) ≡ x
      or_first x k = rw k (plain x)
        where
          plain : (x : Bool) → (x || false) ≡ x
          plain x = grind arith

  new_gone : (fd : ℕ) → is_in fd fds ≡ true → is_gone p q1 fd ≡ is_in fd ns
  new_gone fd h =
      ap (λ b. is_gone_now p q1 fd || b)
      (false_where (is_drained p q fd) (λ y. clash (is_opened p q fd) (drained-opened p q fd stand.asks_due y) (not_opened fd h)))
      ∙ or_none (is_gone_now p q1 fd) ∙ new_gone_now fd h
    where
      or_none : (b : Bool) → (b || false) ≡ b
      or_none b = grind arith

  -- what was opened before is gone as it was
  old_gone : (fd : ℕ) → is_in fd fds ≡ false → is_gone p q1 fd ≡ is_gone p q fd
  old_gone fd h =
      let none = in_os fd false h in
      let place : address_of p q1 fd ≡ address_of p q fd = place1 fd ∙ first-later fd os (opened_descriptors p q) none in
      let rec : is_received p q1 fd ≡ is_received p q fd = received1 fd ∙ none-received (λ (x : Descriptor). x.received) fd os (opened_descriptors p q) none in
      let dou : is_doubled p q1 fd ≡ is_doubled p q fd =
      doubled1 fd ∙ ap (λ b. b || is_doubled p q fd) (none-listed (λ (x : Descriptor). has_live p q x.address) fd os none) in
      gone-same p q q1 (λ t. refl) fd
      (ap (λ b. (b && is_address_unclaimed p (address_of p q1 fd)) || is_doubled p q1 fd) rec
      ∙ ap (λ b. (is_received p q fd && is_address_unclaimed p b) || is_doubled p q1 fd) place
      ∙ ap (λ b. (is_received p q fd && is_address_unclaimed p (address_of p q fd)) || b) dou)
      place refl refl

  once : EachEntry (λ x before. close_once p x before ≡ true) r
  once = once-tell p ns q1 (distinct-ascending (numbers_out gone os) (distinct-part (λ (o : Open). passes gone o.address) os apart_os))
      (λ g there. (
        opened-in p q1 g ∙ list_any-append (λ n. n == g) fds (numbers_in q)
            ∙ or_left (is_in g fds) (is_in g (numbers_in q)) (ns_came g there),
        not_closed g (ns_came g there),
      ))
      (refl, stand.closes_once)

  closed_gone : (fd : ℕ) → is_opened p q1 fd ≡ true → has (is_close fd) r ≡ is_gone p q1 fd
  closed_gone fd came = closed-tell q1 ns fd ∙ elim (cases_Bool (is_in fd fds)) [
    | inl y ↦ ap (λ b. b || is_in fd ns) (not_closed fd y) ∙ sym (new_gone fd y)
    | inr n ↦ ap (λ b. has (is_close fd) q || b) (ns_old fd n) ∙ or_none (has (is_close fd) q)
        ∙ closed-is p q fd stand.closes_once (stand.closes fd (old_opened n)) ∙ sym (old_gone fd n)
  ]
    where
      or_none : (b : Bool) → (b || false) ≡ b
      or_none b = grind arith

      old_opened : is_in fd fds ≡ false → is_opened p q fd ≡ true
      old_opened n =
          opened-in p q fd
          ∙ second (is_in fd fds) (is_in fd (numbers_in q)) (sym (list_any-append (λ m. m == fd) fds (numbers_in q)) ∙ sym (opened-in p q1 fd) ∙ came) n
        where
          second : (a b : Bool) → (a || b) ≡ true → a ≡ false → b ≡ true
          second a b h g = grind (arith, h)

  loops : LoopsStand p e r
  loops = loops-table p d r e.table e.came (loops-closes p d q1 ns (loops-got p d q (Received bytes fds) refl stand.loops))

  numbers_open : open_numbers e ≡ ascending (live_numbers p r)
  numbers_open = numbers-puts kept d.table ∙ ap (λ w. put_numbers w (numbers_of_table d.table)) (numbers-without ns os ∙ ap (left_out ns) numbers_os)
      ∙ ap (put_numbers (left_out ns fds)) stand.open_are ∙ puts-ascending (left_out ns fds) (live_numbers p q)
      ∙ ap ascending (sym (numbers-tell p q1 ns ∙ ap (left_out ns) numbers1 ∙ filter-append (λ n. not (is_in n ns)) fds (live_numbers p q)
      ∙ ap (λ w. left_out ns fds ++ w) (left-none ns (live_numbers p q) (λ g there. live_old g there))))
    where
      live_old : (g : ℕ) → is_in g (live_numbers p q) ≡ true → is_in g ns ≡ false
      live_old g h =
          ns_old g (false_where (is_in g fds)
          (λ y. clash (is_in g (numbers_in q)) (ap (is_in g) (sym (opened-numbers p q)) ∙ live_in (opened_descriptors p q) h) (not_came g y)))
        where
          live_in : (xs : List Descriptor)
              → is_in g (map (λ (x : Descriptor). x.number) (filter (λ (x : Descriptor). not (has (is_close x.number) q)) xs)) ≡ true
              → is_in g (map (λ (x : Descriptor). x.number) xs) ≡ true
          live_in [] k = k
          live_in (x ∷ xs) k = elim (cases_Bool (has (is_close x.number) q)) [
            | inl c ↦ or_later (x.number == g) (live_in xs (rw c at k))
            | inr o ↦ elim (or_cases (x.number == g)
                (is_in g (map (λ (y : Descriptor). y.number) (filter (λ (y : Descriptor). not (has (is_close y.number) q)) xs))) (rw o at k)) [
                  | inl now ↦ or_left (x.number == g) (is_in g (map (λ (y : Descriptor). y.number) xs)) now
                  | inr later ↦ or_later (x.number == g) (live_in xs later)
                ]
          ]
            where
              or_later : (a : Bool) {b : Bool} → b ≡ true → (a || b) ≡ true
              or_later a k = rw k (plain a)
                where
                  plain : (a : Bool) → (a || true) ≡ true
                  plain a = grind arith

  pub stands-received : EndpointsStand p e r
  stands-received = record {
    states = states;
    loops = loops;
    kept = states_kept;
    asks_due = along-closes (EachEntry (λ x before. ask_due p x before ≡ true)) (λ x n h. (refl, h)) q1 ns (refl, stand.asks_due);
    asks_known = along-closes (EachEntry (λ x before. ask_known p x before ≡ true)) (λ x n h. (refl, h)) q1 ns (refl, stand.asks_known);
    closes_once = once;
    fails = along-closes (FailsRight p) (λ x n h. h) q1 ns stand.fails;
    closes = λ fd came. (let before : is_opened p q1 fd ≡ true = ap (list_any (has_number fd)) (sym (opened-tell p q1 ns)) ∙ came in
        closed_once p r fd once
        ∙ ap (λ b. if b then 1 else 0) (closed_gone fd before ∙ sym (along-closes (λ x. is_gone p x fd ≡ is_gone p q1 fd) (λ x n h. h) q1 ns refl)));
    one_live = one_live-is p e r states_kept states;
    open_are = numbers_open;
    came_are = ap (put_numbers fds) stand.came_are ∙ puts-ascending fds (numbers_in q) ∙ ap ascending (sym came_then);
    came_apart = apart_then;
  }
