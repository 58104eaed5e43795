-- What is told after a record that is right alone would stand where it isn't due, action by action: asks, closes and connections.
use Rattle.std.proofs.Common.{ℕ, Bool, true, false, zero, suc, not, ◌&&◌, ◌||◌, ◌==◌, ◌+◌, ◌≤◌, ◌<◌, List, [], ◌∷◌, Option, Some, filter, map, length, nat_le, inl, inr, ◌≡◌, ◌∙◌, refl, sym, ap, subst, arith}
use Rattle.std.specs.List.{list_any, list_all, range_with_len}
use Rattle.std.proofs.lemmas.Bool.{cases_Bool, cases_eq, and_parts, and_from, or_cases, or_left, or_right, or_parts, eqb-true, ltb-true, leb-true, false≢true}
use Rattle.std.proofs.lemmas.Option.{slice_get_cases}
use Rattle.std.proofs.lemmas.Slice.Eq.{bytes_eq-Decides}
use Rattle.svc_base.proofs.Logic.{clash, apart_from}
use Rattle.svc_record.specs.declared.plan.Plan.{Plan}
use Rattle.svc_record.specs.declared.action.Action.{Action}
use Rattle.svc_record.specs.declared.action.Action.TheVariants.{Bind, Adopt, Judged, Phase, Broadcast}
use Rattle.svc_record.specs.declared.entry.Entry.{Entry}
use Rattle.svc_record.specs.declared.entry.Entry.TheVariants.{Got, Told}
use Rattle.svc_record.specs.declared.event.Event.TheVariants.{Arrived, Received, NoSenderYet, ReceiveFailed}
use Rattle.svc_record.specs.Record.{Record, has, times, tell, once_if, EachEntry}
use Rattle.svc_record.specs.Plans.{service_count, services, endpoints, endpoint_numbers, is_endpoint, address, same_address, any_with}
use Rattle.svc_record.specs.Descriptors.{Descriptor, live_descriptors, has_live}
use Rattle.svc_record.specs.Asks.{is_bind_open, is_adopt, is_ask_open, is_adopt_open, last_adopt, is_settings, is_handshake}
use Rattle.svc_record.specs.AskRules.{ask_due, has_turn}
use Rattle.svc_record.specs.Endpoints.{is_held, is_at_work, is_busy, rests, waits_at, waits_from, waits, first_missing, EndpointsRightLate}
use Rattle.svc_record.specs.Boot.{try_rests, may_try}
use Rattle.svc_record.specs.Connections.{Arrival, arrivals, is_arrival, is_judged, is_judged_as, is_refuse, is_serve, is_drop, is_set_as, is_shaken_as, is_known, connection_right}
use Rattle.svc_record.specs.Drain.{is_boot_phase, told_marks}
use Rattle.svc_record.specs.Closes.{is_adopt_of_open}
use Rattle.svc_laws.proofs.ToldLemmas.{kept, entries_before, has_same}
use Rattle.svc_laws.proofs.StartLemmas.{any_in_range, any_service, any_grows}
use Rattle.svc_laws.proofs.CalmLemmas.{once_same}

-- endpoints

-- the first endpoint of the range that isn't held
missing_at : (p : Plan) (q : Record) (s a n i : ℕ) → a ≤ i → i < a + n → ((k : ℕ) → a ≤ k → k < i → is_held p q s k ≡ true) → is_held p q s i ≡ false
    → first_missing p q s (range_with_len a n) ≡ Some i
missing_at p q s a zero i low high h m = absurd (omega arith)
missing_at p q s a (suc n) i low high h m = elim (cases_eq a i) [
  | inl e ↦ (let here : is_held p q s a ≡ false = subst (λ k. is_held p q s k ≡ false) (sym e) m in rw here (ap Some e))
  | inr ne ↦ rw (h a (omega arith) (omega arith)) (missing_at p q s (a + 1) n i (omega arith) (omega arith) (λ k l g. h k (omega arith) g) m)
]

held_below : (p : Plan) (q : Record) (s a n k : ℕ) → list_all (is_held p q s) (range_with_len a n) ≡ true → a ≤ k → k < a + n → is_held p q s k ≡ true
held_below p q s a zero k all low high = absurd (omega arith)
held_below p q s a (suc n) k all low high = let parts = and_parts (is_held p q s a) (list_all (is_held p q s) (range_with_len (a + 1) n)) all in
    elim (cases_eq a k) [
      | inl e ↦ subst (λ i. is_held p q s i ≡ true) e parts.0
      | inr ne ↦ held_below p q s (a + 1) n k parts.1 (omega arith) (omega arith)
    ]

pick_wait : (work held wait : Bool) → work ≡ true → held ≡ false → (not work || (held || wait)) ≡ true → wait ≡ true
pick_wait work held wait y n h = rw (y, n) at h

-- an endpoint that has its turn waits
turn_waits : (p : Plan) (b : Record) (s i : ℕ) → EndpointsRightLate p b → s < service_count p → has_turn p b s i ≡ true → waits_at p b s i ≡ true
turn_waits p b s i late low turn =
    let parts = and_parts _ _ turn in
    let first = and_parts _ _ parts.0 in
    let mine = and_parts (is_endpoint p s i) (is_at_work p b s) first.0 in
    let unheld = apart_from (is_held p b s i) (and_parts _ _ parts.1).0 in
    let inside = ltb-true i (length (endpoints p s)) mine.0 in
    let wait : waits p b s i ≡ true = pick_wait (is_at_work p b s) (is_held p b s i) (waits p b s i) mine.1 unheld (late s i low inside) in
    let missing = missing_at p b s 0 (length (endpoints p s)) i (omega arith) (omega arith)
    (λ k l g. held_below p b s 0 i k first.1 (omega arith) (omega arith)) unheld in
    let there : waits_from p b s i (Some i) ≡ true = subst (λ o. waits_from p b s i o ≡ true) missing wait in
    (and_parts (nat_le i i) (waits_at p b s i) there).1

own_address : (p : Plan) (s i : ℕ) → i < length (endpoints p s) → same_address (address p s i) (address p s i) ≡ true
own_address p s i inside = elim ((slice_get_cases (endpoints p s) i).1) [
  | inl some ↦ rw some.2 ((bytes_eq-Decides some.0.address some.0.address).1 refl)
  | inr none ↦ absurd (omega (arith, none.0, inside))
]

-- one endpoint with the address that passes
any_with_at : (p : Plan) (a : Option (List ℕ)) (test : ℕ → ℕ → Bool) (s i : ℕ) → s < service_count p → i < length (endpoints p s)
    → same_address (address p s i) a ≡ true → test s i ≡ true
    → any_with p a test ≡ true
any_with_at p a test s i low inside same y = any_service p (λ t. list_any (λ k. same_address (address p t k) a && test t k) (endpoint_numbers p t)) s low
    (any_in_range (λ k. same_address (address p s k) a && test s k) (length (endpoints p s)) 0 i (omega arith) (omega arith) (and_from _ _ same y))

any_with_grows : (p : Plan) (a : Option (List ℕ)) (f g : ℕ → ℕ → Bool) → ((s i : ℕ) → f s i ≡ true → g s i ≡ true) → any_with p a f ≡ true
    → any_with p a g ≡ true
any_with_grows p a f g grow h = any_grows (λ s. list_any (λ i. same_address (address p s i) a && f s i) (endpoint_numbers p s))
    (λ s. list_any (λ i. same_address (address p s i) a && g s i) (endpoint_numbers p s))
    (services p) (λ s. any_grows (λ i. same_address (address p s i) a && f s i) (λ i. same_address (address p s i) a && g s i) (endpoint_numbers p s)
    (λ i x. let parts = and_parts (same_address (address p s i) a) (f s i) x in and_from _ _ parts.0 (grow s i parts.1))) h

-- an endpoint that is bound in its turn doesn't wait
pub bind_waits_not : (p : Plan) (b : Record) (s i : ℕ) → EndpointsRightLate p b → s < service_count p → ask_due p (Told (Bind s i)) b ≡ true → ⊥
bind_waits_not p b s i late low due =
    let parts = and_parts _ _ due in
    let first = and_parts (has_turn p b s i) _ parts.0 in
    let inside = ltb-true i (length (endpoints p s)) (and_parts _ _ (and_parts _ _ (and_parts _ _ first.0).0).0).0 in
    let free = apart_from (any_with p (address p s i) (is_busy p b)) parts.1 in
    elim (or_cases (is_busy p b s i) _ (turn_waits p b s i late low first.0)) [
      | inl mine ↦ clash (any_with p (address p s i) (is_busy p b))
          (any_with_at p (address p s i) (is_busy p b) s i low inside (own_address p s i inside) mine) free
      | inr other ↦ clash (any_with p (address p s i) (is_busy p b))
          (any_with_grows p (address p s i) (λ t k. is_at_work p b t && is_busy p b t k) (is_busy p b)
          (λ t k h. (and_parts (is_at_work p b t) (is_busy p b t k) h).1) (and_parts _ _ other).1) free
    ]

some_live : (a : Option (List ℕ)) (fd : ℕ) (ds : List Descriptor)
    → list_any (λ n. n == fd) (map (λ (d : Descriptor). d.number) (filter (λ (d : Descriptor). same_address d.address a) ds)) ≡ true
    → list_any (λ (d : Descriptor). same_address d.address a) ds ≡ true
some_live a fd [] h = h
some_live a fd (d ∷ more) h = elim (cases_Bool (same_address d.address a)) [
  | inl here ↦ or_left _ _ here
  | inr past ↦ or_right _ _ (some_live a fd more (rw past at h))
]

turn_unasked : (p : Plan) (q : Record) (t j : ℕ) → has_turn p q t j ≡ true → is_ask_open q t j ≡ false
turn_unasked p q t j h = apart_from (is_ask_open q t j) (and_parts _ _ (and_parts _ _ h).1).1

-- nor one that is offered a descriptor in its turn
pub adopt_waits_not : (p : Plan) (b : Record) (s i fd : ℕ) → EndpointsRightLate p b → s < service_count p → ask_due p (Told (Adopt s i fd)) b ≡ true → ⊥
adopt_waits_not p b s i fd late low due =
    let parts = and_parts (has_turn p b s i) _ due in
    let live : has_live p b (address p s i) ≡ true = some_live (address p s i) fd (live_descriptors p b) parts.1 in
    let unasked = turn_unasked p b s i parts.0 in
    elim (or_cases (is_busy p b s i) _ (turn_waits p b s i late low parts.0)) [
      | inl mine ↦ elim (or_cases (is_ask_open b s i) (rests p b s i) mine) [
        | inl open_ ↦ clash (is_ask_open b s i) open_ unasked
        | inr rest ↦ clash (has_live p b (address p s i)) live (apart_from (has_live p b (address p s i)) (and_parts _ _ rest).1)
      ]
      | inr other ↦ clash (has_live p b (address p s i)) live (apart_from (has_live p b (address p s i)) (and_parts _ _ other).0)
    ]

-- what is told leaves an adoption open, and of the same descriptor
record StaysOpen (s i : ℕ) (q r : Record) : Type 0 where
  open_ : is_adopt_open r s i ≡ true
  last : last_adopt r s i ≡ last_adopt q s i

adopt_open_more : (s i : ℕ) (a : Action) (q : Record) → is_adopt_open q s i ≡ true → is_adopt_open (Told a ∷ q) s i ≡ true
adopt_open_more s i a q h = elim (cases_Bool (is_adopt s i (Told a))) [
  | inl y ↦ rw y refl
  | inr n ↦ rw n h
]

same_last : (s i t j fd : ℕ) (q : Record) → (t == s && j == i) ≡ false → last_adopt (Told (Adopt t j fd) ∷ q) s i ≡ last_adopt q s i
same_last s i t j fd q n = rw n refl

adopted_twice : (p : Plan) (s i t j fd : ℕ) (q : Record) → ask_due p (Told (Adopt t j fd)) q ≡ true → is_adopt_open q s i ≡ true → (t == s && j == i) ≡ true → ⊥
adopted_twice p s i t j fd q due h y =
    let same = and_parts (t == s) (j == i) y in
    let unasked = turn_unasked p q t j (and_parts (has_turn p q t j) _ due).0 in
    let open_ : is_adopt_open q t j ≡ true = rw (eqb-true t s same.0, eqb-true j i same.1) h in
    clash (is_adopt_open q t j) open_ (or_parts (is_bind_open q t j) (is_adopt_open q t j) unasked).1

adopt_stays : (p : Plan) (s i : ℕ) (told : List Action) (q : Record) → EachEntry (λ e before. ask_due p e before ≡ true) (tell q told)
    → is_adopt_open q s i ≡ true → StaysOpen s i q (tell q told)
adopt_stays p s i [] q due h = record { open_ = h; last = refl }
adopt_stays p s i (Adopt t j fd ∷ more) q due h = elim (cases_Bool (t == s && j == i)) [
  | inl y ↦ absurd (adopted_twice p s i t j fd q (entries_before (λ e before. ask_due p e before ≡ true) more (Told (Adopt t j fd) ∷ q) due).0 h y)
  | inr n ↦ (let rest = adopt_stays p s i more (Told (Adopt t j fd) ∷ q) due (adopt_open_more s i (Adopt t j fd) q h) in
      record { open_ = rest.open_; last = rest.last ∙ same_last s i t j fd q n })
]
adopt_stays p s i (a ∷ more) q due h =
    let rest = adopt_stays p s i more (Told a ∷ q) due (adopt_open_more s i a q h) in
    record { open_ = rest.open_; last = rest.last }

-- an adoption of the descriptor that was open stays so
pub adopt_of_stays : (p : Plan) (fd : ℕ) (told : List Action) (q : Record) → EachEntry (λ e before. ask_due p e before ≡ true) (tell q told)
    → is_adopt_of_open p q fd ≡ true
    → is_adopt_of_open p (tell q told) fd ≡ true
adopt_of_stays p fd told q due h = any_grows (λ s. list_any (of q s) (endpoint_numbers p s))
    (λ s. list_any (of (tell q told) s) (endpoint_numbers p s)) (services p)
    (λ s. any_grows (of q s) (of (tell q told) s) (endpoint_numbers p s)
    (λ i x. let parts = and_parts _ _ x in let stays = adopt_stays p s i told q due parts.0 in
    and_from _ _ stays.open_ (subst (λ ns. list_any (λ n. n == fd) ns ≡ true) (sym stays.last) parts.1))) h
  where
    of : Record → ℕ → ℕ → Bool
    of r s i = is_adopt_open r s i && list_any (λ n. n == fd) (last_adopt r s i)

-- receiving

-- where the last try rests none may be told
pub rest_or_try : (t : ℕ) (q : Record) → try_rests t q ≡ true → may_try t q ≡ true → ⊥
rest_or_try t [] h g = false≢true h
rest_or_try t (Got (Received bytes fds) ∷ q) h g = false≢true g
rest_or_try t (Got NoSenderYet ∷ q) h g = let x = ltb-true _ _ h in let y = leb-true _ _ g in omega (arith, x, y)
rest_or_try t (Got ReceiveFailed ∷ q) h g = false≢true h
rest_or_try t (Got e ∷ q) h g = rest_or_try t q h g
rest_or_try t (Told a ∷ q) h g = rest_or_try t q h g

-- phases

-- the entry tells a phase that is none of bootstrap's, or the broadcast
abbrev pub is_mark : Entry → Bool
is_mark (Told (Phase x ms)) = not (is_boot_phase x)
is_mark (Told Broadcast) = true
is_mark _ = false

pub marks-counted : (q : Record) → times is_mark q ≡ length (told_marks q)
marks-counted [] = refl
marks-counted (Told (Phase x ms) ∷ q) = let e = marks-counted q in elim (cases_Bool (is_boot_phase x)) [
  | inl y ↦ rw y e
  | inr n ↦ rw n (omega (arith, e))
]
marks-counted (Told Broadcast ∷ q) = let e = marks-counted q in omega (arith, e)
marks-counted (Told a ∷ q) = marks-counted q
marks-counted (Got e ∷ q) = marks-counted q

-- connections

-- what is told of a connection, once where it is due
record CallParts (p : Plan) (q : Record) (x : Arrival) : Type 0 where
  judged : once_if (is_known x.peer) (is_judged x.number) q ≡ true
  refused : once_if (has (is_judged_as false x.number) q) (is_refuse x.number) q ≡ true
  settings : once_if (not (has (is_judged_as false x.number) q)) (is_settings x.number) q ≡ true
  handshake : once_if (has (is_set_as true x.number) q) (is_handshake x.number) q ≡ true
  served : once_if (has (is_shaken_as true x.number) q) (is_serve x.number) q ≡ true
  dropped : once_if (has (is_set_as false x.number) q || has (is_shaken_as false x.number) q) (is_drop x.number) q ≡ true

call_parts : (p : Plan) (q : Record) (x : Arrival) → connection_right p q x ≡ true → CallParts p q x
call_parts p q x h =
    let all = and_parts _ _ h in
    let calls = and_parts _ _ all.0 in
    let first = and_parts _ _ calls.0 in
    let judging = and_parts _ _ first.0 in
    record {
      judged = (and_parts _ _ judging.0).0;
      refused = judging.1;
      settings = (and_parts _ _ first.1).0;
      handshake = (and_parts _ _ calls.1).0;
      served = (and_parts _ _ calls.1).1;
      dropped = (and_parts _ _ all.1).0;
    }

-- what is told of the connection stands in both equally often
pub record SameCalls (b q : Record) (c : ℕ) : Type 0 where
  pub judged : times (is_judged c) q ≡ times (is_judged c) b
  pub refused : times (is_refuse c) q ≡ times (is_refuse c) b
  pub settings : times (is_settings c) q ≡ times (is_settings c) b
  pub handshake : times (is_handshake c) q ≡ times (is_handshake c) b
  pub served : times (is_serve c) q ≡ times (is_serve c) b
  pub dropped : times (is_drop c) q ≡ times (is_drop c) b

said_no : (n : ℕ) (e : Entry) → is_judged_as false n e ≡ true → is_judged n e ≡ true
said_no n (Told (Judged m false)) h = h
said_no n (Told (Judged m true)) h = absurd (false≢true h)
said_no n (Told a) h = absurd (false≢true h)
said_no n (Got e) h = absurd (false≢true h)

calls-same : (p : Plan) (b : Record) (told : List Action) (x : Arrival) → CallParts p (tell b told) x → CallParts p b x
    → SameCalls b (tell b told) x.number
calls-same p b told x now_parts parts =
    let n = x.number in
    let judged = once_same _ _ _ _ refl now_parts.judged parts.judged in
    let no = has_same (is_judged n) (is_judged_as false n) (said_no n) told b judged in
    let set : (ok : Bool) → has (is_set_as ok n) (tell b told) ≡ has (is_set_as ok n) b = λ ok. set_same ok n in
    let shaken : (ok : Bool) → has (is_shaken_as ok n) (tell b told) ≡ has (is_shaken_as ok n) b = λ ok. shaken_same ok n in
    record {
      judged = judged;
      refused = once_same _ _ _ _ no now_parts.refused parts.refused;
      settings = once_same _ _ _ _ (ap not no) now_parts.settings parts.settings;
      handshake = once_same _ _ _ _ (set true) now_parts.handshake parts.handshake;
      served = once_same _ _ _ _ (shaken true) now_parts.served parts.served;
      dropped = once_same _ _ _ _
          (ap (λ y. y || has (is_shaken_as false n) (tell b told)) (set false) ∙ ap (λ y. has (is_set_as false n) b || y)
          (shaken false)) now_parts.dropped parts.dropped;
    }
  where
    set_same : (ok : Bool) (n : ℕ) → has (is_set_as ok n) (tell b told) ≡ has (is_set_as ok n) b
    set_same true n = kept (has (is_set_as true n)) (λ a q. refl) told b
    set_same false n = kept (has (is_set_as false n)) (λ a q. refl) told b

    shaken_same : (ok : Bool) (n : ℕ) → has (is_shaken_as ok n) (tell b told) ≡ has (is_shaken_as ok n) b
    shaken_same true n = kept (has (is_shaken_as true n)) (λ a q. refl) told b
    shaken_same false n = kept (has (is_shaken_as false n)) (λ a q. refl) told b

-- the connection with this number passes what each does
arrival_at : (f g : Arrival → Bool) (q : Record) (c : ℕ) → has (is_arrival c) q ≡ true → list_all f (arrivals q) ≡ true → list_all g (arrivals q) ≡ true
    → (x : Arrival) × (x.number ≡ c) × (f x ≡ true) × (g x ≡ true)
arrival_at f g [] c h x y = absurd (false≢true h)
arrival_at f g (Got (Arrived s i n peer) ∷ q) c h all both =
    let x : Arrival = record { service = s; endpoint = i; number = n; peer = peer } in
    let a = and_parts (f x) (list_all f (arrivals q)) all in
    let b = and_parts (g x) (list_all g (arrivals q)) both in
    elim (or_cases (n == c) (has (is_arrival c) q) h) [
      | inl here ↦ (x, eqb-true n c here, a.0, b.0)
      | inr past ↦ arrival_at f g q c past a.1 b.1
    ]
arrival_at f g (Got e ∷ q) c h all both = arrival_at f g q c h all both
arrival_at f g (Told a ∷ q) c h all both = arrival_at f g q c h all both

pub connection_calls : (p : Plan) (b : Record) (told : List Action) (c : ℕ) → has (is_arrival c) b ≡ true
    → list_all (connection_right p (tell b told)) (arrivals (tell b told)) ≡ true
    → list_all (connection_right p b) (arrivals b) ≡ true
    → SameCalls b (tell b told) c
connection_calls p b told c h now_each each =
    let q : Record = tell b told in
    let same = kept arrivals (λ a z. refl) told b in
    let found = arrival_at (connection_right p q) (connection_right p b) b c h (subst (λ xs. list_all (connection_right p q) xs ≡ true) same now_each) each in
    subst (SameCalls b q) found.1 (calls-same p b told found.0 (call_parts p q found.0 found.2) (call_parts p b found.0 found.3))
