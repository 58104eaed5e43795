-- Once what goes is closed, the endpoints stand for the longer record.
use Rattle.std.proofs.Common.{ℕ, Bool, true, false, ◌&&◌, ◌==◌, not, inl, inr, List, [], ◌∷◌, ◌≡◌, refl, ap, sym, ◌∙◌, subst, arith, ◌<◌, ◌≤◌, length, Option, Some, None, map, filter, if◌then◌else◌}
use Rattle.std.specs.List.{list_any}
use Rattle.std.proofs.lemmas.Bool.{cases_Bool, and_parts, and_from, and_left, or_cases, or_left, or_right, eqb-true}
use Rattle.svc_record.specs.declared.plan.Plan.{Plan}
use Rattle.svc_record.specs.declared.action.Action.TheVariants.{Close}
use Rattle.svc_record.specs.Record.{Record, has, tell, EachEntry}
use Rattle.svc_record.specs.Plans.{service_count, endpoints, address, same_address}
use Rattle.svc_record.specs.Descriptors.{Descriptor, opened_descriptors, live_numbers_with, is_opened, is_close, address_of, brings, has_number}
use Rattle.svc_record.specs.Drain.{live_numbers}
use Rattle.svc_base.specs.NumberSets.{ascending, is_in, distinct}
use Rattle.svc_record.specs.Failed.{has_failed, in_use_count}
use Rattle.svc_record.specs.Fits.{is_new}
use Rattle.svc_record.specs.Offer.{is_held_back}
use Rattle.svc_record.specs.AskRules.{FailsRight, ask_due, ask_known}
use Rattle.svc_record.specs.Closes.{is_gone, is_drained, is_address_abandoned, is_abandoned, close_once}
use Rattle.svc_record.specs.Tail.{numbers_in}
use Rattle.svc_record.proofs.ClosesOnce.{closed_once}
use Rattle.svc_endpoints.specs.declared.table.Open.{Open}
use Rattle.svc_endpoints.specs.EndpointsData.{EndpointsData}
use Rattle.svc_endpoints.specs.EndpointsState.{LoopsStand, AreOnOffer, StatesKept, StatesStand, StandsAt, EndpointsStand, open_numbers, numbers_of_table, numbers_with, last_at, failed_at, times_in_use_at}
use Rattle.svc_endpoints.specs.Effects.{passes, is_abandoned_by, is_done_for, goes, gone_numbers, cleared}
use Rattle.svc_endpoints.specs.Uses.{is_drained_by}
use Rattle.svc_base.proofs.NumberSetLemmas.{any-ascending, filter-ascending, in-filter, distinct-ascending}
use Rattle.svc_base.proofs.Logic.{apart_from, not_in, clash, bool_same, option_cases as cases_address, neither}
use Rattle.svc_endpoints.proofs.GoneLemmas.{is_turned, is_gone_now, loops-table, loops-closes, closed-is}
use Rattle.svc_endpoints.proofs.UseLemmas.{drained-is, early-none}
use Rattle.svc_endpoints.proofs.CloseLemmas.{along-closes, closed-tell, opened-tell, with-tell, numbers-tell, once-tell, left_out}
use Rattle.svc_endpoints.proofs.RestLemmas.{part_in, picked-with, picked-numbers, picked-stays, picked-from, picks-some, none-picked, some-passes, passes-at, with-None, distinct-part}
use Rattle.svc_endpoints.proofs.OpenedLemmas.{live-is, live-address, live-distinct, opened-in, brings-in, first_address}
use Rattle.svc_endpoints.proofs.NamedLemmas.{unneeded, named-inside, abandoned-is}
use Rattle.svc_endpoints.proofs.OneLiveLemmas.{one_live-is}
use Rattle.svc_endpoints.proofs.LiveLemmas.{same_self}

-- before what goes is closed: what is closed is gone, and what is turned away is closed
pub record Answered (p : Plan) (d : EndpointsData) (q : Record) : Type 0 where
  pub states : StatesStand p d q
  pub loops : LoopsStand p d q
  pub kept : StatesKept p d
  pub asks_due : EachEntry (λ e before. ask_due p e before ≡ true) q
  pub asks_known : EachEntry (λ e before. ask_known p e before ≡ true) q
  pub closes_once : EachEntry (λ e before. close_once p e before ≡ true) q
  pub fails : FailsRight p q
  pub closed_gone : (fd : ℕ) → is_opened p q fd ≡ true → has (is_close fd) q ≡ true → is_gone p q fd ≡ true
  pub turned_closed : (fd : ℕ) → is_opened p q fd ≡ true → is_turned p q fd ≡ true → has (is_close fd) q ≡ true
  pub open_are : open_numbers d ≡ ascending (live_numbers p q)
  pub came_are : d.came ≡ ascending (numbers_in q)
  pub came_apart : distinct (numbers_in q) ≡ true

-- the first with the number is live where the number isn't closed
abbrev live_of : Record → List Descriptor → List Descriptor
live_of q xs = filter (λ (x : Descriptor). not (has (is_close x.number) q)) xs

abbrev numbers_of : Option (List ℕ) → List Descriptor → List ℕ
numbers_of a xs = map (λ (x : Descriptor). x.number) (filter (λ (x : Descriptor). same_address x.address a) xs)

one_more : (fd : ℕ) (q : Record) (a : Option (List ℕ)) (x : Descriptor) (xs : List Descriptor) → is_in fd (numbers_of a (live_of q xs)) ≡ true
    → is_in fd (numbers_of a (live_of q (x ∷ xs))) ≡ true
one_more fd q a x xs h = elim (cases_Bool (has (is_close x.number) q)) [
  | inl c ↦ rw c h
  | inr o ↦ elim (cases_Bool (same_address x.address a)) [
    | inl s ↦ rw (o, s) (or_right (x.number == fd) (is_in fd (numbers_of a (live_of q xs))) h)
    | inr n ↦ rw (o, n) h
  ]
]

still_live : (fd : ℕ) (q : Record) (a : List ℕ) (xs : List Descriptor) → list_any (has_number fd) xs ≡ true → first_address fd xs ≡ Some a
    → has (is_close fd) q ≡ false → is_in fd (numbers_of (Some a) (live_of q xs)) ≡ true
still_live fd q a [] h e c = absurd (cc)
still_live fd q a (x ∷ xs) h e c = elim (cases_Bool (x.number == fd)) [
  | inl y ↦ (let here : x.address ≡ Some a = rw y at e in
      let off : has (is_close x.number) q ≡ false = subst (λ n. has (is_close n) q ≡ false) (sym (eqb-true x.number fd y)) c in
      let same : same_address x.address (Some a) ≡ true = subst (λ b. same_address b (Some a) ≡ true) (sym here) (same_self a) in
      rw (off, same) (or_left (x.number == fd) (is_in fd (numbers_of (Some a) (live_of q xs))) y))
  | inr n ↦ one_more fd q (Some a) x xs (still_live fd q a xs (rw n at h) (rw n at e) c)
]

some_address : (p : Plan) (q : Record) (a : Option (List ℕ)) → is_address_abandoned p q a ≡ true → (b : List ℕ) × (a ≡ Some b) × (is_abandoned p q b ≡ true)
some_address p q (Some b) h = (b, refl, h)
some_address p q None h = absurd (cc)

less : (f : ℕ → Bool) (xs : List ℕ) → length (filter f xs) ≤ length xs
less f [] = omega arith
less f (x ∷ xs) = let h = less f xs in elim (cases_Bool (f x)) [
  | inl y ↦ rw y (omega (arith, h))
  | inr n ↦ rw n (omega (arith, h))
]

not_both : (b : Bool) → b ≡ true → not b ≡ true → ⊥
not_both b h g = grind arith

-- a number of the table is one of an entry
some_number : (f : Open → Bool) (fd : ℕ) → ((o : Open) → o.fd ≡ fd → f o ≡ true) → (t : List Open) → is_in fd (numbers_of_table t) ≡ true → list_any f t ≡ true
some_number f fd each [] h = absurd (cc)
some_number f fd each (o ∷ t) h = elim (or_cases (o.fd == fd) (is_in fd (numbers_of_table t)) h) [
  | inl here ↦ or_left (f o) (list_any f t) (each o (eqb-true o.fd fd here))
  | inr later ↦ or_right (f o) (list_any f t) (some_number f fd each t later)
]

module _ (p : Plan) (keep : List ℕ) (d : EndpointsData) (q : Record) (offer : AreOnOffer p keep q) (mid : Answered p d q) where
  -- what goes
  abbrev gone : List ℕ → Bool
  gone a = is_abandoned_by p d.failed a

  abbrev done : Open → Bool
  done o = goes p keep d o

  abbrev ns : List ℕ
  ns = gone_numbers p keep d d.table

  abbrev r : Record
  r = tell q (map Close ns)

  table_apart : distinct (open_numbers d) ≡ true
  table_apart = ap distinct mid.open_are ∙ distinct-ascending (live_numbers p q) (live-distinct p q mid.came_apart)

  with_is : (a : Option (List ℕ)) → numbers_with (cleared p keep d).table a ≡ live_numbers_with p r a
  with_is a = picked-with done d.table table_apart a ∙ ap (left_out ns) (mid.states.with_is a) ∙ sym (with-tell p q ns a)

  -- each of them is live
  pub goes-live : (g : ℕ) → is_in g ns ≡ true → (is_opened p q g ≡ true) × (has (is_close g) q ≡ false)
  goes-live g h =
      let lives : is_in g (live_numbers p q) ≡ true =
      sym (any-ascending (λ n. n == g) (live_numbers p q)) ∙ ap (is_in g) (sym mid.open_are) ∙ part_in done g d.table h in
      let parts = and_parts (is_opened p q g) (not (has (is_close g) q)) (sym (live-is p q g) ∙ lives) in
      (parts.0, apart_from (has (is_close g) q) parts.1)

  -- and gone
  pub goes-gone : (g : ℕ) → is_in g ns ≡ true → is_gone p q g ≡ true
  goes-gone g h =
      let at = picked-from done d.table g h in
      let o : Open = at.0 in
      elim (or_cases (is_done_for p d.failed keep o) (is_drained_by p d o.fd) at.1) [
        | inr drained ↦
            or_right (is_gone_now p q g) (is_drained p q g)
            (drained-is p d q mid.states mid.loops g ∙ subst (λ n. is_drained_by p d n ≡ true) (eqb-true o.fd g at.2) drained)
        | inl left ↦ (let parts = and_parts (passes gone o.address) (not (is_in o.fd keep)) left in
            let some = some-passes gone o.address parts.0 in
            let lives : is_in g (live_numbers_with p q (Some some.0)) ≡ true = ap (is_in g) (sym (mid.states.with_is (Some some.0))) ∙ at.3 some.0 some.1 in
            or_left (is_gone_now p q g) (is_drained p q g) (or_right (is_turned p q g) (is_address_abandoned p q (address_of p q g) && not (is_held_back p q g))
            (and_from (is_address_abandoned p q (address_of p q g)) (not (is_held_back p q g))
            (subst (λ a. is_address_abandoned p q a ≡ true) (sym (live-address p q g (Some some.0) mid.came_apart lives))
            (sym (abandoned-is p d q mid.states some.0) ∙ some.2))
            (not_in (is_held_back p q g) (sym (offer g) ∙ subst (λ n. is_in n keep ≡ false) (eqb-true o.fd g at.2) (apart_from (is_in o.fd keep) parts.1))))))
      ]

  states-cleared : StatesStand p (cleared p keep d) r
  states-cleared = record {
    each = along-closes (λ x. (s i : ℕ) → s < service_count p → i < length (endpoints p s) → StandsAt p (last_at d s i) x s i)
        (λ x n h. h) q ns mid.states.each;
    counts = along-closes
        (λ x. (s i : ℕ) → s < service_count p → i < length (endpoints p s) → failed_at d s ≡ false → times_in_use_at d s i ≡ in_use_count p x s i)
        (λ x n h. h) q ns mid.states.counts;
    failed_is = along-closes (λ x. (s : ℕ) → s < service_count p → failed_at d s ≡ has_failed p x s) (λ x n h. h) q ns mid.states.failed_is;
    with_is = with_is;
    lost = mid.states.lost;
    closed_came = λ g new. closed-tell q ns g ∙ neither (has (is_close g) q) (is_in g ns)
        (mid.states.closed_came g (new_before g new))
        (none_goes g (new_before g new));
  }
    where
      new_before : (g : ℕ) → is_new r g ≡ true → is_new q g ≡ true
      new_before g = along-closes (λ x. is_new x g ≡ true → is_new q g ≡ true) (λ x n h. h) q ns (λ h. h)

      none_goes : (g : ℕ) → is_new q g ≡ true → is_in g ns ≡ false
      none_goes g new = elim (cases_Bool (is_in g ns)) [
        | inl y ↦ absurd (not_both (has (brings g) q) (brings-in q g ∙ sym (opened-in p q g) ∙ (goes-live g y).0) new)
        | inr n ↦ n
      ]

  kept-cleared : StatesKept p (cleared p keep d)
  kept-cleared = record {
    asking_free = mid.kept.asking_free;
    turn = mid.kept.turn;
    live = λ early s i free h. same_there early s i free ∙ mid.kept.live early s i free h;
    one = λ a. subst (λ (w : List ℕ). length w ≤ 1) (sym (picked-with done d.table table_apart a)) (short (numbers_with d.table a) (mid.kept.one a));
    distinct = λ a b g h k. mid.kept.distinct a b g
        (in-filter g (λ n. not (is_in n ns)) (numbers_with d.table a) (ap (is_in g) (sym (picked-with done d.table table_apart a)) ∙ h))
        (in-filter g (λ n. not (is_in n ns)) (numbers_with d.table b) (ap (is_in g) (sym (picked-with done d.table table_apart b)) ∙ k));
  }
    where
      short : (xs : List ℕ) → length xs ≤ 1 → length (left_out ns xs) ≤ 1
      short xs h = let k = less (λ n. not (is_in n ns)) xs in omega (arith, k)

      same_there : d.loops ≡ [] → (s i : ℕ) → failed_at d s ≡ false
          → numbers_with (cleared p keep d).table (address p s i) ≡ numbers_with d.table (address p s i)
      same_there early s i free = elim (cases_address (address p s i)) [
        | inl none ↦ rw none (with-None (cleared p keep d).table ∙ sym (with-None d.table))
        | inr some ↦
            rw some.1 (picked-stays done (Some some.0)
            (λ o same. neither (is_done_for p d.failed keep o) (is_drained_by p d o.fd)
            (and_left (passes gone o.address) (not (is_in o.fd keep)) (passes-at gone o.address some.0 false same (needed s i free some.0 some.1)))
            (early-none p d o.fd mid.loops.some_tasks early)) d.table)
      ]
        where
          needed : (s i : ℕ) → failed_at d s ≡ false → (w : List ℕ) → address p s i ≡ Some w → gone w ≡ false
          needed s i free w e = elim (cases_Bool (gone w)) [
            | inl y ↦ absurd (unneeded p d.failed d refl w y s i (named-inside p s i w e) free e)
            | inr n ↦ n
          ]

  numbers_open : open_numbers (cleared p keep d) ≡ ascending (live_numbers p r)
  numbers_open =
      picked-numbers done d.table table_apart ∙ ap (left_out ns) mid.open_are ∙ filter-ascending (λ n. not (is_in n ns)) (live_numbers p q)
      ∙ ap ascending (sym (numbers-tell p q ns))

  -- what is gone after the closes was gone before
  gone_stays : (fd : ℕ) → is_gone p r fd ≡ is_gone p q fd
  gone_stays fd = along-closes (λ x. is_gone p x fd ≡ is_gone p q fd) (λ x n h. h) q ns refl

  closed_then : (fd : ℕ) → is_opened p q fd ≡ true → has (is_close fd) r ≡ true → is_gone p q fd ≡ true
  closed_then fd came h = elim (or_cases (has (is_close fd) q) (is_in fd ns) (sym (closed-tell q ns fd) ∙ h)) [
    | inl before ↦ mid.closed_gone fd came before
    | inr now ↦ goes-gone fd now
  ]

  -- where it is gone by its address, and still open, it would have gone
  abandoned_then : (fd : ℕ) → is_opened p q fd ≡ true → (is_address_abandoned p q (address_of p q fd) && not (is_held_back p q fd)) ≡ true
      → has (is_close fd) r ≡ false → ⊥
  abandoned_then fd came abandoned n =
      let parts = and_parts (is_address_abandoned p q (address_of p q fd)) (not (is_held_back p q fd)) abandoned in
      let at = some_address p q (address_of p q fd) parts.0 in
      let free : is_in fd keep ≡ false = offer fd ∙ apart_from (is_held_back p q fd) parts.1 in
      let place : address_of p r fd ≡ Some at.0 = ap (first_address fd) (opened-tell p q ns) ∙ at.1 in
      let lives : is_in fd (live_numbers_with p r (Some at.0)) ≡ true =
      still_live fd r at.0 (opened_descriptors p r) (ap (list_any (has_number fd)) (opened-tell p q ns) ∙ came) place n in
      let there : is_in fd (numbers_with (cleared p keep d).table (Some at.0)) ≡ true = ap (is_in fd) (with_is (Some at.0)) ∙ lives in
      let left : gone at.0 ≡ true = abandoned-is p d q mid.states at.0 ∙ at.2 in
      let some = picks-some done fd at.0
      (λ o e f. or_left (is_done_for p d.failed keep o) (is_drained_by p d o.fd)
      (and_from (passes gone o.address) (not (is_in o.fd keep)) (ap (passes gone) e ∙ left)
      (not_in (is_in o.fd keep) (subst (λ n. is_in n keep ≡ false) (sym f) free))))
      (cleared p keep d).table there in
      clash (list_any done (cleared p keep d).table) some (none-picked done d.table)

  -- and where it is drained
  drained_then : (fd : ℕ) → is_opened p q fd ≡ true → is_drained p q fd ≡ true → has (is_close fd) r ≡ false → ⊥
  drained_then fd came drained n =
      let opened : is_opened p r fd ≡ true = ap (list_any (has_number fd)) (opened-tell p q ns) ∙ came in
      let lives : is_in fd (live_numbers p r) ≡ true =
      live-is p r fd ∙ and_from (is_opened p r fd) (not (has (is_close fd) r)) opened (not_in (has (is_close fd) r) n) in
      let there : is_in fd (open_numbers (cleared p keep d)) ≡ true = ap (is_in fd) numbers_open ∙ any-ascending (λ n. n == fd) (live_numbers p r) ∙ lives in
      let by : is_drained_by p d fd ≡ true = sym (drained-is p d q mid.states mid.loops fd) ∙ drained in
      let some = some_number done fd
      (λ o e. or_right (is_done_for p d.failed keep o) (is_drained_by p d o.fd) (subst (λ n. is_drained_by p d n ≡ true) (sym e) by))
      (cleared p keep d).table there in
      clash (list_any done (cleared p keep d).table) some (none-picked done d.table)

  closed_where : (fd : ℕ) → (has (is_close fd) r ≡ false → ⊥) → has (is_close fd) r ≡ true
  closed_where fd f = elim (cases_Bool (has (is_close fd) r)) [ inl y ↦ y | inr n ↦ absurd (f n) ]

  gone_then : (fd : ℕ) → is_opened p q fd ≡ true → is_gone p q fd ≡ true → has (is_close fd) r ≡ true
  gone_then fd came h = elim (or_cases (is_gone_now p q fd) (is_drained p q fd) h) [
    | inr drained ↦ closed_where fd (drained_then fd came drained)
    | inl now ↦ elim (or_cases (is_turned p q fd) (is_address_abandoned p q (address_of p q fd) && not (is_held_back p q fd)) now) [
      | inl turned ↦ closed-tell q ns fd ∙ or_left (has (is_close fd) q) (is_in fd ns) (mid.turned_closed fd came turned)
      | inr abandoned ↦ closed_where fd (abandoned_then fd came abandoned)
    ]
  ]

  once : EachEntry (λ e before. close_once p e before ≡ true) r
  once = once-tell p ns q apart goes-live mid.closes_once
    where
      apart : distinct ns ≡ true
      apart = distinct-part done d.table table_apart

  pub stands-cleared : EndpointsStand p (cleared p keep d) r
  stands-cleared = record {
    states = states-cleared;
    loops = loops-table p d r (cleared p keep d).table d.came (loops-closes p d q ns mid.loops);
    kept = kept-cleared;
    asks_due = along-closes (EachEntry (λ e before. ask_due p e before ≡ true)) (λ x n h. (refl, h)) q ns mid.asks_due;
    asks_known = along-closes (EachEntry (λ e before. ask_known p e before ≡ true)) (λ x n h. (refl, h)) q ns mid.asks_known;
    closes_once = once;
    fails = along-closes (FailsRight p) (λ x n h. h) q ns mid.fails;
    closes = λ fd came. (let before : is_opened p q fd ≡ true = ap (list_any (has_number fd)) (sym (opened-tell p q ns)) ∙ came in
        closed_once p r fd once
        ∙ ap (λ b. if b then 1 else 0)
        (bool_same (has (is_close fd) r) (is_gone p q fd) (closed_then fd before) (gone_then fd before) ∙ sym (gone_stays fd)));
    one_live = one_live-is p (cleared p keep d) r kept-cleared states-cleared;
    open_are = numbers_open;
    came_are = mid.came_are ∙ ap ascending (sym (along-closes (λ x. numbers_in x ≡ numbers_in q) (λ x n h. h) q ns refl));
    came_apart = along-closes (λ x. distinct (numbers_in x) ≡ true) (λ x n h. h) q ns mid.came_apart;
  }

-- nothing that is live was gone before an event
module _ (p : Plan) (d : EndpointsData) (q : Record) (stand : EndpointsStand p d q) where
  closed_is : (fd : ℕ) → is_opened p q fd ≡ true → has (is_close fd) q ≡ is_gone p q fd
  closed_is fd came = closed-is p q fd stand.closes_once (stand.closes fd came)

  before : Answered p d q
  before = record {
    states = stand.states;
    loops = stand.loops;
    kept = stand.kept;
    asks_due = stand.asks_due;
    asks_known = stand.asks_known;
    closes_once = stand.closes_once;
    fails = stand.fails;
    closed_gone = λ fd came closed. sym (closed_is fd came) ∙ closed;
    turned_closed = λ fd came turned. closed_is fd came ∙ or_left (is_gone_now p q fd) (is_drained p q fd) (or_left (is_turned p q fd) _ turned);
    open_are = stand.open_are;
    came_are = stand.came_are;
    came_apart = stand.came_apart;
  }

  pub none-gone-before : (keep : List ℕ) → AreOnOffer p keep q → (n : ℕ) → is_in n (gone_numbers p keep d d.table) ≡ false
  none-gone-before keep offer n = elim (cases_Bool (is_in n (gone_numbers p keep d d.table))) [
    | inl y ↦ (let live = goes-live p keep d q offer before n y in
        absurd (clash (is_gone p q n) (goes-gone p keep d q offer before n y) (sym (closed_is n live.0) ∙ live.1)))
    | inr m ↦ m
  ]
