-- What the end of a loop leaves, with the closes that follow it.
use Rattle.std.proofs.Common.{ℕ, Bool, true, false, ◌||◌, ◌&&◌, ◌==◌, not, inl, inr, List, [], ◌∷◌, ◌++◌, ◌≡◌, refl, ap, sym, ◌∙◌, subst, arith, ◌<◌, ◌≤◌, ◌+◌, length, length-append, map, filter, nat_lt, nat_le, if◌then◌else◌}
use Rattle.std.specs.List.{list_all}
use Rattle.std.proofs.lemmas.List.{length-map}
use Rattle.std.proofs.lemmas.Bool.{cases_Bool, cases_lt, and_parts, or_cases, or_left, eq-eqb, ne_eqb}
use Rattle.svc_record.specs.declared.plan.Plan.{Plan}
use Rattle.svc_record.specs.declared.entry.Entry.TheVariants.{Got}
use Rattle.svc_record.specs.declared.action.Action.{Action}
use Rattle.svc_record.specs.declared.action.Action.TheVariants.{Close}
use Rattle.svc_record.specs.declared.event.Event.TheVariants.{LoopEnded}
use Rattle.svc_record.specs.Record.{Record, has, tell}
use Rattle.svc_record.specs.Plans.{service_count, endpoints, endpoint_numbers, is_endpoint}
use Rattle.svc_record.specs.Descriptors.{is_close, is_opened}
use Rattle.svc_base.specs.NumberSets.{ascending, is_in}
use Rattle.svc_record.specs.Failed.{has_failed}
use Rattle.svc_record.specs.Fits.{fits_row, accepts}
use Rattle.svc_record.specs.Starts.{is_started}
use Rattle.svc_record.specs.Endpoints.{is_held, is_at_work, serves}
use Rattle.svc_record.specs.Closes.{is_gone, is_drained, is_broadcast, is_loop_end, ended_loops}
use Rattle.svc_record.specs.Told.{Tells, IsGivingUp}
use Rattle.svc_endpoints.specs.declared.states.EndpointStatus.{EndpointStatus}
use Rattle.svc_endpoints.specs.declared.states.EndpointStatus.TheVariants.{Idle, Binding, AddressInUse, Adopting, Holding, AdoptionFailed}
use Rattle.svc_endpoints.specs.declared.loops.LoopEnd.{LoopEnd}
use Rattle.svc_endpoints.specs.EndpointsData.{EndpointsData}
use Rattle.svc_endpoints.specs.EndpointsState.{IsEndpointsSized, AreOnOffer, ServesIn, LoopsStand, StatesKept, StatesStand, EndpointsStand, last_at, failed_at, is_holding, is_done, held_of, numbers_of_table, open_numbers}
use Rattle.svc_endpoints.specs.Loops.{is_loop, has_loop, loop_count}
use Rattle.svc_endpoints.specs.Uses.{uses, is_user, is_drained_by, serves_by, accepts_by}
use Rattle.svc_endpoints.specs.declared.table.Open.{Open}
use Rattle.svc_endpoints.specs.Effects.{loop_ended, cleared, gone_numbers, goes, is_done_for, drains_at, numbers_among, closed_out}
use Rattle.svc_endpoints.proofs.RangeLemmas.{fails0, all0}
use Rattle.svc_endpoints.proofs.LoopLemmas.{ended-less, has_loop-more, loop_count-more}
use Rattle.svc_endpoints.proofs.UseLemmas.{drained-is, drained-grows, all_get}
use Rattle.svc_base.proofs.Logic.{clash, apart_from}
use Rattle.svc_endpoints.proofs.StatesLemmas.{at_here}
use Rattle.svc_endpoints.proofs.NamedLemmas.{all-same}
use Rattle.svc_endpoints.proofs.VisitLemmas.{held-is}
use Rattle.svc_endpoints.proofs.GoneLemmas.{is_turned, is_gone_now, closed-is}
use Rattle.svc_endpoints.proofs.GrowLemmas.{gone-grows}
use Rattle.svc_endpoints.proofs.FailLemmas.{fails-same}
use Rattle.svc_endpoints.proofs.EventLemmas.{opened_is-event, numbers-event, place-event, turned-event}
use Rattle.svc_endpoints.proofs.ClearLemmas.{Answered, stands-cleared, none-gone-before}
use Rattle.svc_endpoints.proofs.RestLemmas.{picked-length}
use Rattle.svc_endpoints.proofs.DrainedLemmas.{filter-live}
use Rattle.svc_endpoints.proofs.AnswerLemmas.{giving-closes}
use Rattle.svc_endpoints.proofs.Laws.{endpoint-inside}

not_empty : (loops : List LoopEnd) (x : LoopEnd) → loops ++ (x ∷ []) ≡ [] → ⊥
not_empty [] x e = cc
not_empty (y ∷ loops) x e = cc

counted : (m l h : Bool) (a b : ℕ) → l ≡ true → (m ≡ true → h ≡ false) → a ≡ b → (if m then a + 1 else a) ≡ (if (m && l) && not h then b + 1 else b)
counted true l h a b e f g = rw (e, f refl, g) refl
counted false l h a b e f g = g

-- what is less done is used no less
less_done : (fd : ℕ) (f a b : Bool) (x : EndpointStatus) → (a ≡ true → b ≡ true) → uses fd f b x ≡ true → uses fd f a x ≡ true
less_done fd f a b (Holding n) g h = still f a b (n == fd) g h
  where
    still : (f a b c : Bool) → (a ≡ true → b ≡ true) → ((not f && not b) && c) ≡ true → ((not f && not a) && c) ≡ true
    still f true b c g h = absurd (none f c (rw (g refl) at h))
      where
        none : (f c : Bool) → ((not f && false) && c) ≡ true → ⊥
        none f c h = grind arith
    still f false b c g h = plain f b c h
      where
        plain : (f b c : Bool) → ((not f && not b) && c) ≡ true → ((not f && true) && c) ≡ true
        plain f b c h = grind arith
less_done fd f a b (Adopting n) g h = h
less_done fd f a b Idle g h = h
less_done fd f a b Binding g h = h
less_done fd f a b (AddressInUse at) g h = h
less_done fd f a b AdoptionFailed g h = h

-- what isn't held, or isn't done now either, is used as before
used_still : (fd : ℕ) (f a b : Bool) (x : EndpointStatus) → a ≡ false → (is_in fd (held_of x) && b) ≡ false → uses fd f a x ≡ true → uses fd f b x ≡ true
used_still fd f a b (Holding n) e g h = still f b (n == fd) g (rw e at h)
  where
    still : (f b c : Bool) → ((c || false) && b) ≡ false → ((not f && true) && c) ≡ true → ((not f && not b) && c) ≡ true
    still f b c g h = grind arith
used_still fd f a b (Adopting n) e g h = h
used_still fd f a b Idle e g h = h
used_still fd f a b Binding e g h = h
used_still fd f a b (AddressInUse at) e g h = h
used_still fd f a b AdoptionFailed e g h = h

-- tests that agree on each of the table pick the same
same_picks : (f g : Open → Bool) (t : List Open) → ((n : ℕ) → is_in n (numbers_of_table (filter f t)) ≡ false) → (h : Open → Bool)
    → ((o : Open) → f o ≡ false → g o ≡ h o)
    → (filter g t ≡ filter h t) × (filter (λ o. not (g o)) t ≡ filter (λ o. not (h o)) t)
same_picks f g [] none h same = (refl, refl)
same_picks f g (o ∷ t) none h same = elim (cases_Bool (f o)) [
  | inl y ↦ absurd (first o.fd (numbers_of_table (filter f t)) (rw y at (none o.fd)))
  | inr n ↦ (let more = same_picks f g t (rw n at none) h same in let here = same o n in
      (both g h o t t here more.0, both (λ o. not (g o)) (λ o. not (h o)) o t t (ap not here) more.1))
]
  where
    first : (n : ℕ) (xs : List ℕ) → is_in n (n ∷ xs) ≡ false → ⊥
    first n xs h = clash (is_in n (n ∷ xs)) (or_left (n == n) (is_in n xs) (eq-eqb n n refl)) h

    both : (g h : Open → Bool) (o : Open) (t u : List Open) → g o ≡ h o → filter g t ≡ filter h u → filter g (o ∷ t) ≡ filter h (o ∷ u)
    both g h o t u here more = rw here (by_test (h o) o more)
      where
        by_test : (b : Bool) (o : Open) → filter g t ≡ filter h u → (if b then o ∷ filter g t else filter g t) ≡ (if b then o ∷ filter h u else filter h u)
        by_test true o e = ap (λ w. o ∷ w) e
        by_test false o e = e

module _ (p : Plan) (d : EndpointsData) (q : Record) (sized : IsEndpointsSized p d) (s i j : ℕ) (fit : fits_row p q (LoopEnded s i j) ≡ true)
    (stand : EndpointsStand p d q) where
  abbrev d2 : EndpointsData
  d2 = loop_ended d s i j

  abbrev x : LoopEnd
  x = record { service = s; endpoint = i; number = j }

  abbrev r : Record
  r = Got (LoopEnded s i j) ∷ q

  outer : (((has is_broadcast q && serves p q s) && is_endpoint p s i) ≡ true) × ((nat_lt j p.tasks && not (has (is_loop_end s i j) q)) ≡ true)
  outer = and_parts ((has is_broadcast q && serves p q s) && is_endpoint p s i) (nat_lt j p.tasks && not (has (is_loop_end s i j) q)) fit

  inner : ((has is_broadcast q && serves p q s) ≡ true) × (is_endpoint p s i ≡ true)
  inner = and_parts (has is_broadcast q && serves p q s) (is_endpoint p s i) outer.0

  lead : (has is_broadcast q ≡ true) × (serves p q s ≡ true)
  lead = and_parts (has is_broadcast q) (serves p q s) inner.0

  last : (nat_lt j p.tasks ≡ true) × (not (has (is_loop_end s i j) q) ≡ true)
  last = and_parts (nat_lt j p.tasks) (not (has (is_loop_end s i j) q)) outer.1

  place : (s < service_count p) × (i < length (endpoints p s))
  place = endpoint-inside p s i inner.1

  new : has (is_loop_end s i j) q ≡ false
  new = apart_from (has (is_loop_end s i j) q) last.1

  below : (a b : ℕ) → nat_lt a b ≡ true → a < b
  below a b h = grind arith

  -- not each loop of the endpoint had ended
  not_done : is_done p d s i ≡ false
  not_done = ap (λ n. n == p.tasks) (stand.loops.counts s i)
      ∙ ne_eqb (ended_loops p q s i) p.tasks (λ e. let less = ended-less p s i q j (below j p.tasks last.0) new in omega (arith, e, less))

  serving : ServesIn p d s i
  serving = let parts = and_parts (is_at_work p q s) (list_all (is_held p q s) (endpoint_numbers p s)) lead.1 in record {
    inside = place.0;
    within = place.1;
    free = stand.states.failed_is s place.0 ∙ apart_from (has_failed p q s) (and_parts (is_started q s) (not (has_failed p q s)) parts.0).1;
    held = λ k lt. sym (held-is p d q sized stand.kept stand.states s k place.0 lt) ∙ all_get (is_held p q s) (length (endpoints p s)) k lt parts.1;
  }

  again : (t k : ℕ) → ServesIn p d t k → ServesIn p d2 t k
  again t k h = record { inside = h.inside; within = h.within; free = h.free; held = h.held }

  loops : LoopsStand p d2 r
  loops = record {
    some_tasks = stand.loops.some_tasks;
    ends_are = λ t k n. has_loop-more d.loops x t k n ∙ ap (λ b. is_loop t k n x || b) (stand.loops.ends_are t k n);
    counts = λ t k. loop_count-more d.loops x t k
        ∙ counted (s == t && i == k) (nat_lt j p.tasks) (has (is_loop_end t k j) q) (loop_count d.loops t k) (ended_loops p q t k) last.0
        (λ e. at_here (λ t k. has (is_loop_end t k j) q ≡ false) s t i k new e) (stand.loops.counts t k);
    told = λ t k n h. lead.0;
    serve = λ t k n h. again t k (elim (or_cases (is_loop t k n x) (has_loop d.loops t k n) (sym (has_loop-more d.loops x t k n) ∙ h)) [
      | inl here ↦ at_here (λ t k. ServesIn p d t k) s t i k serving (and_parts (s == t && i == k) (j == n) here).0
      | inr before ↦ stand.loops.serve t k n before
    ]);
  }

  states : StatesStand p d2 r
  states = let was = stand.states in
      record { each = was.each; counts = was.counts; failed_is = was.failed_is; with_is = was.with_is; lost = was.lost; closed_came = was.closed_came }

  kept : StatesKept p d2
  kept = let was = stand.kept in
      record {
        asking_free = was.asking_free;
        turn = was.turn;
        live = λ early t k f h. absurd (not_empty d.loops x early);
        one = was.one;
        distinct = was.distinct;
      }

  done_still : (t k : ℕ) → is_done p d t k ≡ true → is_done p d2 t k ≡ true
  done_still t k h = elim (cases_Bool (s == t && i == k)) [
    | inl y ↦ absurd (clash (is_done p d t k) h (at_here (λ t k. is_done p d t k ≡ false) s t i k not_done y))
    | inr n ↦ (let same : loop_count d2.loops t k ≡ loop_count d.loops t k = loop_count-more d.loops x t k ∙ (rw n refl) in ap (λ m. m == p.tasks) same ∙ h)
  ]

  -- what is drained stays so
  drained : (fd : ℕ) → is_drained p q fd ≡ true → is_drained p r fd ≡ true
  drained fd h = drained-is p d2 r states loops fd ∙ drained-grows p d d2 fd (λ t k holds done. holds)
      (λ t k inside within u. less_done fd (failed_at d t) (is_done p d t k) (is_done p d2 t k) (last_at d t k) (done_still t k) u)
      (sym (drained-is p d q stand.states stand.loops fd) ∙ h)

  closed_now : (fd : ℕ) → is_opened p r fd ≡ true → has (is_close fd) q ≡ is_gone p q fd
  closed_now fd came = closed-is p q fd stand.closes_once (stand.closes fd (sym (opened_is-event p q (LoopEnded s i j) refl fd) ∙ came))

  answered : Answered p d2 r
  answered = record {
    states = states;
    loops = loops;
    kept = kept;
    asks_due = (refl, stand.asks_due);
    asks_known = (refl, stand.asks_known);
    closes_once = (refl, stand.closes_once);
    fails = fails-same p q (LoopEnded s i j) (λ t. refl) stand.fails;
    closed_gone =
        λ fd came closed. gone-grows p q r (λ t h. h) fd (turned-event p q (LoopEnded s i j) refl fd) (place-event p q (LoopEnded s i j) refl fd) (λ held. held)
        (drained fd) (sym (closed_now fd came) ∙ closed);
    turned_closed =
        λ fd came turned. closed_now fd came
        ∙ or_left (is_gone_now p q fd) (is_drained p q fd) (or_left (is_turned p q fd) _ (sym (turned-event p q (LoopEnded s i j) refl fd) ∙ turned));
    open_are = stand.open_are ∙ ap ascending (sym (numbers-event p q (LoopEnded s i j) refl));
    came_are = stand.came_are;
    came_apart = stand.came_apart;
  }

  none_gone : (keep : List ℕ) → AreOnOffer p keep q → (n : ℕ) → is_in n (gone_numbers p keep d d.table) ≡ false
  none_gone keep offer n = none-gone-before p d q stand keep offer n

  -- of what was used, nothing but the endpoint's descriptor is drained now, and that where each of its loops has ended
  drained_there : (fd : ℕ) → is_drained_by p d fd ≡ false → is_drained_by p d2 fd ≡ drains_at p d2 s i fd
  drained_there fd was = elim (cases_Bool (is_in fd (held_of (last_at d s i)) && is_done p d2 s i)) [
    | inl y ↦ (let parts = and_parts (is_in fd (held_of (last_at d s i))) (is_done p d2 s i) y in rw (parts.0, parts.1) refl)
    | inr n ↦ not_drained n ∙ sym (none (is_in fd (held_of (last_at d s i))) (is_done p d2 s i) (is_drained_by p d2 fd) n)
  ]
    where
      none : (a b c : Bool) → (a && b) ≡ false → (a && (b && c)) ≡ false
      none a b c h = grind arith

      used : (t k : ℕ) → (is_in fd (held_of (last_at d s i)) && is_done p d2 s i) ≡ false → is_user p d fd t k ≡ true → is_user p d2 fd t k ≡ true
      used t k n u = elim (cases_Bool (s == t && i == k)) [
        | inl y ↦ at_here (λ t k. is_user p d fd t k ≡ true → is_user p d2 fd t k ≡ true) s t i k
            (used_still fd (failed_at d s) (is_done p d s i) (is_done p d2 s i) (last_at d s i) not_done n) y u
        | inr m ↦ (let same : loop_count d2.loops t k ≡ loop_count d.loops t k = loop_count-more d.loops x t k ∙ (rw m refl) in
            subst (λ (c : ℕ). uses fd (failed_at d t) (c == p.tasks) (last_at d t k) ≡ true) (sym same) u)
      ]

      not_drained : (is_in fd (held_of (last_at d s i)) && is_done p d2 s i) ≡ false → is_drained_by p d2 fd ≡ false
      not_drained n = elim (cases_Bool (is_drained_by p d2 fd)) [
        | inl y ↦ absurd (clash (is_drained_by p d fd) (drained-grows p d2 d fd (λ t k holds done. holds) (λ t k inside within u. used t k n u) y) was)
        | inr m ↦ m
      ]

  -- so what is closed is what goes
  same-goes : (keep : List ℕ) → AreOnOffer p keep q
      → (filter (goes p keep d2) d.table ≡ filter (λ (o : Open). drains_at p d2 s i o.fd) d.table)
      × (filter (λ (o : Open). not (goes p keep d2 o)) d.table ≡ filter (λ (o : Open). not (drains_at p d2 s i o.fd)) d.table)
  same-goes keep offer = same_picks (goes p keep d) (goes p keep d2) d.table (none_gone keep offer) (λ (o : Open). drains_at p d2 s i o.fd)
      (λ o f. (let parts = or_parts (is_done_for p d.failed keep o) (is_drained_by p d o.fd) f in rw parts.0 (drained_there o.fd parts.1)))
    where
      or_parts : (a b : Bool) → (a || b) ≡ false → (a ≡ false) × (b ≡ false)
      or_parts true b h = absurd (cc)
      or_parts false b h = (refl, h)

  stands-ended : (keep : List ℕ) → AreOnOffer p keep q → EndpointsStand p (cleared p keep d2) (tell r (map Close (gone_numbers p keep d2 d2.table)))
  stands-ended keep offer = stands-cleared p keep d2 r offer answered

-- what is told, and how much
module _ (p : Plan) (d mid new : EndpointsData) (s i j : ℕ) (keep closed : List ℕ) (before after : List Action) (is : mid ≡ loop_ended d s i j)
    (left : new ≡ closed_out closed mid) (appended : after ≡ before ++ map Close (numbers_among closed mid.table)) where
  abbrev made : EndpointsData
  made = loop_ended d s i j

  new_is : new ≡ closed_out closed made
  new_is = left ∙ ap (closed_out closed) is

  told_is : after ≡ before ++ map Close (numbers_among closed made.table)
  told_is = appended ∙ ap (λ (m : EndpointsData). before ++ map Close (numbers_among closed m.table)) is

  pub tells-ended : IsEndpointsSized p d → ((fd : ℕ) → is_in fd (open_numbers mid) ≡ true → is_in fd closed ≡ drains_at p mid s i fd)
      → Tells before after
      (λ told. IsGivingUp told
      × ((q : Record) → fits_row p q (LoopEnded s i j) ≡ true → AreOnOffer p keep q → EndpointsStand p d q
      → EndpointsStand p new (tell (Got (LoopEnded s i j) ∷ q) told)))
  tells-ended sized drained = record {
    told = map Close (numbers_among closed made.table);
    appended = told_is;
    kept = (giving-closes (numbers_among closed made.table), λ q fit offer stand. stands q fit offer stand);
  }
    where
      exactly : (fd : ℕ) → is_in fd (numbers_of_table d.table) ≡ true → is_in fd closed ≡ drains_at p made s i fd
      exactly = subst (λ (m : EndpointsData). (fd : ℕ) → is_in fd (open_numbers m) ≡ true → is_in fd closed ≡ drains_at p m s i fd) is drained

      stands : (q : Record) → fits_row p q (LoopEnded s i j) ≡ true → AreOnOffer p keep q → EndpointsStand p d q
          → EndpointsStand p new (tell (Got (LoopEnded s i j) ∷ q) (map Close (numbers_among closed made.table)))
      stands q fit offer stand =
          let same = same-goes p d q sized s i j fit stand keep offer in
          let kept = filter-live (λ (o : Open). not (is_in o.fd closed)) (λ (o : Open). not (drains_at p made s i o.fd)) d.table
          (λ o live. ap not (exactly o.fd live)) in
          let gone = filter-live (λ (o : Open). is_in o.fd closed) (λ (o : Open). drains_at p made s i o.fd) d.table (λ o live. exactly o.fd live) in
          let table : cleared p keep made ≡ new = ap (λ (t : List Open). record made { table = t }) (same.1 ∙ sym kept) ∙ sym new_is in
          let told : gone_numbers p keep made made.table ≡ numbers_among closed made.table = ap numbers_of_table (same.0 ∙ sym gone) in
          subst (λ (m : EndpointsData). EndpointsStand p m (tell (Got (LoopEnded s i j) ∷ q) (map Close (numbers_among closed made.table)))) table
          (subst (λ (ns : List ℕ). EndpointsStand p (cleared p keep made) (tell (Got (LoopEnded s i j) ∷ q) (map Close ns))) told
          (stands-ended p d q sized s i j fit stand keep offer))

  pub few-ended : length after + length new.table ≤ length before + length d.table
  few-ended =
      let few = picked-length (λ (o : Open). is_in o.fd closed) d.table in
      let told = ap length told_is ∙ length-append before (map Close (numbers_among closed made.table)) in
      let closes = length-map (numbers_among closed made.table) Close in
      let rest = ap (λ (m : EndpointsData). length m.table) new_is in
      omega (arith, few, told, closes, rest)

-- which services serve, and which of their endpoints accept, by the states
module _ (p : Plan) (d : EndpointsData) (q : Record) (sized : IsEndpointsSized p d) (s : ℕ) (on : Bool) (inside : s < service_count p)
    (begun : on ≡ is_started q s) (stand : EndpointsStand p d q) where
  serves_same : serves_by p d on s ≡ serves p q s
  serves_same = ap (λ b. (b && not (failed_at d s)) && list_all (λ k. is_holding (last_at d s k)) (endpoint_numbers p s)) begun
      ∙ ap (λ b. (is_started q s && not b) && list_all (λ k. is_holding (last_at d s k)) (endpoint_numbers p s)) (stand.states.failed_is s inside)
      ∙ ap (λ b. is_at_work p q s && b) (all-same (λ k. is_holding (last_at d s k)) (is_held p q s) 0 (length (endpoints p s))
      (λ k lt. sym (held-is p d q sized stand.kept stand.states s k inside (omega (arith, lt)))))

  pub accepts-is : (i : ℕ) → accepts_by p d on s i ≡ accepts p q s i
  accepts-is i = ap (λ b. (b && is_endpoint p s i) && not (is_done p d s i)) serves_same
      ∙ ap (λ (n : ℕ). (serves p q s && is_endpoint p s i) && not (n == p.tasks)) (stand.loops.counts s i)

  pub accept-fits : (i : ℕ) (a b : Bool) → a ≡ serves_by p d on s → (a ≡ true → b ≡ (is_endpoint p s i && not (is_done p d s i))) → (a ≡ false → b ≡ false)
      → b ≡ accepts p q s i
  accept-fits i true b e f g = f refl ∙ ap (λ c. (c && is_endpoint p s i) && not (is_done p d s i)) e ∙ accepts-is i
  accept-fits i false b e f g = g refl ∙ ap (λ c. (c && is_endpoint p s i) && not (is_done p d s i)) e ∙ accepts-is i

-- which loops may end, by the states
module _ (p : Plan) (d : EndpointsData) (q : Record) (sized : IsEndpointsSized p d) (s i j : ℕ) (on : Bool) (inside : s < service_count p)
    (begun : on ≡ is_started q s) (stand : EndpointsStand p d q) where
  whole : (serves_by p d on s && (is_endpoint p s i && (nat_lt j p.tasks && not (has_loop d.loops s i j))))
      ≡ ((serves p q s && is_endpoint p s i) && (nat_lt j p.tasks && not (has (is_loop_end s i j) q)))
  whole = ap (λ b. b && (is_endpoint p s i && (nat_lt j p.tasks && not (has_loop d.loops s i j)))) (serves_same p d q sized s on inside begun stand)
      ∙ ap (λ b. serves p q s && (is_endpoint p s i && (nat_lt j p.tasks && not b))) (stand.loops.ends_are s i j)
      ∙ apart (serves p q s) (is_endpoint p s i) (nat_lt j p.tasks && not (has (is_loop_end s i j) q))
    where
      apart : (a b c : Bool) → (a && (b && c)) ≡ ((a && b) && c)
      apart a b c = grind arith

  pub loop-fits : (a b : Bool) → a ≡ serves_by p d on s → (a ≡ true → b ≡ (is_endpoint p s i && (nat_lt j p.tasks && not (has_loop d.loops s i j))))
      → (a ≡ false → b ≡ false)
      → b ≡ ((serves p q s && is_endpoint p s i) && (nat_lt j p.tasks && not (has (is_loop_end s i j) q)))
  loop-fits true b e f g = f refl ∙ ap (λ b. b && (is_endpoint p s i && (nat_lt j p.tasks && not (has_loop d.loops s i j)))) e ∙ whole
  loop-fits false b e f g = g refl ∙ ap (λ b. b && (is_endpoint p s i && (nat_lt j p.tasks && not (has_loop d.loops s i j)))) e ∙ whole

-- the service serves where no endpoint of it is missing
pub serves-first : (p : Plan) (d : EndpointsData) (s : ℕ) (on : Bool) (j n : ℕ) → on ≡ true → failed_at d s ≡ false → n ≡ length (endpoints p s)
    → (j < length (endpoints p s) → is_holding (last_at d s j) ≡ false) → ((k : ℕ) → k < j → is_holding (last_at d s k) ≡ true)
    → nat_le n j ≡ serves_by p d on s
serves-first p d s on j n begun free e missing earlier = elim (cases_lt j (length (endpoints p s))) [
  | inl lt ↦ le_false n j (omega (arith, e, lt)) ∙ sym (rw (begun, free) (fails0 (λ k. is_holding (last_at d s k)) (length (endpoints p s)) j lt (missing lt)))
  | inr ge ↦ le_true n j (omega (arith, e, ge))
      ∙ sym (rw (begun, free) (all0 (λ k. is_holding (last_at d s k)) (length (endpoints p s)) (λ k lt. earlier k (omega (arith, lt, ge)))))
]
  where
    le_false : (a b : ℕ) → b < a → nat_le a b ≡ false
    le_false a b h = grind arith

    le_true : (a b : ℕ) → a ≤ b → nat_le a b ≡ true
    le_true a b h = grind arith
