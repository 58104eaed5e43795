-- What each answer leaves, with what is told after it.
use Rattle.std.proofs.Common.{ℕ, Bool, true, false, ◌||◌, ◌&&◌, ◌==◌, List, [], ◌∷◌, ◌++◌, ◌≡◌, refl, ap, sym, ◌∙◌, subst, arith, ◌<◌, ◌≤◌, ◌+◌, length, length-append, map, slice_index_or, Option, None}
use Rattle.std.specs.Option.{option_to_list}
use Rattle.std.proofs.lemmas.List.{append-nil, length-map}
use Rattle.std.proofs.lemmas.Bool.{or_left, or_right, eq-eqb}
use Rattle.svc_record.specs.declared.plan.Plan.{Plan}
use Rattle.svc_record.specs.declared.entry.Entry.TheVariants.{Got, Told}
use Rattle.svc_record.specs.declared.action.Action.{Action}
use Rattle.svc_record.specs.declared.action.Action.TheVariants.{Fail, Close}
use Rattle.svc_record.specs.declared.event.Event.{Event}
use Rattle.svc_record.specs.declared.event.Event.TheVariants.{InUse, BindFailed, Adopted, AdoptFailed}
use Rattle.svc_record.specs.Record.{Record, has, now, tell}
use Rattle.svc_record.specs.Plans.{service_count, endpoints}
use Rattle.svc_record.specs.Descriptors.{descriptors_of, numbers_of, is_close, is_opened}
use Rattle.svc_record.specs.Closes.{is_gone, is_drained}
use Rattle.svc_base.specs.Items.{list_of, spare}
use Rattle.svc_base.specs.NumberSets.{ascending, distinct, is_in}
use Rattle.svc_record.specs.Failed.{has_failed}
use Rattle.svc_record.specs.Offer.{is_held_back}
use Rattle.svc_record.specs.Tail.{numbers_in}
use Rattle.svc_record.specs.Told.{Tells, IsGivingUp}
use Rattle.svc_endpoints.specs.declared.states.EndpointStatus.{EndpointStatus}
use Rattle.svc_endpoints.specs.declared.states.EndpointStatus.TheVariants.{Idle, Binding, AddressInUse, Adopting, Holding, AdoptionFailed}
use Rattle.svc_endpoints.specs.declared.states.EndpointState.{EndpointState}
use Rattle.svc_endpoints.specs.EndpointsData.{EndpointsData}
use Rattle.svc_endpoints.specs.EndpointsState.{IsEndpointsSized, AreOnOffer, LoopsStand, StatesKept, StatesStand, EndpointsStand, last_at, failed_at, times_in_use_at, is_asking, is_done, is_binding, is_adopting, fd_of, numbers_of_table}
use Rattle.svc_endpoints.specs.Effects.{fail_if, put, is_last_refusal, refused, bind_failed, adopt_failed, adopted, held_now, cleared, cleared_if, given_up, given_up_if, gone_numbers, goes}
use Rattle.svc_endpoints.specs.Failing.{ClosesOwn, ClosesOwnIf, HasOwnLive, goes_among, left_among, gone_among}
use Rattle.svc_endpoints.specs.Uses.{uses, is_drained_by}
use Rattle.svc_endpoints.proofs.FailedLemmas.{failed-bind_failed, failed-adopt_failed, failed-in_use}
use Rattle.svc_endpoints.proofs.StatesLemmas.{stands-bind_failed, stands-adopt_failed, stands-adopted, stands-refused, last_refusal-is, table-fail, failed_at-fail}
use Rattle.svc_endpoints.proofs.KeptLemmas.{asking_not_holding, adopting_asks, kept-refused, kept-bind_failed, kept-adopt_failed, kept-adopted, asks_free_binding, asks_free_adopting}
use Rattle.svc_endpoints.proofs.OneLemmas.{binding_asks}
use Rattle.svc_endpoints.proofs.GoneLemmas.{is_any_loop_end, is_turned, is_gone_now, loops-told, loops-got, closed-is}
use Rattle.svc_endpoints.proofs.UseLemmas.{drained-is}
use Rattle.svc_base.proofs.Logic.{clash, false_where, lt_true}
use Rattle.svc_endpoints.proofs.ChangeLemmas.{Changed, loops-changed, drained-fails, drained-same, changed-not_done, changed-put, put-here, binding-unused}
use Rattle.svc_endpoints.proofs.GrowLemmas.{failed-grows, gone-grows}
use Rattle.svc_endpoints.proofs.FailLemmas.{fails-up}
use Rattle.svc_endpoints.proofs.EventLemmas.{opened_is-event, numbers-event, place-event, turned-event, stand-event}
use Rattle.svc_endpoints.proofs.ClearLemmas.{Answered, stands-cleared}
use Rattle.svc_endpoints.proofs.RestLemmas.{picked-length}
use Rattle.svc_endpoints.proofs.OwnLemmas.{own-left, own-gone}

-- what only gives up and closes
pub giving-closes : (ns : List ℕ) → IsGivingUp (map Close ns)
giving-closes [] = tt
giving-closes (n ∷ ns) = giving-closes ns

-- how much is told
pub cleared-few : (p : Plan) (keep : List ℕ) (d : EndpointsData)
    → length (map Close (gone_numbers p keep d d.table)) + length (cleared p keep d).table ≡ length d.table
cleared-few p keep d = let h = picked-length (goes p keep d) d.table in let g = length_closes (gone_numbers p keep d d.table) in omega (arith, h, g)
  where
    length_closes : (ns : List ℕ) → length (map Close ns) ≡ length ns
    length_closes [] = refl
    length_closes (n ∷ ns) = let h = length_closes ns in omega (arith, h)

-- an answer by which the service fails
module _ (p : Plan) (d d2 : EndpointsData) (q : Record) (e : Event) (s i : ℕ) (going : is_any_loop_end e ≡ false) (opens : descriptors_of p (Got e) ≡ [])
    (brings : numbers_of (Got e) ≡ [])
    (same_offer : (fd : ℕ) → is_held_back p (Got e ∷ q) fd ≡ is_held_back p q fd) (step : (t : ℕ) → has_failed p (Got e ∷ q) t ≡ (has_failed p q t || (s == t)))
    (inside : s < service_count p) (free : has_failed p q s ≡ false)
    (states : StatesStand p d2 (Got e ∷ q)) (kept : StatesKept p d2) (changed : Changed p d d2 s i) (table : d2.table ≡ d.table) (came : d2.came ≡ d.came)
    (keep : List ℕ) (offer : AreOnOffer p keep q) (stand : EndpointsStand p d q) where
  grows : (t : ℕ) → has_failed p q t ≡ true → has_failed p (Told (Fail s) ∷ Got e ∷ q) t ≡ true
  grows t h = failed-grows p (Got e ∷ q) (Told (Fail s)) t (failed-grows p q (Got e) t h)

  before : (fd : ℕ) → is_opened p (Told (Fail s) ∷ Got e ∷ q) fd ≡ true → is_opened p q fd ≡ true
  before fd came_up = sym (opened_is-event p q e opens fd) ∙ came_up

  closed_now : (fd : ℕ) → is_opened p q fd ≡ true → has (is_close fd) q ≡ is_gone p q fd
  closed_now fd came_up = closed-is p q fd stand.closes_once (stand.closes fd came_up)

  now_states : StatesStand p d2 (Told (Fail s) ∷ Got e ∷ q)
  now_states =
      record {
        each = states.each;
        counts = states.counts;
        failed_is = states.failed_is;
        with_is = states.with_is;
        lost = states.lost;
        closed_came = states.closed_came;
      }

  now_loops : LoopsStand p d2 (Told (Fail s) ∷ Got e ∷ q)
  now_loops = loops-told p d2 (Got e ∷ q) (Fail s) (loops-got p d2 q e going (loops-changed p d d2 s i changed q stand.loops))

  -- what is drained stays so
  drained : (fd : ℕ) → is_drained p q fd ≡ true → is_drained p (Told (Fail s) ∷ Got e ∷ q) fd ≡ true
  drained fd h = drained-is p d2 (Told (Fail s) ∷ Got e ∷ q) now_states now_loops fd ∙ drained-fails p d d2 s i changed q stand.loops fd bad
      (λ k. false_where (is_asking (last_at d2 s k)) (λ y. clash (failed_at d2 s) bad (kept.asking_free s k y)))
      (sym (drained-is p d q stand.states stand.loops fd) ∙ h)
    where
      or_here : (b : Bool) → (b || (s == s)) ≡ true
      or_here b = or_right b (s == s) (eq-eqb s s refl)

      bad : failed_at d2 s ≡ true
      bad = states.failed_is s inside ∙ step s ∙ or_here (has_failed p q s)

  answered : Answered p d2 (Told (Fail s) ∷ Got e ∷ q)
  answered = record {
    states = now_states;
    loops = now_loops;
    kept = kept;
    asks_due = (refl, (refl, stand.asks_due));
    asks_known = (lt_true s (service_count p) inside, (refl, stand.asks_known));
    closes_once = (refl, (refl, stand.closes_once));
    fails = fails-up p q e s step free stand.fails;
    closed_gone =
        λ fd came_up closed. gone-grows p q (Told (Fail s) ∷ Got e ∷ q) grows fd (turned-event p q e opens fd) (place-event p q e opens fd)
        (λ held. sym (same_offer fd) ∙ held) (drained fd) (sym (closed_now fd (before fd came_up)) ∙ closed);
    turned_closed = λ fd came_up turned. closed_now fd (before fd came_up)
        ∙ or_left (is_gone_now p q fd) (is_drained p q fd) (or_left (is_turned p q fd) _ (sym (turned-event p q e opens fd) ∙ turned));
    open_are = ap numbers_of_table table ∙ stand.open_are ∙ ap ascending (sym (numbers-event p q e opens));
    came_are = came ∙ stand.came_are ∙ ap (λ w. ascending (w ++ numbers_in q)) (sym brings);
    came_apart = ap (λ w. distinct (w ++ numbers_in q)) brings ∙ stand.came_apart;
  }

  pub fail-stands : EndpointsStand p (cleared p keep d2) (tell (Got e ∷ q) (given_up p s keep d2))
  fail-stands = stands-cleared p keep d2 (Told (Fail s) ∷ Got e ∷ q) (λ fd. offer fd ∙ sym (same_offer fd)) answered

came-fail : (b : Bool) (s : ℕ) (d : EndpointsData) → (fail_if b s d).came ≡ d.came
came-fail true s d = refl
came-fail false s d = refl

module _ (p : Plan) (d : EndpointsData) (q : Record) (s i : ℕ) (sized : IsEndpointsSized p d) (inside : s < service_count p)
    (within : i < length (endpoints p s)) (keep : List ℕ) (offer : AreOnOffer p keep q) (stand : EndpointsStand p d q) where
  free_binding : is_binding (last_at d s i) ≡ true → failed_at d s ≡ false
  free_binding b = asks_free_binding p d s i sized inside within stand.kept b

  free_adopting : is_adopting (last_at d s i) ≡ true → failed_at d s ≡ false
  free_adopting a = asks_free_adopting p d s i sized inside within stand.kept a

  not_failed : failed_at d s ≡ false → has_failed p q s ≡ false
  not_failed free = sym (stand.states.failed_is s inside) ∙ free

  in_rows : s < length d.rows
  in_rows = omega (arith, sized.services)

  in_row : i < length (slice_index_or d.rows s [])
  in_row = omega (arith, sized.each s inside)

  in_failed : s < length d.failed
  in_failed = omega (arith, sized.failed)

  -- only this endpoint changed, whose ask was open
  changed : (b : Bool) (x : EndpointState) → is_asking (last_at d s i) ≡ true → Changed p d (fail_if b s (put d s i x)) s i
  changed b x asks = changed-put p d s i b x in_rows in_row in_failed within (asking_not_holding (last_at d s i) asks)

  pub after-bind_failed : is_binding (last_at d s i) ≡ true
      → EndpointsStand p (cleared p keep (bind_failed d s i)) (tell (Got (BindFailed s i) ∷ q) (given_up p s keep (bind_failed d s i)))
  after-bind_failed b =
      fail-stands p d (bind_failed d s i) q (BindFailed s i) s i refl refl refl (λ fd. refl) (failed-bind_failed p q s i within) inside
      (not_failed (free_binding b))
      (stands-bind_failed p d q s i sized inside within stand.states b (free_binding b)) (kept-bind_failed p d s i sized inside within stand.kept b)
      (changed true (record { last = Idle; times_in_use = times_in_use_at d s i }) (binding_asks (last_at d s i) b)) refl refl keep offer stand

  pub after-adopt_failed : is_adopting (last_at d s i) ≡ true
      → EndpointsStand p (cleared p keep (adopt_failed d s i)) (tell (Got (AdoptFailed s i) ∷ q) (given_up p s keep (adopt_failed d s i)))
  after-adopt_failed a =
      fail-stands p d (adopt_failed d s i) q (AdoptFailed s i) s i refl refl refl (λ fd. refl) (failed-adopt_failed p q s i within) inside
      (not_failed (free_adopting a))
      (stands-adopt_failed p d q s i sized inside within stand.states a (free_adopting a)) (kept-adopt_failed p d s i sized inside within stand.kept a)
      (changed true (record { last = AdoptionFailed; times_in_use = times_in_use_at d s i }) (adopting_asks (last_at d s i) a)) refl refl keep offer stand

  -- the last answer that the address is in use, or an earlier one
  pub after-in_use : (moment : ℕ) → moment ≡ now q → is_binding (last_at d s i) ≡ true → (b : Bool) → is_last_refusal p d s i ≡ b
      → EndpointsStand p (cleared_if b p keep (refused p d s i moment)) (tell (Got (InUse s i) ∷ q) (given_up_if b p s keep (refused p d s i moment)))
  after-in_use moment at x true e = fail-stands p d (refused p d s i moment) q (InUse s i) s i refl refl refl (λ fd. refl)
      (λ t. failed-in_use p q s i within t
      ∙ ap (λ l. has_failed p q t || ((s == t) && l)) (sym (last_refusal-is p d q s i sized inside within stand.states (free_binding x)) ∙ e)
      ∙ and_true (has_failed p q t) (s == t))
      inside (not_failed (free_binding x))
      (stands-refused p d q s i sized inside within stand.states moment at x (free_binding x)) (kept-refused p d s i sized inside within stand.kept moment x)
      (changed (is_last_refusal p d s i) _ (binding_asks (last_at d s i) x))
      (table-fail (is_last_refusal p d s i) s (put d s i _)) (came-fail (is_last_refusal p d s i) s (put d s i _)) keep offer stand
    where
      and_true : (a b : Bool) → (a || (b && true)) ≡ (a || b)
      and_true a b = grind arith
  after-in_use moment at x false e = stand-event p d (refused p d s i moment) q (InUse s i) refl refl refl
      (λ t. failed-in_use p q s i within t
      ∙ ap (λ l. has_failed p q t || ((s == t) && l)) (sym (last_refusal-is p d q s i sized inside within stand.states (free_binding x)) ∙ e)
      ∙ and_false (has_failed p q t) (s == t)) (λ fd. refl) drained
      (stands-refused p d q s i sized inside within stand.states moment at x (free_binding x))
      (loops-changed p d (refused p d s i moment) s i only q stand.loops) (kept-refused p d s i sized inside within stand.kept moment x)
      (table-fail (is_last_refusal p d s i) s (put d s i _)) (came-fail (is_last_refusal p d s i) s (put d s i _)) stand
    where
      and_false : (a b : Bool) → (a || (b && false)) ≡ a
      and_false a b = grind arith

      only : Changed p d (refused p d s i moment) s i
      only = changed (is_last_refusal p d s i) _ (binding_asks (last_at d s i) x)

      same_flag : failed_at (refused p d s i moment) s ≡ failed_at d s
      same_flag = failed_at-fail p (put d s i _) s (is_last_refusal p d s i) in_failed s ∙ ap (λ l. failed_at d s || ((s == s) && l)) e
          ∙ and_false (failed_at d s) (s == s)

      drained : (fd : ℕ) → is_drained_by p (refused p d s i moment) fd ≡ is_drained_by p d fd
      drained fd = drained-same p d (refused p d s i moment) s i only q stand.loops fd same_flag
          (ap (uses fd (failed_at d s) (is_done p d s i)) (put-here p d s i (is_last_refusal p d s i) _ in_rows in_row)
          ∙ sym (binding-unused fd (failed_at d s) (is_done p d s i) (last_at d s i) x))

-- what is offered is used as it is when it is held
adopted_uses : (fd : ℕ) (f d : Bool) (x : EndpointStatus) → f ≡ false → d ≡ false → uses fd f d (held_now x) ≡ uses fd f d x
adopted_uses fd f d (Adopting n) e h = rw (e, h) refl
adopted_uses fd f d (Holding n) e h = refl
adopted_uses fd f d Idle e h = refl
adopted_uses fd f d Binding e h = refl
adopted_uses fd f d (AddressInUse at) e h = refl
adopted_uses fd f d AdoptionFailed e h = refl

pub after-adopted : (p : Plan) (d : EndpointsData) (q : Record) (s i : ℕ) → IsEndpointsSized p d → s < service_count p → i < length (endpoints p s)
    → EndpointsStand p d q → is_adopting (last_at d s i) ≡ true
    → EndpointsStand p (adopted d s i) (Got (Adopted s i) ∷ q)
after-adopted p d q s i sized inside within stand a = stand-event p d (adopted d s i) q (Adopted s i) refl refl refl (λ t. refl) (λ fd. refl) drained
    (stands-adopted p d q s i sized inside within stand.states a (asks_free_adopting p d s i sized inside within stand.kept a))
    (loops-changed p d (adopted d s i) s i only q stand.loops) (kept-adopted p d s i sized inside within stand.kept a) refl refl stand
  where
    in_rows : s < length d.rows
    in_rows = omega (arith, sized.services)

    in_row : i < length (slice_index_or d.rows s [])
    in_row = omega (arith, sized.each s inside)

    only : Changed p d (adopted d s i) s i
    only = changed-put p d s i false (record { last = held_now (last_at d s i); times_in_use = times_in_use_at d s i }) in_rows in_row
        (omega (arith, sized.failed)) within (asking_not_holding (last_at d s i) (adopting_asks (last_at d s i) a))

    drained : (fd : ℕ) → is_drained_by p (adopted d s i) fd ≡ is_drained_by p d fd
    drained fd = drained-same p d (adopted d s i) s i only q stand.loops fd refl
        (ap (uses fd (failed_at d s) (is_done p d s i))
        (put-here p d s i false (record { last = held_now (last_at d s i); times_in_use = times_in_use_at d s i }) in_rows in_row)
        ∙ adopted_uses fd (failed_at d s) (is_done p d s i) (last_at d s i) (asks_free_adopting p d s i sized inside within stand.kept a)
        (changed-not_done p d (adopted d s i) s i only q stand.loops fd i))

-- an answer by which a service fails, and what closes by it
module _ (p : Plan) (d mid made new : EndpointsData) (e : Event) (s i : ℕ) (offered : Option ℕ) (keep : List ℕ) (before after : List Action × ℕ)
    (is : made ≡ mid) (gives : ClosesOwn (Fail s ∷ []) p keep s offered made new before after) where
  abbrev told_now : List Action
  told_now = Fail s ∷ map Close (gone_among p keep gives.own mid)

  told_is : list_of after ≡ list_of before ++ told_now
  told_is = gives.told ∙ ap (λ (m : EndpointsData). list_of before ++ (Fail s ∷ map Close (gone_among p keep gives.own m))) is

  new_is : new ≡ left_among p keep gives.own mid
  new_is = gives.left ∙ ap (left_among p keep gives.own) is

  has_own : HasOwnLive p mid s offered gives.own
  has_own = subst (λ (m : EndpointsData). HasOwnLive p m s offered gives.own) is gives.has

  pub few-failed : mid.table ≡ d.table → length (list_of after) + length new.table ≤ length (list_of before) + length d.table + 2
  few-failed same =
      let few = picked-length (goes_among p keep mid gives.own) mid.table in
      let told = ap length told_is ∙ length-append (list_of before) told_now in
      let closes = length-map (gone_among p keep gives.own mid) Close in
      let rest = ap (λ (m : EndpointsData). length m.table) new_is in
      let old = ap length same in
      omega (arith, few, told, closes, rest, old)

  pub room-failed : mid.table ≡ d.table → spare before + length new.table ≤ spare after + length d.table + 2
  room-failed same =
      let room = gives.room in
      let old : length made.table ≡ length d.table = ap (λ (m : EndpointsData). length m.table) is ∙ ap length same in
      omega (arith, room, old)

  module _ (changed : Changed p d mid s i) (bad : failed_at mid s ≡ true) (table : mid.table ≡ d.table)
      (offers : (x : ℕ) → is_in x (fd_of (last_at d s i)) ≡ true → is_in x (option_to_list offered) ≡ true) where
    failed_now : (q : Record) → AreOnOffer p keep q → EndpointsStand p d q
        → EndpointsStand p (cleared p keep mid) (tell (Got e ∷ q) (given_up p s keep mid)) → EndpointsStand p new (tell (Got e ∷ q) told_now)
    failed_now q offer stand h =
        subst (λ (m : EndpointsData). EndpointsStand p m (tell (Got e ∷ q) told_now))
        (own-left p d mid s i offered keep gives.own changed bad table offers has_own q offer stand ∙ sym new_is)
        (subst (λ (ns : List ℕ). EndpointsStand p (cleared p keep mid) (tell (Got e ∷ q) (Fail s ∷ map Close ns)))
        (own-gone p d mid s i offered keep gives.own changed bad table offers has_own q offer stand) h)

    pub tells-failed : ((q : Record) → AreOnOffer p keep q → EndpointsStand p d q
        → EndpointsStand p (cleared p keep mid) (tell (Got e ∷ q) (given_up p s keep mid)))
        → Tells (list_of before) (list_of after)
        (λ told. IsGivingUp told × ((q : Record) → AreOnOffer p keep q → EndpointsStand p d q → EndpointsStand p new (tell (Got e ∷ q) told)))
    tells-failed h = record {
      told = told_now;
      appended = told_is;
      kept = (giving-closes (gone_among p keep gives.own mid), λ q offer stand. failed_now q offer stand (h q offer stand));
    }

    pub tells-failed_at : (moment : ℕ) → ((q : Record) → moment ≡ now q → AreOnOffer p keep q → EndpointsStand p d q
        → EndpointsStand p (cleared p keep mid) (tell (Got e ∷ q) (given_up p s keep mid)))
        → Tells (list_of before) (list_of after)
        (λ told. IsGivingUp told × ((q : Record) → moment ≡ now q → AreOnOffer p keep q → EndpointsStand p d q → EndpointsStand p new (tell (Got e ∷ q) told)))
    tells-failed_at moment h = record {
      told = told_now;
      appended = told_is;
      kept = (giving-closes (gone_among p keep gives.own mid), λ q at offer stand. failed_now q offer stand (h q at offer stand));
    }

-- an open ask changed, after which the service has failed
module _ (p : Plan) (d : EndpointsData) (s i : ℕ) (sized : IsEndpointsSized p d) (inside : s < service_count p) (within : i < length (endpoints p s)) where
  pub changed-ask : (b : Bool) (x : EndpointState) → is_asking (last_at d s i) ≡ true → Changed p d (fail_if b s (put d s i x)) s i
  changed-ask b x asks = changed-put p d s i b x (omega (arith, sized.services)) (omega (arith, sized.each s inside)) (omega (arith, sized.failed)) within
      (asking_not_holding (last_at d s i) asks)

  pub failed-ask : (b : Bool) (x : EndpointState) → b ≡ true → failed_at (fail_if b s (put d s i x)) s ≡ true
  failed-ask b x e = failed_at-fail p (put d s i x) s b (omega (arith, sized.failed)) s ∙ (rw (e, eq-eqb s s refl) (or_true (failed_at d s)))
    where
      or_true : (c : Bool) → (c || true) ≡ true
      or_true c = grind arith

-- a bind has and is offered nothing
pub binding-none : (x : EndpointStatus) (n : ℕ) (xs : List ℕ) → is_binding x ≡ true → is_in n (fd_of x) ≡ true → is_in n xs ≡ true
binding-none Binding n xs b h = absurd (cc)
binding-none Idle n xs b h = absurd (cc)
binding-none (AddressInUse at) n xs b h = absurd (cc)
binding-none (Adopting fd) n xs b h = absurd (cc)
binding-none (Holding fd) n xs b h = absurd (cc)
binding-none AdoptionFailed n xs b h = absurd (cc)

-- an answer that the endpoint's address is in use, by which the service fails where b says so
module _ (p : Plan) (d made new : EndpointsData) (s i moment : ℕ) (sized : IsEndpointsSized p d) (inside : s < service_count p)
    (within : i < length (endpoints p s)) (keep : List ℕ) (before after : List Action × ℕ) (is : made ≡ refused p d s i moment)
    (asks : is_binding (last_at d s i) ≡ true) where
  table_refused : (refused p d s i moment).table ≡ d.table
  table_refused = table-fail (is_last_refusal p d s i) s (put d s i _)

  pub few-refused : (b : Bool) → ClosesOwnIf b (Fail s ∷ []) p keep s None made new before after
      → length (list_of after) + length new.table ≤ length (list_of before) + length d.table + 2
  few-refused true gives = few-failed p d (refused p d s i moment) made new (InUse s i) s i None keep before after is gives table_refused
  few-refused false gives =
      let told = ap (λ (a : List Action × ℕ). length (list_of a)) gives.1 in
      let rest = ap (λ (m : EndpointsData). length m.table) (gives.0 ∙ is) ∙ ap length table_refused in
      omega (arith, told, rest)

  pub room-refused : (b : Bool) → ClosesOwnIf b (Fail s ∷ []) p keep s None made new before after
      → spare before + length new.table ≤ spare after + length d.table + 2
  room-refused true gives = room-failed p d (refused p d s i moment) made new (InUse s i) s i None keep before after is gives table_refused
  room-refused false gives =
      let room = ap (λ (a : List Action × ℕ). spare a) gives.1 in
      let rest = ap (λ (m : EndpointsData). length m.table) (gives.0 ∙ is) ∙ ap length table_refused in
      omega (arith, room, rest)

  pub tells-refused : (b : Bool) → is_last_refusal p d s i ≡ b → ClosesOwnIf b (Fail s ∷ []) p keep s None made new before after
      → Tells (list_of before) (list_of after)
      (λ told. IsGivingUp told
      × ((q : Record) → moment ≡ now q → AreOnOffer p keep q → EndpointsStand p d q → EndpointsStand p new (tell (Got (InUse s i) ∷ q) told)))
  tells-refused true e gives =
      tells-failed_at p d (refused p d s i moment) made new (InUse s i) s i None keep before after is gives
      (changed-ask p d s i sized inside within (is_last_refusal p d s i) _ (binding_asks (last_at d s i) asks))
      (failed-ask p d s i sized inside within (is_last_refusal p d s i) _ e) table_refused (λ x h. binding-none (last_at d s i) x [] asks h) moment
      (λ q at offer stand. after-in_use p d q s i sized inside within keep offer stand moment at asks true e)
  tells-refused false e gives = record {
    told = [];
    appended = ap list_of gives.1 ∙ sym (append-nil (list_of before));
    kept = (
      tt,
      λ q at offer stand. subst (λ (m : EndpointsData). EndpointsStand p m (Got (InUse s i) ∷ q)) (sym (gives.0 ∙ is))
          (after-in_use p d q s i sized inside within keep offer stand moment at asks false e),
    );
  }

-- an answer that its address is in use leaves the table
pub table-refused : (p : Plan) (d : EndpointsData) (s i moment : ℕ) → (refused p d s i moment).table ≡ d.table
table-refused p d s i moment = table-fail (is_last_refusal p d s i) s (put d s i _)
