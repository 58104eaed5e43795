-- What is drained by the record is drained by the states, and what is drained stays so.
use Rattle.std.proofs.Common.{ℕ, Bool, true, false, ◌||◌, ◌&&◌, ◌==◌, not, inl, inr, List, [], ◌≡◌, refl, ap, sym, ◌∙◌, subst, arith, ◌<◌, length, nat_lt}
use Rattle.std.specs.List.{list_all, range_with_len}
use Rattle.std.proofs.lemmas.Bool.{cases_Bool, and_parts, and_from, or_cases, eqb-true}
use Rattle.svc_record.specs.declared.plan.Plan.{Plan}
use Rattle.svc_record.specs.Record.{Record, has}
use Rattle.svc_record.specs.Plans.{service_count, endpoints, endpoint_numbers, each_endpoint}
use Rattle.svc_record.specs.Asks.{is_adopt_open, last_adopt}
use Rattle.svc_record.specs.Failed.{has_failed}
use Rattle.svc_record.specs.Starts.{is_started}
use Rattle.svc_record.specs.Endpoints.{is_held, is_held_by, is_at_work, serves}
use Rattle.svc_record.specs.Closes.{is_drained, is_holder, is_adopt_of_open, is_broadcast, have_loops_ended}
use Rattle.svc_endpoints.specs.declared.states.EndpointStatus.{EndpointStatus}
use Rattle.svc_endpoints.specs.declared.states.EndpointStatus.TheVariants.{Idle, Binding, AddressInUse, Adopting, Holding, AdoptionFailed}
use Rattle.svc_endpoints.specs.EndpointsData.{EndpointsData}
use Rattle.svc_endpoints.specs.EndpointsState.{StandsAt, StatesStand, ServesIn, LoopsStand, last_at, failed_at, is_adopting, is_holding, is_touched, is_done, fd_of, held_of}
use Rattle.svc_base.specs.NumberSets.{is_in}
use Rattle.svc_endpoints.specs.Loops.{has_loop, loop_count}
use Rattle.svc_endpoints.specs.Uses.{has_offer, has_held, uses, is_holder_by, is_user, any_of, any_endpoint, is_drained_by}
use Rattle.svc_endpoints.proofs.RangeLemmas.{at0, get0, all0, fails0}
use Rattle.svc_endpoints.proofs.LoopLemmas.{some_loop}
use Rattle.svc_base.proofs.Logic.{clash, false_where}

pub or_none : (b : Bool) → b ≡ (b || false)
or_none b = grind arith

-- an endpoint of the plan that passes a test
pub any-at_endpoint : (p : Plan) (f : ℕ → ℕ → Bool) (s i : ℕ) → s < service_count p → i < length (endpoints p s) → f s i ≡ true → any_endpoint p f ≡ true
any-at_endpoint p f s i inside within h = at0 (any_of p f) (service_count p) s inside (at0 (f s) (length (endpoints p s)) i within h)

pub get-endpoint : (p : Plan) (f : ℕ → ℕ → Bool) → any_endpoint p f ≡ true
    → (s : ℕ) × (i : ℕ) × (s < service_count p) × (i < length (endpoints p s)) × (f s i ≡ true)
get-endpoint p f h =
    let some = get0 (any_of p f) (service_count p) h in
    let one = get0 (f some.0) (length (endpoints p some.0)) some.2 in
    (some.0, one.0, some.1, one.1, one.2)

pub all_get : (f : ℕ → Bool) (n s : ℕ) → s < n → list_all f (range_with_len 0 n) ≡ true → f s ≡ true
all_get f n s lt h = elim (cases_Bool (f s)) [
  | inl y ↦ y
  | inr m ↦ absurd (clash (list_all f (range_with_len 0 n)) h (fails0 f n s lt m))
]

-- one endpoint, from its state
offer_is : (fd : ℕ) (x : EndpointStatus) (adopting : Bool) (adopts : List ℕ) → is_adopting x ≡ adopting → (is_adopting x ≡ true → fd_of x ≡ adopts)
    → (adopting && is_in fd adopts) ≡ has_offer fd x
offer_is fd (Adopting n) adopting adopts e f = rw (← e, ← (f refl)) (sym (or_none (n == fd)))
offer_is fd Idle adopting adopts e f = rw (← e) refl
offer_is fd Binding adopting adopts e f = rw (← e) refl
offer_is fd (AddressInUse at) adopting adopts e f = rw (← e) refl
offer_is fd (Holding n) adopting adopts e f = rw (← e) refl
offer_is fd AdoptionFailed adopting adopts e f = rw (← e) refl

pub held_is : (fd : ℕ) (x : EndpointStatus) → is_in fd (held_of x) ≡ has_held fd x
held_is fd (Holding n) = sym (or_none (n == fd))
held_is fd Idle = refl
held_is fd Binding = refl
held_is fd (AddressInUse at) = refl
held_is fd (Adopting n) = refl
held_is fd AdoptionFailed = refl

offered_uses : (fd : ℕ) (f d : Bool) (x : EndpointStatus) → has_offer fd x ≡ true → uses fd f d x ≡ true
offered_uses fd f d (Adopting n) h = h
offered_uses fd f d Idle h = absurd (cc)
offered_uses fd f d Binding h = absurd (cc)
offered_uses fd f d (AddressInUse at) h = absurd (cc)
offered_uses fd f d (Holding n) h = absurd (cc)
offered_uses fd f d AdoptionFailed h = absurd (cc)

held_uses : (fd : ℕ) (f d : Bool) (x : EndpointStatus) → f ≡ false → has_held fd x ≡ true → d ≡ false → uses fd f d x ≡ true
held_uses fd f d (Holding n) e h g = rw (e, g) h
held_uses fd f d (Adopting n) e h g = absurd (cc)
held_uses fd f d Idle e h g = absurd (cc)
held_uses fd f d Binding e h g = absurd (cc)
held_uses fd f d (AddressInUse at) e h g = absurd (cc)
held_uses fd f d AdoptionFailed e h g = absurd (cc)

-- what uses it is offered it, or holds it and isn't done
uses_cases : (fd : ℕ) (f d : Bool) (x : EndpointStatus) → uses fd f d x ≡ true → (has_offer fd x || ((not f && has_held fd x) && not d)) ≡ true
uses_cases fd f d (Adopting n) h = rw h refl
uses_cases fd f d (Holding n) h = plain f d (n == fd) h
  where
    plain : (f d b : Bool) → ((not f && not d) && b) ≡ true → (false || ((not f && b) && not d)) ≡ true
    plain f d b h = grind arith
uses_cases fd f d Idle h = absurd (cc)
uses_cases fd f d Binding h = absurd (cc)
uses_cases fd f d (AddressInUse at) h = absurd (cc)
uses_cases fd f d AdoptionFailed h = absurd (cc)

holding_some : (x : EndpointStatus) → is_holding x ≡ true → nat_lt 0 (length (held_of x)) ≡ true
holding_some (Holding n) h = refl
holding_some Idle h = absurd (cc)
holding_some Binding h = absurd (cc)
holding_some (AddressInUse at) h = absurd (cc)
holding_some (Adopting n) h = absurd (cc)
holding_some AdoptionFailed h = absurd (cc)

holding_touched : (x : EndpointStatus) → is_holding x ≡ true → is_touched x ≡ true
holding_touched (Holding n) h = refl
holding_touched Idle h = absurd (cc)
holding_touched Binding h = absurd (cc)
holding_touched (AddressInUse at) h = absurd (cc)
holding_touched (Adopting n) h = absurd (cc)
holding_touched AdoptionFailed h = absurd (cc)

-- an endpoint whose loops have all ended has one that ended
pub done-some : (p : Plan) (d : EndpointsData) (s i : ℕ) → 0 < p.tasks → is_done p d s i ≡ true → (j : ℕ) × (has_loop d.loops s i j ≡ true)
done-some p d s i some h = some_loop d.loops s i (let e = eqb-true (loop_count d.loops s i) p.tasks h in omega (arith, e, some))

pub done-serves : (p : Plan) (d : EndpointsData) (q : Record) → LoopsStand p d q → (s i : ℕ) → is_done p d s i ≡ true → ServesIn p d s i
done-serves p d q loops s i h = let some = done-some p d s i loops.some_tasks h in loops.serve s i some.0 some.1

module _ (p : Plan) (d : EndpointsData) (q : Record) (each : (s i : ℕ) → s < service_count p → i < length (endpoints p s) → StandsAt p (last_at d s i) q s i)
    (failed_is : (s : ℕ) → s < service_count p → failed_at d s ≡ has_failed p q s) where
  -- a service that serves by the states serves by the record
  pub serves-is : (s i : ℕ) → ServesIn p d s i → serves p q s ≡ true
  serves-is s i h = and_from (is_at_work p q s) (list_all (is_held p q s) (endpoint_numbers p s))
      (and_from (is_started q s) (not (has_failed p q s))
      ((each s i h.inside h.within).on_is (holding_touched (last_at d s i) (h.held i h.within)))
      (subst (λ b. not b ≡ true) (sym h.free ∙ failed_is s h.inside) refl))
      (all0 (is_held p q s) (length (endpoints p s))
      (λ k lt. subst (λ (l : List ℕ). nat_lt 0 (length l) ≡ true) ((each s k h.inside lt).held_is) (holding_some (last_at d s k) (h.held k lt))))

  module _ (loops : LoopsStand p d q) (fd : ℕ) where
    holder_is : (s i : ℕ) → s < service_count p → i < length (endpoints p s) → is_holder p q fd s i ≡ is_holder_by d fd s i
    holder_is s i inside within = ap (λ b. not b && is_held_by p q s i fd) (sym (failed_is s inside))
        ∙ ap (λ (l : List ℕ). not (failed_at d s) && is_in fd l) (sym ((each s i inside within).held_is))
        ∙ ap (λ b. not (failed_at d s) && b) (held_is fd (last_at d s i))

    offered_is : (s i : ℕ) → s < service_count p → i < length (endpoints p s)
        → (is_adopt_open q s i && is_in fd (last_adopt q s i)) ≡ has_offer fd (last_at d s i)
    offered_is s i inside within =
        let x = each s i inside within in offer_is fd (last_at d s i) (is_adopt_open q s i) (last_adopt q s i) x.adopting_is x.adopts_is

    done_is : (s i : ℕ) → have_loops_ended p q s i ≡ is_done p d s i
    done_is s i = ap (λ n. n == p.tasks) (sym (loops.counts s i))

    -- by the record, so by the states
    drained_to : is_drained p q fd ≡ true → is_drained_by p d fd ≡ true
    drained_to h =
        let outer = and_parts ((has is_broadcast q && not (is_adopt_of_open p q fd)) && any_endpoint p (is_holder p q fd))
        (each_endpoint p (λ s i. not (is_holder p q fd s i) || (serves p q s && have_loops_ended p q s i))) h in
        let inner = and_parts (has is_broadcast q && not (is_adopt_of_open p q fd)) (any_endpoint p (is_holder p q fd)) outer.0 in
        let calm = (and_parts (has is_broadcast q) (not (is_adopt_of_open p q fd)) inner.0).1 in
        let some = get-endpoint p (is_holder p q fd) inner.1 in
        and_from (any_endpoint p (is_holder_by d fd)) (not (any_endpoint p (is_user p d fd)))
        (any-at_endpoint p (is_holder_by d fd) some.0 some.1 some.2 some.3 (sym (holder_is some.0 some.1 some.2 some.3) ∙ some.4))
        (not_true (any_endpoint p (is_user p d fd)) (λ y. none_uses calm outer.1 (get-endpoint p (is_user p d fd) y)))
      where
        not_true : (b : Bool) → (b ≡ true → ⊥) → not b ≡ true
        not_true b f = rw (false_where b f) refl

        none_uses : not (is_adopt_of_open p q fd) ≡ true
            → each_endpoint p (λ s i. not (is_holder p q fd s i) || (serves p q s && have_loops_ended p q s i)) ≡ true
            → (s : ℕ) × (i : ℕ) × (s < service_count p) × (i < length (endpoints p s)) × (is_user p d fd s i ≡ true) → ⊥
        none_uses calm done (s, i, inside, within, u) =
            elim (or_cases (has_offer fd (last_at d s i)) (is_holder_by d fd s i && not (is_done p d s i))
            (uses_cases fd (failed_at d s) (is_done p d s i) (last_at d s i) u)) [
              | inl o ↦ both (is_adopt_of_open p q fd)
                  (any-at_endpoint p (λ s i. is_adopt_open q s i && is_in fd (last_adopt q s i)) s i inside within (offered_is s i inside within ∙ o)) calm
              | inr k ↦ (let parts = and_parts (is_holder_by d fd s i) (not (is_done p d s i)) k in
                  let here = all_get (λ i. not (is_holder p q fd s i) || (serves p q s && have_loops_ended p q s i)) (length (endpoints p s)) i within
                  (all_get (λ s. list_all (λ i. not (is_holder p q fd s i) || (serves p q s && have_loops_ended p q s i)) (endpoint_numbers p s))
                  (service_count p) s inside done) in
                  ends (is_holder p q fd s i) (serves p q s) (have_loops_ended p q s i) here (holder_is s i inside within ∙ parts.0)
                  (subst (λ b. not b ≡ true) (sym (done_is s i)) parts.1))
            ]
          where
            both : (b : Bool) → b ≡ true → not b ≡ true → ⊥
            both b h g = grind arith

            ends : (h s e : Bool) → (not h || (s && e)) ≡ true → h ≡ true → not e ≡ true → ⊥
            ends h s e a b c = grind arith

    -- by the states, so by the record
    drained_from : is_drained_by p d fd ≡ true → is_drained p q fd ≡ true
    drained_from h =
        let parts = and_parts (any_endpoint p (is_holder_by d fd)) (not (any_endpoint p (is_user p d fd))) h in
        let some = get-endpoint p (is_holder_by d fd) parts.0 in
        let one = done-some p d some.0 some.1 loops.some_tasks (done parts.1 some.0 some.1 some.2 some.3 some.4) in
        and_from ((has is_broadcast q && not (is_adopt_of_open p q fd)) && any_endpoint p (is_holder p q fd))
        (each_endpoint p (λ s i. not (is_holder p q fd s i) || (serves p q s && have_loops_ended p q s i)))
        (and_from (has is_broadcast q && not (is_adopt_of_open p q fd)) (any_endpoint p (is_holder p q fd))
        (and_from (has is_broadcast q) (not (is_adopt_of_open p q fd)) (loops.told some.0 some.1 one.0 one.1)
        (not_true (is_adopt_of_open p q fd) (λ y. none_offered parts.1 (get-endpoint p (λ s i. is_adopt_open q s i && is_in fd (last_adopt q s i)) y))))
        (any-at_endpoint p (is_holder p q fd) some.0 some.1 some.2 some.3 (holder_is some.0 some.1 some.2 some.3 ∙ some.4)))
        (all0 (λ s. list_all (λ i. not (is_holder p q fd s i) || (serves p q s && have_loops_ended p q s i)) (endpoint_numbers p s)) (service_count p)
        (λ s inside.
        all0 (λ i. not (is_holder p q fd s i) || (serves p q s && have_loops_ended p q s i)) (length (endpoints p s))
        (λ i within. elim (cases_Bool (is_holder p q fd s i)) [
          | inr n ↦ rw n refl
          | inl y ↦ (let ended : is_done p d s i ≡ true = done parts.1 s i inside within (sym (holder_is s i inside within) ∙ y) in
              rw (y, serves-is s i (done-serves p d q loops s i ended), done_is s i) ended)
        ])))
      where
        not_true : (b : Bool) → (b ≡ true → ⊥) → not b ≡ true
        not_true b f = rw (false_where b f) refl

        both : (b : Bool) → b ≡ true → not b ≡ true → ⊥
        both b h g = grind arith

        none_offered : not (any_endpoint p (is_user p d fd)) ≡ true
            → (s : ℕ) × (i : ℕ) × (s < service_count p) × (i < length (endpoints p s)) × ((is_adopt_open q s i && is_in fd (last_adopt q s i)) ≡ true) → ⊥
        none_offered none (s, i, inside, within, o) = both (any_endpoint p (is_user p d fd))
            (any-at_endpoint p (is_user p d fd) s i inside within
            (offered_uses fd (failed_at d s) (is_done p d s i) (last_at d s i) (sym (offered_is s i inside within) ∙ o))) none

        done : not (any_endpoint p (is_user p d fd)) ≡ true → (s i : ℕ) → s < service_count p → i < length (endpoints p s) → is_holder_by d fd s i ≡ true
            → is_done p d s i ≡ true
        done none s i inside within h = elim (cases_Bool (is_done p d s i)) [
          | inl y ↦ y
          | inr n ↦ absurd (let parts = and_parts (not (failed_at d s)) (has_held fd (last_at d s i)) h in
              both (any_endpoint p (is_user p d fd))
              (any-at_endpoint p (is_user p d fd) s i inside within
              (held_uses fd (failed_at d s) (is_done p d s i) (last_at d s i) (free (failed_at d s) parts.0) parts.1 n)) none)
        ]
          where
            free : (b : Bool) → not b ≡ true → b ≡ false
            free b h = grind arith

    drained_same : is_drained p q fd ≡ is_drained_by p d fd
    drained_same = bool_same (is_drained p q fd) (is_drained_by p d fd) drained_to drained_from
      where
        bool_same : (a b : Bool) → (a ≡ true → b ≡ true) → (b ≡ true → a ≡ true) → a ≡ b
        bool_same true b f g = sym (f refl)
        bool_same false true f g = g refl
        bool_same false false f g = refl

-- the record's test is the states'
pub drained-is : (p : Plan) (d : EndpointsData) (q : Record) → StatesStand p d q → LoopsStand p d q → (fd : ℕ) → is_drained p q fd ≡ is_drained_by p d fd
drained-is p d q was loops fd = drained_same p d q was.each was.failed_is loops fd

not_true : (b : Bool) → (b ≡ true → ⊥) → not b ≡ true
not_true b f = rw (false_where b f) refl

both : (b : Bool) → b ≡ true → not b ≡ true → ⊥
both b h g = grind arith

-- each holder of what isn't used is done with it
pub unused-done : (p : Plan) (a : EndpointsData) (fd : ℕ) → not (any_endpoint p (is_user p a fd)) ≡ true → (s i : ℕ) → s < service_count p
    → i < length (endpoints p s) → is_holder_by a fd s i ≡ true → is_done p a s i ≡ true
unused-done p a fd none s i inside within h = elim (cases_Bool (is_done p a s i)) [
  | inl y ↦ y
  | inr n ↦ absurd (let parts = and_parts (not (failed_at a s)) (has_held fd (last_at a s i)) h in
      both (any_endpoint p (is_user p a fd))
      (any-at_endpoint p (is_user p a fd) s i inside within
      (held_uses fd (failed_at a s) (is_done p a s i) (last_at a s i) (free (failed_at a s) parts.0) parts.1 n)) none)
]
  where
    free : (b : Bool) → not b ≡ true → b ≡ false
    free b h = grind arith

-- what is drained stays so, where a holder that is done stays a holder, and no user comes
pub drained-grows : (p : Plan) (a b : EndpointsData) (fd : ℕ)
    → ((s i : ℕ) → is_holder_by a fd s i ≡ true → is_done p a s i ≡ true → is_holder_by b fd s i ≡ true)
    → ((s i : ℕ) → s < service_count p → i < length (endpoints p s) → is_user p b fd s i ≡ true → is_user p a fd s i ≡ true) → is_drained_by p a fd ≡ true
    → is_drained_by p b fd ≡ true
drained-grows p a b fd stays none h =
    let parts = and_parts (any_endpoint p (is_holder_by a fd)) (not (any_endpoint p (is_user p a fd))) h in
    let some = get-endpoint p (is_holder_by a fd) parts.0 in
    and_from (any_endpoint p (is_holder_by b fd)) (not (any_endpoint p (is_user p b fd)))
    (any-at_endpoint p (is_holder_by b fd) some.0 some.1 some.2 some.3
    (stays some.0 some.1 some.4 (unused-done p a fd parts.1 some.0 some.1 some.2 some.3 some.4)))
    (not_true (any_endpoint p (is_user p b fd)) (λ y. let u = get-endpoint p (is_user p b fd) y in
    both (any_endpoint p (is_user p a fd)) (any-at_endpoint p (is_user p a fd) u.0 u.1 u.2 u.3 (none u.0 u.1 u.2 u.3 u.4)) parts.1))

-- while no loop ended nothing is drained
pub early-none : (p : Plan) (d : EndpointsData) (fd : ℕ) → 0 < p.tasks → d.loops ≡ [] → is_drained_by p d fd ≡ false
early-none p d fd some early = false_where (is_drained_by p d fd) (λ y.
    let parts = and_parts (any_endpoint p (is_holder_by d fd)) (not (any_endpoint p (is_user p d fd))) y in
    let one = get-endpoint p (is_holder_by d fd) parts.0 in
    let ended = done-some p d one.0 one.1 some (unused-done p d fd parts.1 one.0 one.1 one.2 one.3 one.4) in
    let none : has_loop d.loops one.0 one.1 ended.0 ≡ false = ap (λ l. has_loop l one.0 one.1 ended.0) early in
    clash (has_loop d.loops one.0 one.1 ended.0) ended.1 none)

-- what an endpoint uses isn't drained
pub used-not_drained : (p : Plan) (d : EndpointsData) (fd s i : ℕ) → s < service_count p → i < length (endpoints p s) → is_user p d fd s i ≡ true
    → is_drained_by p d fd ≡ false
used-not_drained p d fd s i inside within u =
    false_where (is_drained_by p d fd) (λ y. let parts = and_parts (any_endpoint p (is_holder_by d fd)) (not (any_endpoint p (is_user p d fd))) y in
    both (any_endpoint p (is_user p d fd)) (any-at_endpoint p (is_user p d fd) s i inside within u) parts.1)
  where
    both : (b : Bool) → b ≡ true → not b ≡ true → ⊥
    both b h g = grind arith
